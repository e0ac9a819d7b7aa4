use Rattle.std.proofs.Common.{◌≡◌, ◌++◌, ◌+◌}
use Rattle.rec_diff.specs.Composing.{then_others}
use Rattle.rec_diff.specs.proving.Runs.{run_deeds, deeds_ahead, amount_left}
use Rattle.rec_diff.proofs.composing.merging.merge.Given as goal

-- what was merged so far, and what is left of both
abbrev pub invariant-loop-meeting : goal.invariant-loop-meeting
invariant-loop-meeting l = run_deeds l.merged.items ++ then_others (deeds_ahead l.first) (deeds_ahead l.second) ≡ then_others (run_deeds l.one) (run_deeds l.other)

abbrev pub decreases-loop-meeting : goal.decreases-loop-meeting
decreases-loop-meeting l = amount_left l.first + amount_left l.second
