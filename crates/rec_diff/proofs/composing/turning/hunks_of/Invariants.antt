use Rattle.std.proofs.Common.{◌≡◌, ◌+◌, drop}
use Rattle.rec_diff.specs.Composing.{deed_hunks}
use Rattle.rec_diff.specs.proving.Runs.{run_deeds, old_count, hunks_with, reached}
use Rattle.rec_diff.proofs.composing.turning.hunks_of.Given as goal

-- the hunks so far, and those of the runs that are left
abbrev pub invariant-loop-run : goal.invariant-loop-run
invariant-loop-run l = record {
  deeds : hunks_with l.turning (run_deeds (drop l.run-index l.runs)) ≡ deed_hunks (run_deeds l.runs);
  place : reached l.turning + old_count (run_deeds (drop l.run-index l.runs)) ≡ old_count (run_deeds l.runs);
}
