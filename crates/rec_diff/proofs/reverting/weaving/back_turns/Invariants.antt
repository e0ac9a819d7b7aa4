use Rattle.std.proofs.Common.{◌≡◌, ◌++◌, drop, map}
use Rattle.rec_diff.specs.proving.Moving.{AreTurnable, turns_after}
use Rattle.rec_diff.specs.proving.Weaving.{at_start, back_hunk}
use Rattle.rec_diff.proofs.reverting.weaving.back_turns.Given as goal

-- the turns so far, and those of the hunks that are left
abbrev pub invariant-loop-back : goal.invariant-loop-back
invariant-loop-back l = record {
  turns : l.turns.items ++ turns_after l.last (map back_hunk (drop l.back-index l.backs)) ≡ turns_after at_start (map back_hunk l.backs);
  left : AreTurnable l.last (map back_hunk (drop l.back-index l.backs));
}
