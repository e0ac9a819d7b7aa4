use Rattle.std.proofs.Common.{◌≡◌, ◌++◌, drop}
use Rattle.rec_diff.specs.proving.Moved.{ahead_of}
use Rattle.rec_diff.specs.proving.Moving.{AllCanMove, passing, turns_ahead}
use Rattle.rec_diff.specs.proving.Weaving.{at_start}
use Rattle.rec_diff.proofs.reverting.weaving.ahead_turns.Given as goal

-- the turns so far, and those of the later ones that are left
abbrev pub invariant-loop-other : goal.invariant-loop-other
invariant-loop-other l = record {
  turns : l.turns.items ++ turns_ahead (drop l.other-index l.later) (ahead_of l.ahead) ≡ turns_ahead l.later (passing l.change l.back at_start at_start);
  left : AllCanMove (drop l.other-index l.later) (ahead_of l.ahead);
}
