use Rattle.std.proofs.Common.{◌≡◌, ◌++◌, drop}
use Rattle.rec_diff.specs.proving.Moving.{AreTurnable, turns_after}
use Rattle.rec_diff.specs.proving.Weaving.{at_start}
use Rattle.rec_diff.proofs.reverting.edits.cuts_of.Given as goal

-- the turns so far, and those of the hunks that are left
abbrev pub invariant-loop-hunk : goal.invariant-loop-hunk
invariant-loop-hunk l = record {
  turns : l.turns.items ++ turns_after l.last (drop l.hunk-index l.hunks) ≡ turns_after at_start l.hunks;
  left : AreTurnable l.last (drop l.hunk-index l.hunks);
}
