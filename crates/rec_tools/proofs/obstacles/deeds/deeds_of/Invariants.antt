use Rattle.std.proofs.Common.{drop}
use Rattle.rec_tools.specs.proving.Reverting.{AreInARow}
use Rattle.rec_tools.proofs.obstacles.deeds.deeds_of.Given as goal

-- those that are left
abbrev pub invariant-loop-edit : goal.invariant-loop-edit
invariant-loop-edit l = AreInARow (drop l.edit-index l.edits)
