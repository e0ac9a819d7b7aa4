use Rattle.std.proofs.Common.{map, take}
use Rattle.rec_edit.specs.proving.Filling.{AreNamesOf}
use Rattle.rec_edit.proofs.automatic.names_of.Given as goal

abbrev pub invariant-loop-pair : goal.invariant-loop-pair
invariant-loop-pair l = AreNamesOf l.names (map (λ pair. pair.name) (take l.pair-index l.pairs))
