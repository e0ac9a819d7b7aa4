use Rattle.std.proofs.Common.{◌≡◌, ◌++◌, map, take}
use Rattle.rec_diff.specs.proving.Reading.{owner_in}
use Rattle.rec_diff.proofs.reverting.reading.add_owners.Given as goal

abbrev pub invariant-loop-element : goal.invariant-loop-element
invariant-loop-element l = l.owners.items ≡ l.initial.owners.items ++ map (owner_in l.number) (take l.element-index l.elements)
