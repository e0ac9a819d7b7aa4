use Rattle.std.proofs.Common.{◌≡◌, ◌++◌, map}
use Rattle.std.specs.Vec.Iter.{into_iter_items}
use Rattle.rec_edit.proofs.request.pairs_of.Given as goal

-- the names and values so far, and those that are left
abbrev pub invariant-loop-name : goal.invariant-loop-name
invariant-loop-name l =
    (map (λ pair. pair.name) l.pairs.items ++ into_iter_items l.name-iterator.a ≡ l.fn.names.items)
    × (map (λ pair. pair.value) l.pairs.items ++ into_iter_items l.name-iterator.b ≡ l.fn.values.items)
