use Rattle.std.proofs.Common.{◌≡◌}
use Rattle.std.specs.Slice.Iter.{iter_rest}
use Rattle.std.specs.Iterator.Adapters.{zip_first, zip_second}
use Rattle.rec_diff.specs.proving.Keeping.{all_numbered}
use Rattle.rec_diff.proofs.reverting.keeping.sides.have_numbers.Given as goal

-- those so far have their numbers
abbrev pub invariant-loop-element : goal.invariant-loop-element
invariant-loop-element l = all_numbered l.numbers (iter_rest (zip_first l.element-iterator)) (iter_rest (zip_second l.element-iterator)) ≡ all_numbered l.numbers l.elements l.wanted
