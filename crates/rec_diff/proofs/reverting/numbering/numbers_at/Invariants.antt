use Rattle.std.proofs.Common.{◌≡◌, ◌≤◌, ◌++◌, ℕ, drop}
use Rattle.std.specs.Slice.Iter.{iter_rest}
use Rattle.std.specs.Iterator.Adapters.{zip_first, zip_second}
use Rattle.rec_diff.specs.proving.Numbering.{AreInOrder, number_in, numbers_there}
use Rattle.rec_diff.proofs.reverting.numbering.numbers_at.Given as goal

-- the numbers so far, and those that are left; for the places that are left the elements that were passed tell nothing
abbrev pub invariant-loop-element : goal.invariant-loop-element
invariant-loop-element l = record {
  found : l.found.items ++ numbers_there l.others (iter_rest (zip_first l.element-iterator)) (iter_rest (zip_second l.element-iterator)) ≡ numbers_there l.others l.elements l.places;
  left : (least : ℕ) × AreInOrder least (iter_rest (zip_second l.element-iterator))
      × ((later size : ℕ) → least ≤ later → number_in 0 l.others later size ≡ number_in l.index (drop l.index l.others) later size);
}
