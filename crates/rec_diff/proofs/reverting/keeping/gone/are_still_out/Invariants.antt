use Rattle.std.proofs.Common.{◌≡◌, ◌≤◌, ◌<◌, ℕ, length}
use Rattle.std.specs.List.{AllByRecursion}
use Rattle.std.specs.Slice.Iter.{iter_rest}
use Rattle.std.specs.Iterator.Adapters.{zip_first, zip_second}
use Rattle.rec_text.specs.declared.element.Element.{Element}
use Rattle.rec_text.specs.Places.{AreFrom}
use Rattle.rec_diff.specs.Placed.{Placed, size}
use Rattle.rec_diff.specs.proving.Keeping.{AreAfter, all_out, is_out_by}
use Rattle.rec_diff.proofs.reverting.keeping.gone.are_still_out.Given as goal

-- none of those so far; with those turns that were passed nothing of the rest goes
abbrev pub invariant-loop-element : goal.invariant-loop-element
invariant-loop-element l = record {
  out : all_out l.turns (iter_rest (zip_first l.element-iterator)) (iter_rest (zip_second l.element-iterator)) ≡ all_out l.turns l.elements l.numbers;
  order : (least : ℕ) × AreAfter least l.left;
  some : AllByRecursion (λ (e : Element). 0 < length e.raw.now) (iter_rest (zip_first l.element-iterator));
  same : (at : ℕ) × AreFrom at (iter_rest (zip_first l.element-iterator)) × ((x : Placed) → at ≤ x.at → 0 < size x → is_out_by l.turns x ≡ is_out_by l.left x);
}
