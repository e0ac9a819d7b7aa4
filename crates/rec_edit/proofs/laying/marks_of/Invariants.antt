use Rattle.std.proofs.Common.{◌≡◌, ◌<◌, ◌==◌, ℕ, false, get_or, length, take}
use Rattle.std.specs.List.{list_any}
use Rattle.rec_edit.proofs.laying.marks_of.Given as goal

abbrev pub invariant-loop-place : goal.invariant-loop-place
invariant-loop-place l = record {
  size : length l.marks.items ≡ l.count;
  each : (i : ℕ) → i < l.count → get_or l.marks.items i false ≡ list_any (λ place. place == i) (take l.place-index l.places);
}
