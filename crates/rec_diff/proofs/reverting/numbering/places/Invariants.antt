use Rattle.std.proofs.Common.{◌≡◌, ◌≤◌, ℕ, drop, take}
use Rattle.rec_text.specs.Places.{AreFrom}
use Rattle.rec_diff.specs.proving.Numbering.{place_there, places_there}
use Rattle.rec_diff.specs.proving.Weaving.{AreInStep, at_start}
use Rattle.rec_diff.proofs.reverting.numbering.places.Given as goal

-- the places so far; for the elements that are left the turns that were passed tell nothing
abbrev pub invariant-loop-element : goal.invariant-loop-element
invariant-loop-element l = record {
  found : l.found.items ≡ places_there at_start l.turns (take l.element-index l.elements);
  left : (at : ℕ) × AreFrom at (drop l.element-index l.elements) × (l.walk.place.old ≤ at)
      × ((later size : ℕ) → at ≤ later → place_there at_start l.turns later size ≡ place_there l.walk.place l.walk.turns.now later size);
  in_step : AreInStep l.fn.last l.walk.place l.walk.turns.now;
}
