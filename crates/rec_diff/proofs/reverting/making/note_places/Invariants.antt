use Rattle.std.proofs.Common.{◌≡◌, ◌⊎◌, ℕ, List, Option, drop, length}
use Rattle.rec_diff.specs.proving.Making.{AreInPlaceIn, AreLeast, ArePassed, AreSharedBy}
use Rattle.rec_diff.specs.proving.Reading.{placed_of, text_of_reading}
use Rattle.rec_diff.specs.proving.Turns.{AreIn}
use Rattle.rec_diff.proofs.reverting.making.note_places.Given as goal

-- what is noted so far, and the elements that are passed in both texts
abbrev pub invariant-loop-turn : goal.invariant-loop-turn
invariant-loop-turn l = record {
  least : (numbers : List (Option ℕ)) → AreLeast (AreSharedBy (placed_of l.one) (placed_of l.other) numbers) l.initial.made.items
      → AreLeast (λ r k. AreSharedBy (placed_of l.one) (placed_of l.other) numbers r k ⊎ AreInPlaceIn (placed_of l.one) (placed_of l.other) l.turn-index l.turns r k) l.made.items;
  length : length l.made.items ≡ length l.initial.made.items;
  left : (from : ℕ) × (there : ℕ) × AreIn (text_of_reading l.one) (text_of_reading l.other) from there (drop l.turn-index l.turns) × ArePassed (placed_of l.one) l.old from
      × ArePassed (placed_of l.other) l.new there;
}
