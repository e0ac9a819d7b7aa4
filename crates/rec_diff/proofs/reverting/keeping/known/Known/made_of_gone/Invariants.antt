use Rattle.std.proofs.Common.{◌≡◌, ◌↔◌, ◌<◌, ℕ, true, Some, length, slice_get}
use Rattle.rec_diff.specs.proving.Keeping.{IsOfGoneIn}
use Rattle.rec_diff.specs.proving.Reading.{placed_of}
use Rattle.rec_diff.proofs.reverting.keeping.known.Known.made_of_gone.Given as goal

-- those so far
abbrev pub invariant-loop-new : goal.invariant-loop-new
invariant-loop-new l = record {
  index : l.number ≡ l.new-index;
  lengths : length l.made.items ≡ length (placed_of l.fn.self.readings.now.here).records;
  marked : (j : ℕ) → j < length (placed_of l.fn.self.readings.now.here).records → (slice_get l.made.items j ≡ Some true)
      ↔ IsOfGoneIn l.new-index l.led (placed_of l.fn.self.readings.now.before) (placed_of l.fn.self.readings.now.here) l.fn.self.before.now.to_left.items j;
}
