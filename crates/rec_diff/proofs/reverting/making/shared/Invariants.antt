use Rattle.std.proofs.Common.{◌≡◌, length}
use Rattle.rec_diff.specs.proving.Making.{AreLeast, AreSharedIn}
use Rattle.rec_diff.specs.proving.Reading.{placed_of}
use Rattle.rec_diff.proofs.reverting.making.shared.Given as goal

-- what is noted so far
abbrev pub invariant-loop-number : goal.invariant-loop-number
invariant-loop-number l = record {
  least : AreLeast (AreSharedIn (placed_of l.one) (placed_of l.other) l.number-index l.numbers) l.made.items;
  length : length l.made.items ≡ length (placed_of l.one).records;
  index : l.index ≡ l.number-index;
}
