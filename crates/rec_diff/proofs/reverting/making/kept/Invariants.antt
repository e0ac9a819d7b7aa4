use Rattle.std.proofs.Common.{◌≡◌, ◌<◌, ℕ, length, Some, slice_get}
use Rattle.rec_diff.proofs.reverting.making.kept.Given as goal

abbrev pub invariant-loop-record : goal.invariant-loop-record
invariant-loop-record l = record {
  each : (k : ℕ) → k < l.record → slice_get l.made.items k ≡ Some (Some k);
  length : length l.made.items ≡ l.record;
}
