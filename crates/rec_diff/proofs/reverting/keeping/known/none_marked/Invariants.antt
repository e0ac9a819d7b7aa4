use Rattle.std.proofs.Common.{◌≡◌, ◌<◌, ℕ, false, length, Some, slice_get}
use Rattle.rec_diff.proofs.reverting.keeping.known.none_marked.Given as goal

abbrev pub invariant-loop-number : goal.invariant-loop-number
invariant-loop-number l = record {
  each : (k : ℕ) → k < l.number → slice_get l.made.items k ≡ Some false;
  length : length l.made.items ≡ l.number;
}
