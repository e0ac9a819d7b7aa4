use Rattle.std.proofs.Common.{◌≡◌, ◌+◌, length, vec_len, vec_capacity}
use Rattle.std.specs.Vec.Iter.{into_iter_items}
use Rattle.rec_diff.specs.proving.Backs.{IsTurnedTo}
use Rattle.rec_diff.proofs.diffs.turned.Given as goal

-- the hunks so far are turned, and there is room for those that are left
abbrev pub invariant-loop-hunk : goal.invariant-loop-hunk
invariant-loop-hunk l = record {
  turned : IsTurnedTo l.fn.hunks.items l.back.items l.before l.after (into_iter_items l.hunk-iterator);
  room : vec_len l.back + length (into_iter_items l.hunk-iterator) ≡ vec_capacity l.back;
}
