use Rattle.std.proofs.Common.{◌≡◌, ◌≤◌, ◌<◌, ℕ, length}
use Rattle.rec_diff.specs.Placed.{Placed, size}
use Rattle.rec_diff.specs.proving.Keeping.{AreAfter, is_out_by}
use Rattle.rec_diff.proofs.reverting.keeping.gone.turns_after.Given as goal

-- with those that were passed nothing goes that is later
abbrev pub invariant-loop-turn : goal.invariant-loop-turn
invariant-loop-turn l = record {
  order : (least : ℕ) × AreAfter least l.left;
  same : (x : Placed) → l.at ≤ x.at → 0 < size x → is_out_by l.turns x ≡ is_out_by l.left x;
}

abbrev pub decreases-loop-turn : goal.decreases-loop-turn
decreases-loop-turn l = length l.left
