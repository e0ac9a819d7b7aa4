use Rattle.std.proofs.Common.{◌≡◌, ◌≤◌, ℕ, length}
use Rattle.rec_diff.specs.proving.Numbering.{place_there}
use Rattle.rec_diff.specs.proving.Weaving.{AreInStep}
use Rattle.rec_diff.proofs.reverting.numbering.pass.Given as goal

-- no later bytes are touched by the turns that were passed
abbrev pub invariant-loop-turn : goal.invariant-loop-turn
invariant-loop-turn l = record {
  past : (later size : ℕ) → l.fn.at ≤ later → place_there l.fn.walk.place l.fn.walk.turns.now later size ≡ place_there l.next.place l.next.turns.now later size;
  in_step : AreInStep l.fn.last l.next.place l.next.turns.now;
  reached : l.next.place.old ≤ l.fn.at;
}

abbrev pub decreases-loop-turn : goal.decreases-loop-turn
decreases-loop-turn l = length l.next.turns.now
