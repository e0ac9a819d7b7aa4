use Rattle.std.proofs.Common.{◌≡◌, ◌-◌, ◌≤◌, ◌<◌, ℕ, length, Some, slice_get}
use Rattle.rec_diff.specs.Placed.{Placed}
use Rattle.rec_diff.specs.proving.Making.{IsAmongThese}
use Rattle.rec_diff.specs.proving.Reading.{placed_of}
use Rattle.rec_diff.proofs.reverting.making.among_from.Given as goal

-- what there is among those so far, which all begin before the end
abbrev pub invariant-loop-element : goal.invariant-loop-element
invariant-loop-element l = record {
  low : l.first ≤ l.index;
  before : (i : ℕ) (x : Placed) → l.first ≤ i → i < l.index → slice_get (placed_of l.reading).elements i ≡ Some x → x.at < l.end;
  these : IsAmongThese (placed_of l.reading) l.first l.index l.among;
}

abbrev pub decreases-loop-element : goal.decreases-loop-element
decreases-loop-element l = length (placed_of l.reading).elements - l.index
