-- How many landmarks can follow one another.
use Rattle.std.specs.Prelude.{◌≡◌, ℕ, ◌+◌, ◌<◌, ◌≤◌, List, [], ◌∷◌, length, reverse, slice_index}
use Rattle.rec_diff.specs.declared.turn.Place.{Place}
use Rattle.rec_diff.specs.declared.comparing.choosing.Ranking.{Ranking}
use Rattle.rec_diff.specs.Comparing.{longest_from}

-- how many can follow one another from this place of the new text on
abbrev pub reach : ℕ → List Place → ℕ
reach least marks = length (longest_from least marks)

-- from each one on, itself included
abbrev pub ranks_of : List Place → List ℕ
ranks_of [] = []
ranks_of (m ∷ marks) = (reach (m.new + 1) marks + 1) ∷ ranks_of marks

-- the nth is the greatest place from which more than n can
pub record AreTops (marks : List Place) (tops : List ℕ) : Type 0 where
  pub within : (least n : ℕ) → n < reach least marks → (n < length tops) × (least ≤ slice_index tops n)
  pub reached : (least n : ℕ) → n < length tops → least ≤ slice_index tops n → n < reach least marks

pub record IsRanking (marks : List Place) (ranking : Ranking) : Type 0 where
  pub ranks : ranking.ranks.items ≡ reverse (ranks_of marks)
  pub tops : AreTops marks ranking.tops.items
