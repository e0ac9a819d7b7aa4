-- Walks over the elements and the records of a text.
use Rattle.std.specs.Prelude.{ℕ, ◌<◌, ◌≤◌, List, length, drop}
use Rattle.std.specs.List.{AllByRecursion}
use Rattle.std.specs.declared.ops.Range.{Range}
use Rattle.rec_text.specs.Records.{AreAscending}
use Rattle.rec_check.specs.declared.set.Set_.{Set_}
use Rattle.rec_check.specs.Sets.{BeginsAt}

-- each record has elements, of which there are this many
abbrev pub AreWithin : ℕ → List (Range ℕ) → Type 0
AreWithin size records =
    AllByRecursion (λ own_range. (own_range.start < own_range.end) × (own_range.end ≤ size)) records

-- the records of a set lie ahead of a walk that has passed this many elements, its descriptor first
pub record IsNextSet (passed : ℕ) (records : List (Range ℕ)) (s : Set_) : Type 0 where
  pub at : ℕ
  pub begins : BeginsAt at s
  pub within : s.members.end ≤ length records
  pub ahead : AreAscending passed (drop at records)
