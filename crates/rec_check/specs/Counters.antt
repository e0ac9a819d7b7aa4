-- Counters that go on from number to number.
use Rattle.std.specs.Prelude.{◌≡◌, ℕ, ℤ, true, ◌&&◌, not, List, [], map, slice_get, Option, Some, None, option_map}
use Rattle.std.specs.Prelude.{unwrap_or}
use Rattle.std.specs.Borrow.{Bor}
use Rattle.std.specs.HashMap.{HashMap, get_by}
use Rattle.std.specs.List.{AllByRecursion}
use Rattle.std.specs.Str.{bytes_eq}
use Rattle.std.specs.declared.ops.Range.{Range}
use Rattle.regex.specs.Patterns.{Re}
use Rattle.rec_text.specs.Elements.{Piece}
use Rattle.rec_text.specs.Records.{AreRecords}
use Rattle.rec_check.specs.declared.automatic.counter.Counter.{Counter}
use Rattle.rec_check.specs.declared.set.Set_.{Set_}
use Rattle.rec_check.specs.Automatic.{IsGreatest, automatic_names, begins_special, is_counter, may_count, readings}
use Rattle.rec_check.specs.Counting.{greatest_from}
use Rattle.rec_check.specs.Rules.{Rules}
use Rattle.rec_check.specs.Schemas.{Described}
use Rattle.rec_check.specs.Types.{FieldType}
use Rattle.rec_check.specs.Violations.{members}
use Rattle.rec_text.specs.Bytes.{is_among}

-- ---- the greatest number of each name

-- what is kept for a name: the greatest of its numbers, if it has any
abbrev pub greatest_at : {S : Type 0} → HashMap (Bor (List ℕ)) (Option ℤ) S → List ℕ → Option (Option ℤ)
greatest_at greatest name = get_by (λ one. bytes_eq name one.now) greatest

-- the numbers of the names that are kept have been counted
abbrev pub Counts : (List ℕ → Option (Option ℤ)) → (List ℕ → Option (Option ℤ)) → (List ℕ → List ℤ) → Type 0
Counts old new numbers =
    (name : List ℕ) → new name ≡ option_map (λ so_far. greatest_from so_far (numbers name)) (old name)

-- these names are kept, and have no number
abbrev pub CountsFrom : List (List ℕ) → (List ℕ → Option (Option ℤ)) → Type 0
CountsFrom names greatest = (name : List ℕ) → is_among names name ≡ true → greatest name ≡ Some None

-- of each of these names the greatest of its numbers is kept
abbrev pub HoldsGreatest : List (List ℕ) → (List ℕ → Option (Option ℤ)) → (List ℕ → List ℤ) → Type 0
HoldsGreatest names greatest numbers =
    (name : List ℕ) → is_among names name ≡ true → greatest name ≡ Some (greatest_from None (numbers name))

-- ---- counters

-- the greatest of these numbers, where there is one
abbrev pub IsTopOf : Option ℤ → List ℤ → Type 0
IsTopOf None numbers = numbers ≡ []
IsTopOf (Some greatest) numbers = IsGreatest numbers greatest

-- a counter under these rules, whose fields have these numbers
pub record IsCounterOf (rules : Rules) (numbers : List ℤ) (counter : Counter) : Type 0 where
  pub counts : counter.counts ≡ is_counter rules counter.name.now
  pub greatest : IsTopOf counter.greatest numbers

abbrev pub counter_names : List Counter → List (List ℕ)
counter_names counters = map (λ counter. counter.name.now) counters

-- it counts as its type does, on from what is kept for its name
pub record IsKept (types : List ℕ → Option (FieldType Re)) (greatest : List ℕ → Option (Option ℤ)) (counter : Counter)
    : Type 0 where
  pub counts : counter.counts ≡ (not (begins_special counter.name.now) && may_count (types counter.name.now))
  pub greatest_is : counter.greatest ≡ unwrap_or (greatest counter.name.now) None

-- the counters of a set with these rules; these are the numbers of each name
pub record AreCounters (rules : Rules) (numbers : List ℕ → List ℤ) (counters : List Counter) : Type 0 where
  pub names : counter_names counters ≡ automatic_names rules
  pub each : AllByRecursion (λ counter. IsCounterOf rules (numbers counter.name.now) counter) counters

-- ---- those of a set

-- the records of the set at this place
abbrev pub AreMembersAt : List Piece → Described → ℕ → List (Range ℕ) → Type 0
AreMembersAt pieces schema place own =
    (records : List (Range ℕ)) (s : Set_) → AreRecords pieces records → slice_get schema.sets place ≡ Some s
    → own ≡ members records s

-- the counters of the set at this place, for whose records no number has been given
abbrev pub AreCountersAt : List Piece → Described → ℕ → List Counter → Type 0
AreCountersAt pieces schema place counters =
    (records : List (Range ℕ)) (s : Set_) (rules : Rules) → AreRecords pieces records
    → slice_get schema.sets place ≡ Some s → slice_get schema.rules place ≡ Some rules
    → AreCounters rules (readings pieces (members records s)) counters
