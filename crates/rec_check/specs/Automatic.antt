-- Automatic values: the next number of a counter.
use Rattle.std.specs.Prelude.{◌≡◌, ◌⊎◌, ℕ, ℤ, pos, ◌-◌, ◌^◌, ◌==◌, ◌+ℤ◌, int_lt, Bool, true, false, ◌&&◌, not, List, []}
use Rattle.std.specs.Prelude.{◌∷◌, All, Contains, flat_map, filter_map, slice_get, Option, Some, None, Result, Ok, Err}
use Rattle.std.specs.Option.{option_map_or}
use Rattle.std.specs.declared.ops.Range.{Range}
use Rattle.regex.specs.Patterns.{Re}
use Rattle.rec_text.specs.declared.fault.Fault.{Fault}
use Rattle.rec_text.specs.declared.fault.Fault.TheVariants.{AutoImpossible}
use Rattle.rec_text.specs.Ascii.{percent_sign}
use Rattle.rec_text.specs.Elements.{Piece}
use Rattle.rec_text.specs.Records.{AreRecords}
use Rattle.rec_sex.specs.Integers.{int_of}
use Rattle.rec_sex.specs.Meaning.{values_of}
use Rattle.rec_check.specs.declared.set.Set_.{Set_}
use Rattle.rec_text.specs.Records.{elements_in}
use Rattle.rec_check.specs.Rules.{Rules, field_type}
use Rattle.rec_check.specs.Schemas.{Described}
use Rattle.rec_check.specs.Types.{FieldType, integer, range}
use Rattle.rec_check.specs.Violations.{members}
use Rattle.rec_check.specs.Words.{distinct}

-- the names of a set's counters: those of all its `%auto` fields, in their order, each where it stands first
abbrev pub automatic_names : Rules → List (List ℕ)
automatic_names rules = distinct rules.automatic

-- the counters of the set at this place; none where there is no set
abbrev pub automatic_of : Described → ℕ → List (List ℕ)
automatic_of schema place = option_map_or automatic_names (slice_get schema.rules place) []

-- a field without a type, and one of integers, may count
abbrev pub may_count : Option (FieldType Re) → Bool
may_count None = true
may_count (Some integer) = true
may_count (Some (range least greatest)) = true
may_count (Some _) = false

-- a `%` comes first
abbrev pub begins_special : List ℕ → Bool
begins_special [] = false
begins_special (b ∷ bs) = b == percent_sign

abbrev pub is_counter : Rules → List ℕ → Bool
is_counter rules name = not (begins_special name) && may_count (field_type rules name)

-- the integer readings of the fields of a name in some records
abbrev pub readings : List Piece → List (Range ℕ) → List ℕ → List ℤ
readings pieces records name =
    flat_map (λ own_range. filter_map int_of (values_of name (elements_in pieces own_range))) records

pub record IsGreatest (numbers : List ℤ) (greatest : ℤ) : Type 0 where
  pub among : Contains numbers greatest
  pub most : All (λ z. int_lt greatest z ≡ false) numbers

-- the greatest integer of 64 bits
abbrev pub last_integer : ℤ
last_integer = pos (2 ^ 63 - 1)

-- one more than the greatest reading, 0 where there is none; there is no such value after the last integer, and none of
-- a field that isn't a counter
abbrev pub IsNext : Rules → List ℕ → List ℤ → Result ℤ Fault → Type 0
IsNext rules name numbers (Ok z) = (is_counter rules name ≡ true)
    × (((numbers ≡ []) × (z ≡ pos 0))
    ⊎ ((greatest : ℤ) × IsGreatest numbers greatest × (int_lt greatest last_integer ≡ true) × (z ≡ greatest +ℤ pos 1)))
IsNext rules name numbers (Err AutoImpossible) = (is_counter rules name ≡ false) ⊎ IsGreatest numbers last_integer
IsNext rules name numbers (Err _) = ⊥

-- the one answer for a field of the set at this place, memory aside
pub record IsAutomatic (pieces : List Piece) (schema : Described) (place : ℕ) (name : List ℕ) (answer : Result ℤ Fault)
    : Type 0 where
  pub records : List (Range ℕ)
  pub are : AreRecords pieces records
  pub s : Set_
  pub rules : Rules
  pub is_set : slice_get schema.sets place ≡ Some s
  pub are_rules : slice_get schema.rules place ≡ Some rules
  pub next : IsNext rules name (readings pieces (members records s) name) answer
