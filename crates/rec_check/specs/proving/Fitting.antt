-- Fields and the types that they have.
use Rattle.std.specs.Prelude.{◌≡◌, ℕ, ◌<◌, Bool, List, length, slice_get, Option, Some, option_and_then, option_map}
use Rattle.std.specs.Prelude.{unwrap_or}
use Rattle.std.specs.Borrow.{Bor}
use Rattle.std.specs.HashMap.{HashMap, get_by}
use Rattle.std.specs.Str.{bytes_eq}
use Rattle.regex.specs.Patterns.{Re}
use Rattle.rec_check.specs.declared.field_types.optional_test.OptionalTest.{OptionalTest}
use Rattle.rec_check.specs.Stored.{type_stored}
use Rattle.rec_check.specs.Types.{FieldType, unchecked}
use Rattle.rec_check.specs.Words.{last_that}

-- the type that values are tried for; where there is none, any value fits
abbrev pub type_tested : OptionalTest → FieldType Re
type_tested test = unwrap_or (option_map (λ lazy. type_stored lazy.value_type.now) test.lazy) unchecked

-- the place of each name is that of the last element that has it
pub record FindLast {X : Type 0} (has : X → List ℕ → Bool) (xs : List X) (place : List ℕ → Option ℕ) : Type 0 where
  pub finds : (name : List ℕ) → option_and_then (slice_get xs) (place name) ≡ last_that (λ x. has x name) xs
  pub below : (name : List ℕ) (at : ℕ) → place name ≡ Some at → at < length xs

abbrev pub place_of : {S : Type 0} → HashMap (Bor (List ℕ)) ℕ S → List ℕ → Option ℕ
place_of places name = get_by (λ one. bytes_eq name one.now) places
