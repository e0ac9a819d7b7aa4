-- How values are tried for a type: each test answers as the type does.
use Rattle.std.specs.Prelude.{◌≡◌, ℕ, List, Bool, true, false, Option, Some}
use Rattle.regex.specs.Strings.{matcher_pattern}
use Rattle.rec_sex.specs.Integers.{trimmed}
use Rattle.rec_sex.specs.Meaning.{is_found}
use Rattle.rec_check.specs.declared.field_types.field_type.FieldType.{FieldType}
use Rattle.rec_check.specs.declared.field_types.field_type.FieldType.TheVariants.{Matching}
use Rattle.rec_check.specs.declared.field_types.test.Test.{Test}
use Rattle.rec_check.specs.declared.field_types.test.Test.TheVariants.{Direct, Words, Pattern}
use Rattle.rec_sex.specs.proving.Choices.{has_name}
use Rattle.rec_check.specs.Stored.{type_stored}
use Rattle.rec_check.specs.Types.{fits}

-- the type has no pattern
abbrev pub is_plain : FieldType → Bool
is_plain (Matching pattern) = false
is_plain _ = true

-- a type with a pattern isn't tried by itself
abbrev pub may_serve : Test → FieldType → Bool
may_serve Direct value_type = is_plain value_type
may_serve _ value_type = true

-- what a test answers of a value of the type
abbrev pub passes : Test → FieldType → List ℕ → Bool
passes Direct value_type value = fits (type_stored value_type) value
passes (Words words) value_type value = has_name words (trimmed value)
passes (Pattern matcher) value_type value = is_found (matcher_pattern matcher.value) value

-- the test passes the values that fit the type
abbrev pub Serves : Test → FieldType → Type 0
Serves test value_type =
    (may_serve test value_type ≡ true)
    × ((value : List ℕ) → passes test value_type value ≡ fits (type_stored value_type) value)

-- the same of a test that may not be made yet
abbrev pub ServesOnceMade : Option Test → FieldType → Type 0
ServesOnceMade made value_type = (test : Test) → made ≡ Some test → Serves test value_type
