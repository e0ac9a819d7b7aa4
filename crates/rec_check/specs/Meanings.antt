-- The type that a kind means within a descriptor, as a relation and as a function.
use Rattle.std.specs.Prelude.{◌≡◌, ◌↔◌, ℕ, zero, suc, List, length, Option, Some, None, option_and_then, if◌then◌else◌}
use Rattle.regex.specs.Patterns.{Re}
use Rattle.rec_check.specs.Resolving.{Resolves, is_known_kind, last_definition}
use Rattle.rec_check.specs.Types.{FieldType, Definition}

-- the type that a kind, with a type of its own, comes to by its definitions; nothing where it comes to none
abbrev pub IsMeaning : List Definition → List ℕ → FieldType Re → Option (FieldType Re) → Type 0
IsMeaning definitions kind own (Some value_type) = Resolves definitions kind own value_type
IsMeaning definitions kind own None = (value_type : FieldType Re) → Resolves definitions kind own value_type → ⊥

-- the type that it comes to by at most n definitions; nothing where it comes to none
abbrev pub meaning_within : ℕ → List Definition → List ℕ → FieldType Re → Option (FieldType Re)
meaning_within zero definitions kind own = if is_known_kind kind then Some own else None
meaning_within (suc most) definitions kind own =
    if is_known_kind kind then Some own
    else option_and_then (λ step. meaning_within most definitions step.kind step.value_type)
    (last_definition definitions kind)

-- no more steps are needed than there are definitions
unfoldable pub meaning_in : List Definition → List ℕ → FieldType Re → Option (FieldType Re)
meaning_in definitions kind own = meaning_within (length definitions) definitions kind own

-- ---- laws

-- `meaning_in` gives the meaning, and there is no other
abbrev pub MeaningIsOne : Type 0
MeaningIsOne = (definitions : List Definition) (kind : List ℕ) (own : FieldType Re) (answer : Option (FieldType Re))
    → IsMeaning definitions kind own answer ↔ (answer ≡ meaning_in definitions kind own)
