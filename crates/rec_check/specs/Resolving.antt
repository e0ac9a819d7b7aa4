-- Kinds that a descriptor defines, and the definitions that lead from one to a kind that needs none.
use Rattle.std.specs.Prelude.{◌≡◌, ℕ, Bool, true, false, List, [], ◌∷◌, is_some, Option, Some}
use Rattle.std.specs.Str.{bytes_eq}
use Rattle.regex.specs.Patterns.{Re}
use Rattle.rec_check.specs.Types.{FieldType, Definition, known_kind}
use Rattle.rec_check.specs.Words.{last_that}

-- a kind that needs no definition, and of which none counts
unfoldable pub is_known_kind : List ℕ → Bool
is_known_kind kind = is_some (known_kind kind)

-- of two definitions of one name the later holds
abbrev pub last_definition : List Definition → List ℕ → Option Definition
last_definition definitions name = last_that (λ definition. bytes_eq definition.name name) definitions

-- A kind, with a type of its own, comes to a type by these steps: each is the definition that holds for the kind before
-- it, and the kind at the end is known. What is written after a kind that isn't known means nothing.
abbrev pub LeadsTo : List Definition → List ℕ → FieldType Re → List Definition → FieldType Re → Type 0
LeadsTo definitions kind own [] value_type = (is_known_kind kind ≡ true) × (value_type ≡ own)
LeadsTo definitions kind own (step ∷ steps) value_type =
    (is_known_kind kind ≡ false) × (last_definition definitions kind ≡ Some step)
    × LeadsTo definitions step.kind step.value_type steps value_type

-- it does so by finitely many steps
abbrev pub Resolves : List Definition → List ℕ → FieldType Re → FieldType Re → Type 0
Resolves definitions kind own value_type = (steps : List Definition) × LeadsTo definitions kind own steps value_type
