-- Types of fields, ready to be tried on many values.
use Rattle.std.specs.Prelude.{ℕ, List, Option, map, option_and_then, slice_get}
use Rattle.regex.specs.Patterns.{Re}
use Rattle.rec_check.specs.declared.field_types.types.Types.{Types}
use Rattle.rec_check.specs.proving.Fitting.{place_of, type_tested}
use Rattle.rec_check.specs.Types.{FieldType}

-- the type of the fields of a name
abbrev pub type_in : Types → List ℕ → Option (FieldType Re)
type_in types name = option_and_then (slice_get (map type_tested types.tests.items)) (place_of types.places name)
