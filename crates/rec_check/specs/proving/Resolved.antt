-- How the definitions of a descriptor are resolved in memory: what is known of each of them, and where it stands.
use Rattle.std.specs.Prelude.{◌≡◌, ◌⊎◌, ◌<◌, ◌==◌, ℕ, Bool, true, false, List, length, is_some, slice_get, Option, Some}
use Rattle.std.specs.Prelude.{None, option_map, option_and_then, if◌then◌else◌}
use Rattle.std.specs.Borrow.{Bor}
use Rattle.std.specs.List.{list_any}
use Rattle.std.specs.Str.{bytes_eq}
use Rattle.regex.specs.Patterns.{Re}
use Rattle.rec_check.specs.declared.field_types.field_type.FieldType.{FieldType as StoredType}
use Rattle.rec_check.specs.declared.field_types.resolution.Meaning.{Meaning}
use Rattle.rec_check.specs.declared.field_types.resolution.Meaning.TheVariants.{SameAs, Settled}
use Rattle.rec_check.specs.declared.field_types.resolution.Resolver.{Resolver}
use Rattle.rec_check.specs.proving.Fitting.{FindLast, place_of}
use Rattle.rec_check.specs.Meanings.{meaning_in}
use Rattle.rec_check.specs.Resolving.{is_known_kind, last_definition, LeadsTo}
use Rattle.rec_check.specs.Stored.{type_stored}
use Rattle.rec_check.specs.Types.{FieldType, Definition, unchecked}

-- the place of each name is that of its last definition
abbrev pub AreLastPlaces : List Definition → (List ℕ → Option ℕ) → Type 0
AreLastPlaces definitions place = FindLast (λ definition name. bytes_eq definition.name name) definitions place

-- ---- what is known of a definition

abbrev pub meant : Option (Bor StoredType) → Option (FieldType Re)
meant value_type = option_map (λ value_type. type_stored value_type.now) value_type

-- the definition at a place holds for the kind of this one; or this one means that type
abbrev pub IsRight : List Definition → Definition → Meaning → Type 0
IsRight definitions definition (SameAs place) = (is_known_kind definition.kind ≡ false)
    × ((next : Definition) × (slice_get definitions place ≡ Some next)
    × (last_definition definitions definition.kind ≡ Some next))
IsRight definitions definition (Settled value_type) =
    meant value_type ≡ meaning_in definitions definition.kind definition.value_type

-- right for each definition
pub record AreRight (definitions : List Definition) (meanings : List Meaning) : Type 0 where
  pub size : length meanings ≡ length definitions
  pub right : (place : ℕ) (definition : Definition) (meaning : Meaning) → slice_get definitions place ≡ Some definition
      → slice_get meanings place ≡ Some meaning → IsRight definitions definition meaning

abbrev pub next_in : Meaning → Option ℕ
next_in (SameAs next) = Some next
next_in (Settled value_type) = None

abbrev pub type_in : Meaning → Option (Bor StoredType)
type_in (SameAs next) = None
type_in (Settled value_type) = value_type

-- the place of the definition that means the same, where nothing is settled
abbrev pub open_at : List Meaning → ℕ → Option ℕ
open_at meanings place = option_and_then next_in (slice_get meanings place)

-- the type that is settled, if any
abbrev pub settled_at : List Meaning → ℕ → Option (Bor StoredType)
settled_at meanings place = option_and_then type_in (slice_get meanings place)

-- what was settled still is
abbrev pub StaySettled : List Meaning → List Meaning → Type 0
StaySettled old new = (place : ℕ) → open_at old place ≡ None → open_at new place ≡ None

-- ---- the way from one definition to another

abbrev pub is_at : List ℕ → ℕ → Bool
is_at places place = list_any (λ one. one == place) places

abbrev pub ArePlacesWithin : List ℕ → List Meaning → Type 0
ArePlacesWithin places meanings = (place : ℕ) → is_at places place ≡ true → place < length meanings

-- both mean the same, and where this is a type, the second is nearer to it
pub record IsAhead (definitions : List Definition) (first second : Definition) : Type 0 where
  pub same : meaning_in definitions first.kind first.value_type ≡ meaning_in definitions second.kind second.value_type
  pub nearer : (value_type : FieldType Re) (steps : List Definition)
      → LeadsTo definitions first.kind first.value_type steps value_type
      → (rest : List Definition) × (length rest < length steps)
      × LeadsTo definitions second.kind second.value_type rest value_type

-- the definitions at some places have led to the one at a place, and count as resolved to nothing meanwhile; the others
-- are right
pub record AreAtWork (definitions : List Definition) (passed : List ℕ) (at : ℕ) (meanings : List Meaning) : Type 0 where
  pub size : length meanings ≡ length definitions
  pub right : (place : ℕ) (definition : Definition) (meaning : Meaning) → slice_get definitions place ≡ Some definition
      → slice_get meanings place ≡ Some meaning
      → IsRight definitions definition meaning ⊎ ((is_at passed place ≡ true) × (meaning ≡ Settled None))
  pub ahead : (place : ℕ) → is_at passed place ≡ true
      → (first : Definition) × (slice_get definitions place ≡ Some first)
      × ((second : Definition) × (slice_get definitions at ≡ Some second) × IsAhead definitions first second)

-- the meanings at these places are settled to a type, and the others stay
pub record AreSettledAt (places : List ℕ) (value_type : Option (Bor StoredType)) (old new : List Meaning) : Type 0 where
  pub size : length new ≡ length old
  pub each : (place : ℕ) → place < length old
      → slice_get new place ≡ (if is_at places place then Some (Settled value_type) else slice_get old place)

-- ---- the resolver

-- the type that it has for a kind with a type of its own
abbrev pub meaning_by : Resolver → List ℕ → FieldType Re → Option (FieldType Re)
meaning_by resolver kind own = if is_known_kind kind then Some own
    else option_and_then (λ place. meant (settled_at resolver.meanings.items place)) (place_of resolver.places kind)

-- it has a type for the kind
abbrev pub resolved_by : Resolver → List ℕ → Bool
resolved_by resolver kind = is_some (meaning_by resolver kind unchecked)
