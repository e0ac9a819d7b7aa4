-- What a descriptor asks of the records of its set.
use Rattle.std.specs.Prelude.{◌≡◌, ℕ, List, [], codes, flat_map, slice_get, Option, Some, None, option_and_then}
use Rattle.std.specs.Prelude.{option_map, unwrap_or, if◌then◌else◌}
use Rattle.std.specs.List.{AllZip, list_any}
use Rattle.regex.specs.Patterns.{Re, SameCaptures}
use Rattle.rec_text.specs.Elements.{Piece, has_name}
use Rattle.rec_sex.specs.Expressions.{IsExpression, AreSame}
use Rattle.rec_sex.specs.Grammar.{Term}
use Rattle.rec_sex.specs.Meaning.{values_of}
use Rattle.rec_check.specs.declared.descriptors.special.Bound.{Bound}
use Rattle.rec_check.specs.Descriptors.{bound_in}
use Rattle.rec_check.specs.Meanings.{meaning_in}
use Rattle.rec_check.specs.Types.{FieldType, matching, unchecked, Definition, Typing, IsDefinition, IsTyping}
use Rattle.rec_check.specs.Words.{words, last_that}
use Rattle.rec_text.specs.Bytes.{is_among}

-- what a descriptor asks of the records of its set
pub record Rules : Type 0 where
  -- each has exactly one field of this name, and no two have one value of it
  pub key : Option (List ℕ)
  -- each has a field of each of these names
  pub mandatory : List (List ℕ)
  -- none has one
  pub prohibited : List (List ℕ)
  -- none has two of one name
  pub unique : List (List ℕ)
  -- no value of one stands in two records
  pub singular : List (List ℕ)
  -- where given, only fields of these names, of the key and of the mandatory ones
  pub allowed : Option (List (List ℕ))
  -- the counters
  pub automatic : List (List ℕ)
  pub types : List Typing
  -- what kinds mean
  pub definitions : List Definition
  -- how many there are
  pub size : Option Bound
  -- each is selected by these
  pub constraints : List Term

-- nothing is asked
abbrev pub no_rules : Rules
no_rules = record {
  key = None;
  mandatory = [];
  prohibited = [];
  unique = [];
  singular = [];
  allowed = None;
  automatic = [];
  types = [];
  definitions = [];
  size = None;
  constraints = [];
}

-- the words of all fields of a name: lists add up
abbrev pub names_in : List ℕ → List Piece → List (List ℕ)
names_in name fields = flat_map words (values_of name fields)

-- the rules of a descriptor with these elements, none of which is faulty
pub record AreRules (fields : List Piece) (rules : Rules) : Type 0 where
  pub key : rules.key ≡ slice_get (names_in (codes "%key") fields) 0
  pub mandatory : rules.mandatory ≡ names_in (codes "%mandatory") fields
  pub prohibited : rules.prohibited ≡ names_in (codes "%prohibit") fields
  pub unique : rules.unique ≡ names_in (codes "%unique") fields
  pub singular : rules.singular ≡ names_in (codes "%singular") fields
  pub allowed : rules.allowed
      ≡ (if list_any (has_name (codes "%allowed")) fields then Some (names_in (codes "%allowed") fields) else None)
  pub automatic : rules.automatic ≡ names_in (codes "%auto") fields
  pub types : AllZip IsTyping (values_of (codes "%type") fields) rules.types
  pub definitions : AllZip IsDefinition (values_of (codes "%typedef") fields) rules.definitions
  pub size : rules.size ≡ option_and_then bound_in (slice_get (values_of (codes "%size") fields) 0)
  pub constraints : AllZip IsExpression (values_of (codes "%constraint") fields) rules.constraints

-- of two `%type` fields that name a field the later holds
abbrev pub typing_for : List Typing → List ℕ → Option Typing
typing_for typings name = last_that (λ typing. is_among typing.names name) typings

-- the type that such a field gives by these meanings of kinds; where its kind has none, any value fits
abbrev pub type_by : (List ℕ → FieldType Re → Option (FieldType Re)) → Typing → FieldType Re
type_by meaning typing = unwrap_or (meaning typing.kind typing.value_type) unchecked

-- the type of the fields of a name under these rules, where they have one
abbrev pub field_type : Rules → List ℕ → Option (FieldType Re)
field_type rules name = option_map (type_by (meaning_in rules.definitions)) (typing_for rules.types name)

-- ---- rules that are the same

-- the same type; `regex` may build a pattern in more ways than one, and they give the same matches
abbrev pub AreSameTypes : FieldType Re → FieldType Re → Type 0
AreSameTypes (matching pattern) (matching other) = SameCaptures pattern other
AreSameTypes one other = one ≡ other

pub record AreSameTypings (one other : Typing) : Type 0 where
  pub names : one.names ≡ other.names
  pub kind : one.kind ≡ other.kind
  pub value_type : AreSameTypes one.value_type other.value_type

pub record AreSameDefinitions (one other : Definition) : Type 0 where
  pub name : one.name ≡ other.name
  pub kind : one.kind ≡ other.kind
  pub value_type : AreSameTypes one.value_type other.value_type

-- the same rules, up to patterns that give the same matches
pub record AreSameRules (one other : Rules) : Type 0 where
  pub key : one.key ≡ other.key
  pub mandatory : one.mandatory ≡ other.mandatory
  pub prohibited : one.prohibited ≡ other.prohibited
  pub unique : one.unique ≡ other.unique
  pub singular : one.singular ≡ other.singular
  pub allowed : one.allowed ≡ other.allowed
  pub automatic : one.automatic ≡ other.automatic
  pub types : AllZip AreSameTypings one.types other.types
  pub definitions : AllZip AreSameDefinitions one.definitions other.definitions
  pub size : one.size ≡ other.size
  pub constraints : AllZip AreSame one.constraints other.constraints
