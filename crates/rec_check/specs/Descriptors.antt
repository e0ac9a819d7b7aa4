-- Descriptors: the records with a `%rec` field, what their fields mean, and what may be wrong with one of these.
use Rattle.std.specs.Prelude.{◌≡◌, ℕ, ◌+◌, Bool, true, false, ◌==◌, ◌||◌, ◌&&◌, not, nat_le, nat_lt, is_some, List, []}
use Rattle.std.specs.Prelude.{◌∷◌, ◌++◌, length, map, drop, find, filter_map, codes, Option, Some, None, option_map}
use Rattle.std.specs.Prelude.{option_and_then, if◌then◌else◌}
use Rattle.std.specs.List.{list_any, list_all}
use Rattle.std.specs.Str.{bytes_eq}
use Rattle.std.specs.declared.ops.Range.{Range}
use Rattle.rec_text.specs.Ascii.{less_sign, equals_sign, greater_sign}
use Rattle.rec_text.specs.Canonical.{is_plain_name, is_field_name}
use Rattle.rec_text.specs.Elements.{Piece, name_of, has_name}
pub use Rattle.rec_text.specs.Records.{elements_in}
use Rattle.rec_text.specs.Values.{value_of}
use Rattle.rec_sex.specs.Grammar.{fault_of}
use Rattle.rec_check.specs.declared.descriptors.special.Special.{Special}
use Rattle.rec_check.specs.declared.descriptors.special.Special.TheVariants.{Rec, Key, Mandatory, Prohibit, Unique}
use Rattle.rec_check.specs.declared.descriptors.special.Special.TheVariants.{Singular, Allowed, Auto, Typed, Typedef}
use Rattle.rec_check.specs.declared.descriptors.special.Special.TheVariants.{Size, Constraint, Confidential}
use Rattle.rec_check.specs.declared.descriptors.special.Bound.{Bound}
use Rattle.rec_check.specs.declared.descriptors.special.Comparison.{Comparison}
use Rattle.rec_check.specs.declared.descriptors.special.Comparison.TheVariants.{Exactly, Less, AtMost, Greater, AtLeast}
use Rattle.rec_check.specs.Types.{definition_of, natural_of, typing_of}
use Rattle.rec_check.specs.Words.{words}
use Rattle.rec_text.specs.Bytes.{is_among}

-- ---- descriptors

-- what fields of these names say of a record set; fields of other names say nothing
abbrev pub special_of : List ℕ → Option Special
special_of name =
    if bytes_eq name (codes "%rec") then Some Rec
    else if bytes_eq name (codes "%key") then Some Key
    else if bytes_eq name (codes "%mandatory") then Some Mandatory
    else if bytes_eq name (codes "%prohibit") then Some Prohibit
    else if bytes_eq name (codes "%unique") then Some Unique
    else if bytes_eq name (codes "%singular") then Some Singular
    else if bytes_eq name (codes "%allowed") then Some Allowed
    else if bytes_eq name (codes "%auto") then Some Auto
    else if bytes_eq name (codes "%type") then Some Typed
    else if bytes_eq name (codes "%typedef") then Some Typedef
    else if bytes_eq name (codes "%size") then Some Size
    else if bytes_eq name (codes "%constraint") then Some Constraint
    else if bytes_eq name (codes "%confidential") then Some Confidential
    else None

-- the name of the field that makes a record a descriptor
abbrev pub rec_name : List ℕ
rec_name = codes "%rec"

-- the first word; nothing where there is none
abbrev pub first_word : List (List ℕ) → List ℕ
first_word [] = []
first_word (word ∷ words) = word

-- the type that a record's elements name, where it is a descriptor: the first word of its first `%rec` field
abbrev pub type_of : List Piece → Option (List ℕ)
type_of pieces = option_map (λ piece. first_word (words (value_of piece))) (find (has_name rec_name) pieces)

-- for each record in order the type that it names, where it is a descriptor
abbrev pub types_of : List Piece → List (Range ℕ) → List (Option (List ℕ))
types_of pieces records = map (λ own_range. type_of (elements_in pieces own_range)) records

-- the type that a record's elements name, or else the one of the record before it
abbrev pub type_after : Option (List ℕ) → List Piece → Option (List ℕ)
type_after record_type own = elim (type_of own) [ None ↦ record_type | Some named ↦ Some named ]

-- ---- sizes

-- the operator that comes first, the longest one, and what follows it
abbrev pub comparison_in : List ℕ → Comparison
comparison_in [] = Exactly
comparison_in (b ∷ []) = if b == less_sign then Less else if b == greater_sign then Greater else Exactly
comparison_in (b ∷ c ∷ bs) =
    if b == less_sign then (if c == equals_sign then AtMost else Less)
    else if b == greater_sign then (if c == equals_sign then AtLeast else Greater)
    else Exactly

-- how many bytes the operator has
abbrev pub width_of : Comparison → ℕ
width_of Exactly = 0
width_of Less = 1
width_of AtMost = 2
width_of Greater = 1
width_of AtLeast = 2

-- what a `%size` field says: an operator, blanks and a number that isn't negative; without operator the number is exact
abbrev pub bound_in : List ℕ → Option Bound
bound_in value = let comparison : Comparison = comparison_in value in
    option_map (λ number. record { comparison = comparison; number = number })
    (natural_of (drop (width_of comparison) value))

abbrev pub meets : Bound → ℕ → Bool
meets bound n = elim bound.comparison [
  | Exactly ↦ n == bound.number
  | Less ↦ nat_lt n bound.number
  | AtMost ↦ nat_le n bound.number
  | Greater ↦ nat_lt bound.number n
  | AtLeast ↦ nat_le bound.number n
]

-- ---- what is wrong with a field of a descriptor

-- it isn't written as such a field has to be (4); or it asks for what recu doesn't support (5)
pub data Flaw : Type 0 where
  bad : Flaw
  unsupported : Flaw

abbrev pub bad_unless : Bool → Option Flaw
bad_unless sound = if sound then None else Some bad

-- `%rec` names one type. No type, a second field of its name in the record and a type that is named before are bad; so
-- far as the field isn't bad, more words name a source of descriptors outside the file, which isn't supported.
abbrev pub rec_flaw : Bool → List (List ℕ) → List (List ℕ) → Option Flaw
rec_flaw repeated named [] = Some bad
rec_flaw repeated named (record_type ∷ source) =
    if repeated || (not (is_plain_name record_type) || is_among named record_type) then Some bad
    else elim source [ [] ↦ None | word ∷ more ↦ Some unsupported ]

-- one name of a field
abbrev pub is_one_name : List (List ℕ) → Bool
is_one_name (name ∷ []) = is_field_name name
is_one_name _ = false

-- What is wrong with a field that says this. A field of the same name may stand before it in the record, and these
-- types are named before it.
abbrev pub special_flaw : Special → Bool → List (List ℕ) → List ℕ → Option Flaw
special_flaw Rec repeated named value = rec_flaw repeated named (words value)
special_flaw Key repeated named value = bad_unless (not repeated && is_one_name (words value))
special_flaw Mandatory repeated named value = bad_unless (list_all is_field_name (words value))
special_flaw Prohibit repeated named value = bad_unless (list_all is_field_name (words value))
special_flaw Unique repeated named value = bad_unless (list_all is_field_name (words value))
special_flaw Singular repeated named value = bad_unless (list_all is_field_name (words value))
special_flaw Allowed repeated named value = bad_unless (list_all is_field_name (words value))
special_flaw Auto repeated named value = bad_unless (list_all is_field_name (words value))
special_flaw Typed repeated named value = bad_unless (is_some (typing_of value))
special_flaw Typedef repeated named value = bad_unless (is_some (definition_of value))
special_flaw Size repeated named value = bad_unless (not repeated && is_some (bound_in value))
special_flaw Constraint repeated named value = bad_unless (not (is_some (fault_of value)))
special_flaw Confidential repeated named value = Some unsupported

-- the index lies in the range
abbrev pub holds_index : ℕ → Range ℕ → Bool
holds_index i own_range = nat_le own_range.start i && nat_lt i own_range.end

-- ---- the elements of descriptors

-- an element of a descriptor, and what stands before it: the types that are named there, and the elements of its own
-- record
pub record DescriptorElement : Type 0 where
  pub named : List (List ℕ)
  pub before : List Piece
  pub piece : Piece

-- what is wrong with it, if anything is
abbrev pub flaw_of : DescriptorElement → Option Flaw
flaw_of element = option_and_then
    (λ special. special_flaw special (list_any (has_name (name_of element.piece)) element.before) element.named
    (value_of element.piece))
    (special_of (name_of element.piece))

-- the types that some records name
abbrev pub types_named : List Piece → List (Range ℕ) → List (List ℕ)
types_named pieces records = filter_map (λ own_range. type_of (elements_in pieces own_range)) records

-- The element of this index is this one: it stands in a descriptor, after those of its elements that are before it, and
-- the records before that descriptor name these types.
pub record StandsAt (pieces : List Piece) (records : List (Range ℕ)) (at : ℕ) (element : DescriptorElement)
    : Type 0 where
  pub earlier : List (Range ℕ)
  pub own_range : Range ℕ
  pub later : List (Range ℕ)
  pub following : List Piece
  pub cut : records ≡ earlier ++ own_range ∷ later
  pub named : element.named ≡ types_named pieces earlier
  pub own : elements_in pieces own_range ≡ element.before ++ element.piece ∷ following
  pub is_descriptor : is_some (type_of (elements_in pieces own_range)) ≡ true
  pub place : at ≡ own_range.start + length element.before
