-- What is wrong with a text, element by element.
use Rattle.std.specs.Prelude.{◌≡◌, ℕ, ◌-◌, ◌&&◌, nat_le, List, find, filter_map, take, is_some, IfSome, slice_get}
use Rattle.std.specs.Prelude.{Option, None, option_and_then, if◌then◌else◌}
use Rattle.std.specs.declared.ops.Range.{Range}
use Rattle.rec_text.specs.Elements.{Piece}
use Rattle.rec_text.specs.Records.{elements_in}
use Rattle.rec_check.specs.Descriptors.{Flaw, flaw_of, holds_index, type_of}
use Rattle.rec_check.specs.Schemas.{FieldIsBuilt}

-- what is wrong with an element of a descriptor, after these elements of it
abbrev pub element_flaw : List (List ℕ) → List Piece → Piece → Option Flaw
element_flaw named before piece = flaw_of (record { named = named; before = before; piece = piece })

-- what is wrong with the field of this index among those of a descriptor, if anything is
abbrev pub field_flaw : List (List ℕ) → List Piece → ℕ → Option Flaw
field_flaw named fields k = option_and_then (element_flaw named (take k fields)) (slice_get fields k)

-- the types that the records before an index name
abbrev pub types_before : List Piece → List (Range ℕ) → ℕ → List (List ℕ)
types_before pieces records i =
    filter_map (λ own_range. if nat_le own_range.end i then type_of (elements_in pieces own_range) else None) records

-- the descriptor that has the element of this index, if one has
abbrev pub descriptor_at : List Piece → List (Range ℕ) → ℕ → Option (Range ℕ)
descriptor_at pieces records i =
    find (λ own_range. holds_index i own_range && is_some (type_of (elements_in pieces own_range))) records

-- what is wrong with the element of this index, if anything is
abbrev pub flaw_at : List Piece → List (Range ℕ) → ℕ → Option Flaw
flaw_at pieces records i = option_and_then
    (λ own_range. field_flaw (types_before pieces records own_range.start) (elements_in pieces own_range)
    (i - own_range.start))
    (descriptor_at pieces records i)

-- nothing is wrong with the field of this index among those of a descriptor, and what it says is built
pub record FieldIsRead (named : List (List ℕ)) (fields : List Piece) (k : ℕ) : Type 0 where
  pub sound : field_flaw named fields k ≡ None
  pub built : IfSome (slice_get fields k) FieldIsBuilt

-- the same of the element of this index, if a descriptor has it
abbrev pub ElementIsRead : List Piece → List (Range ℕ) → ℕ → Type 0
ElementIsRead pieces records i = IfSome (descriptor_at pieces records i)
    (λ own_range. FieldIsRead (types_before pieces records own_range.start) (elements_in pieces own_range)
    (i - own_range.start))
