-- Where an edit puts new elements: a new record, and automatic fields.
use Rattle.std.specs.Prelude.{ℕ, ℤ, ◌+◌, ◌-◌, Bool, not, List, [], ◌∷◌, ◌++◌, length, map, drop, take, reverse}
use Rattle.std.specs.Prelude.{find, slice_get, Option, Some, None, option_and_then, if◌then◌else◌}
use Rattle.std.specs.List.{prefix_len}
use Rattle.std.specs.Option.{option_map_or}
use Rattle.std.specs.Fmt.{signed_decimal}
use Rattle.std.specs.declared.ops.Range.{Range}
use Rattle.rec_text.specs.Elements.{Piece}
use Rattle.rec_text.specs.Records.{is_blank_piece, is_full_at}
use Rattle.rec_check.specs.declared.set.Set_.{Set_}
use Rattle.rec_check.specs.Descriptors.{rec_name}
use Rattle.rec_check.specs.Sets.{is_of_type}
use Rattle.rec_select.specs.Selection.{has_members}
use Rattle.rec_edit.specs.Script.{Part}
use Rattle.rec_edit.specs.Blocks.{Block, kept, put}
use Rattle.rec_edit.specs.Rules.{canonical, empty_line}

-- ---- insert

abbrev pub is_full : Piece → Bool
is_full piece = not (is_blank_piece piece)

-- the first index of the run of elements that aren't blank before an index, and the end of the run from the index on
abbrev pub paragraph_start : List Piece → ℕ → ℕ
paragraph_start pieces i = i - prefix_len is_full (reverse (take i pieces))

abbrev pub paragraph_end : List Piece → ℕ → ℕ
paragraph_end pieces i = i + prefix_len is_full (drop i pieces)

-- elements that are put in, and before which element
pub record Insertion : Type 0 where
  pub place : ℕ
  pub new : List Piece

-- at the end of the record's paragraph, after an empty line
abbrev pub after_paragraph : List Piece → List Piece → Range ℕ → Insertion
after_paragraph pieces fields own_range =
    record { place = paragraph_end pieces own_range.end; new = empty_line ∷ fields }

-- before the record's paragraph, with an empty line after
abbrev pub before_paragraph : List Piece → List Piece → Range ℕ → Insertion
before_paragraph pieces fields own_range = record {
  place = paragraph_start pieces own_range.start;
  new = fields ++ empty_line ∷ [];
}

-- at the end, after an empty line where the last element is there and isn't blank
abbrev pub at_end : List Piece → List Piece → Insertion
at_end pieces new = record {
  place = length pieces;
  new = if is_full_at pieces (length pieces - 1) then empty_line ∷ new
      else new;
}

-- the record after which one more of a set is put: its last one, or else its descriptor
abbrev pub last_of : Set_ → Option ℕ
last_of s = if has_members s then Some (s.members.end - 1) else s.head

-- the range of the record of an index, if there is one
abbrev pub range_of : List (Range ℕ) → Option ℕ → Option (Range ℕ)
range_of records i = option_and_then (slice_get records) i

-- the record after which one more of the set at a place is put, and the descriptor of that set
abbrev pub last_at : List (Range ℕ) → List Set_ → ℕ → Option (Range ℕ)
last_at records sets place = range_of records (option_and_then last_of (slice_get sets place))

abbrev pub descriptor_at : List (Range ℕ) → List Set_ → ℕ → Option (Range ℕ)
descriptor_at records sets place = range_of records (option_and_then (λ s. s.head) (slice_get sets place))

-- without a type: after the last untyped record, else before the first descriptor, else at the end
abbrev pub untyped_insertion : List Piece → List (Range ℕ) → List Set_ → List Piece → Insertion
untyped_insertion pieces records sets fields = elim (last_at records sets 0) [
  | Some last ↦ after_paragraph pieces fields last
  | None ↦ option_map_or (before_paragraph pieces fields) (descriptor_at records sets 1) (at_end pieces fields)
]

-- of a type: after the last record of its set, or after a new descriptor at the end where it has none
abbrev pub typed_insertion : List Piece → List (Range ℕ) → List Set_ → List Piece → List ℕ → Insertion
typed_insertion pieces records sets fields record_type = option_map_or (after_paragraph pieces fields)
    (range_of records (option_and_then last_of (find (is_of_type record_type) sets)))
    (at_end pieces (canonical rec_name record_type ∷ empty_line ∷ fields))

abbrev pub insertion_for : List Piece → List (Range ℕ) → List Set_ → Option (List ℕ) → List Piece → Insertion
insertion_for pieces records sets None fields = untyped_insertion pieces records sets fields
insertion_for pieces records sets (Some record_type) fields = typed_insertion pieces records sets fields record_type

-- elements are put in, before the one of an index
abbrev pub inserted : Insertion → List Piece → List Part
inserted insertion pieces =
    kept (take insertion.place pieces) ++ (put insertion.new ++ kept (drop insertion.place pieces))

-- ---- automatic fields

-- an automatic field, with its number
pub record Numbered : Type 0 where
  pub name : List ℕ
  pub number : ℤ

abbrev pub numbered_fields : List Numbered → List Piece
numbered_fields given = map (λ one. canonical one.name (signed_decimal one.number)) given

-- those that the record of an index is given
abbrev pub fields_at : List (List Numbered) → ℕ → List Piece
fields_at given k = option_map_or numbered_fields (slice_get given k) []

-- fields are put first in a record
abbrev pub filled : List Piece → Block → List Part
filled new block = put new ++ kept (block.own ++ block.gap)
