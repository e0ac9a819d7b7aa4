-- What is printed of records.
use Rattle.std.specs.Prelude.{◌≡◌, ℕ, ◌<◌, Bool, not, List, [], ◌∷◌, ◌++◌, length, map, filter, filter_map, flat_map}
use Rattle.std.specs.Prelude.{slice_get, decimal, Result, Ok, Err, if◌then◌else◌}
use Rattle.std.specs.List.{concat, join_with_byte, AllByRecursion}
use Rattle.std.specs.declared.ops.Range.{Range}
use Rattle.rec_text.specs.declared.fault.Fault.{Fault}
use Rattle.rec_text.specs.Ascii.{newline, space}
use Rattle.rec_text.specs.Bytes.{is_nil, closed_text}
use Rattle.rec_text.specs.Elements.{Piece}
use Rattle.rec_text.specs.Records.{AreRecords, is_field_piece}
use Rattle.rec_text.specs.Values.{value_of}
use Rattle.rec_sex.specs.declared.lists.field_list.Item.{Item}
use Rattle.rec_sex.specs.Lists.{picks}
use Rattle.rec_select.specs.declared.records.Shape.{Shape}
use Rattle.rec_select.specs.declared.records.Shape.TheVariants.{Blocks, Print, Values, Row, Count}
use Rattle.rec_select.specs.Selection.{record_at}

-- ---- one record

-- an element's bytes, with a newline at their end
abbrev pub printed_element : Piece → List ℕ
printed_element piece = closed_text piece.bytes

-- a value, and a newline
abbrev pub value_line : Piece → List ℕ
value_line piece = value_of piece ++ newline ∷ []

-- the values with a space between each two, and a newline; nothing where there is none
abbrev pub row_of : List (List ℕ) → List ℕ
row_of [] = []
row_of (value ∷ values) = join_with_byte space (value ∷ values) ++ newline ∷ []

-- the elements of a record that a list picks, in the list's order
abbrev pub picked : List Item → List Piece → List Piece
picked items pieces = filter_map (λ place. slice_get pieces place) (picks items pieces)

-- what is printed of a record with these elements
abbrev pub block_of : Shape → List Piece → List ℕ
block_of Blocks pieces = flat_map printed_element (filter is_field_piece pieces)
block_of (Print items) pieces = flat_map printed_element (picked items pieces)
block_of (Values items) pieces = flat_map value_line (picked items pieces)
block_of (Row items) pieces = row_of (map value_of (picked items pieces))
block_of Count pieces = []

-- ---- many records

-- The blocks that hold anything: an empty line stands between each two, or nothing where they are collapsed.
abbrev pub joined_blocks : Bool → List (List ℕ) → List ℕ
joined_blocks collapse blocks =
    let full : List (List ℕ) = filter (λ block. not (is_nil block)) blocks in
    if collapse then concat full else join_with_byte newline full

-- a number, and a newline
abbrev pub number_line : ℕ → List ℕ
number_line n = decimal n ++ newline ∷ []

-- what is printed of the records of these indexes
abbrev pub printed : List Piece → List (Range ℕ) → List ℕ → Shape → Bool → List ℕ
printed pieces records selected Count collapse = number_line (length selected)
printed pieces records selected shape collapse =
    joined_blocks collapse (map (λ i. block_of shape (record_at pieces records i)) selected)

-- each is the index of a record
abbrev pub AreIndexes : List Piece → List ℕ → Type 0
AreIndexes pieces selected =
    (records : List (Range ℕ)) × AreRecords pieces records × AllByRecursion (λ i. i < length records) selected

-- the text that is printed; printing alone refuses nothing
abbrev pub IsPrinted : List Piece → List ℕ → Shape → Bool → Result (List ℕ) Fault → Type 0
IsPrinted pieces selected shape collapse (Ok text) =
    (records : List (Range ℕ)) × AreRecords pieces records × (text ≡ printed pieces records selected shape collapse)
IsPrinted pieces selected shape collapse (Err fault) = ⊥
