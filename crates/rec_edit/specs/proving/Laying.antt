-- How an edit is carried out, record by record.
use Rattle.std.specs.Prelude.{◌≡◌, ◌==◌, ◌<◌, ◌≤◌, ℕ, Bool, not, ◌&&◌, List, [], ◌∷◌, ◌++◌, length, map, filter, drop}
use Rattle.std.specs.Prelude.{slice_index_or, true, false, Option, if◌then◌else◌}
use Rattle.std.specs.List.{list_any}
use Rattle.std.specs.declared.ops.Range.{Range}
use Rattle.rec_text.specs.Bytes.{ends_newline}
use Rattle.rec_text.specs.Canonical.{canonical}
use Rattle.rec_text.specs.Elements.{Piece}
use Rattle.rec_text.specs.Records.{AreRecords, elements_in}
use Rattle.rec_sex.specs.declared.lists.field_list.Item.{Item}
use Rattle.rec_edit.specs.declared.draft.Draft.{Draft}
use Rattle.rec_edit.specs.declared.outcome.Patched.{Patched}
use Rattle.rec_edit.specs.declared.request.Action.{Action}
use Rattle.rec_edit.specs.Script.{Part, closed, opened, settled, old_pieces}
use Rattle.rec_edit.specs.Blocks.{Block, blocks_of, parts_from, script_of}
use Rattle.rec_edit.specs.Rules.{becomes_if, picks_none}
use Rattle.rec_edit.specs.Outcome.{made_of}
use Rattle.rec_edit.specs.proving.Drafts.{IsDraft}
use Rattle.rec_edit.specs.proving.Edits.{edited_by}

-- ---- where records stand

-- a record stands there, and the elements after it reach up to this end
pub record IsPlace (pieces : List Piece) (own_range : Range ℕ) (end : ℕ) : Type 0 where
  pub some : own_range.start < own_range.end
  pub ordered : own_range.end ≤ end
  pub within : end ≤ length pieces

abbrev pub block_at : List Piece → Range ℕ → ℕ → Block
block_at pieces own_range end = record {
  own = elements_in pieces own_range;
  gap = elements_in pieces (record { start = own_range.end; end = end });
}

-- the elements of such a block
abbrev pub span_at : List Piece → Range ℕ → ℕ → List Piece
span_at pieces own_range end = elements_in pieces (record { start = own_range.start; end = end })

-- ---- what is left to do

-- the old elements of the parts of a block are its elements
abbrev pub TakesAll : (ℕ → Block → List Part) → Type 0
TakesAll made = (k : ℕ) (block : Block) → old_pieces (made k block) ≡ block.own ++ block.gap

-- the parts of the records from an index on
abbrev pub IsLaidBy : Draft → (ℕ → Bool) → (ℕ → Block → List Part) → List Piece → List (Range ℕ) → ℕ → Type 0
IsLaidBy draft chosen made pieces records i =
    IsDraft draft (settled (parts_from chosen made i (blocks_of pieces (drop i records))))
    (script_of chosen made pieces records)

-- this is made of the chosen records of a text
abbrev pub IsMadeOf : List Piece → Option ℕ → (ℕ → Bool) → (ℕ → Block → List Part) → Patched → Type 0
IsMadeOf pieces selected chosen made edited = (records : List (Range ℕ)) × AreRecords pieces records
    × (edited ≡ edited_by (made_of selected chosen made pieces records))

-- ---- marks

-- the index is in the table and has a mark there
abbrev pub is_marked : List Bool → ℕ → Bool
is_marked marks i = slice_index_or marks i false

-- n marks, of which those at these places are set
pub record AreMarksOf (marks : List Bool) (places : List ℕ) (count : ℕ) : Type 0 where
  pub size : length marks ≡ count
  pub each : (i : ℕ) → i < count → is_marked marks i ≡ list_any (λ place. place == i) places

-- n marks, all of which are set
pub record AreAllMarked (marks : List Bool) (count : ℕ) : Type 0 where
  pub size : length marks ≡ count
  pub each : (i : ℕ) → i < count → is_marked marks i ≡ true

-- ---- an edit of fields

-- a field of this value for each item
abbrev pub fields_for : List ℕ → List Item → List Piece
fields_for value items = map (λ item. canonical item.name value) items

-- a field of this value for each item that picks none of a record's elements
abbrev pub fields_lacking : List ℕ → List Item → List Piece → List Piece
fields_lacking value items own = fields_for value (filter (picks_none own) items)

-- what stands instead of an element: without a newline where it lacks one, unless more comes after it
abbrev pub settled_if : Bool → (Piece → List Piece) → Piece → List Piece
settled_if more becomes piece =
    if not more && not (ends_newline piece.bytes) then opened (becomes (closed piece)) else becomes (closed piece)

-- the parts of elements with these marks
abbrev pub own_parts : Bool → Action → List Bool → List Piece → List Part
own_parts more action marks [] = []
own_parts more action [] (piece ∷ pieces) = []
own_parts more action (marked ∷ marks) (piece ∷ pieces) =
    record { old = piece ∷ []; new = settled_if more (becomes_if marked action) piece }
    ∷ own_parts more action marks pieces
