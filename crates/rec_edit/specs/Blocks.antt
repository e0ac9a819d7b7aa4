-- A text, cut at its records; and the script of an edit, record by record.
use Rattle.std.specs.Prelude.{ℕ, ◌==◌, Bool, List, [], ◌∷◌, ◌++◌, length, map, flat_map, if◌then◌else◌}
use Rattle.std.specs.Prelude.{count_by, not, ◌&&◌}
use Rattle.std.specs.List.{list_any, enumerate_from}
use Rattle.std.specs.declared.ops.Range.{Range}
use Rattle.rec_text.specs.Elements.{Piece}
use Rattle.rec_text.specs.Records.{elements_in}
use Rattle.rec_edit.specs.Script.{Part, closed, settled, is_kept, as_one}

-- a record's own elements, from its first to its last field, and those that stand after it, up to the next record
pub record Block : Type 0 where
  pub own : List Piece
  pub gap : List Piece

-- where the first of these records begins; the end of the text where there is none
abbrev pub start_of : List Piece → List (Range ℕ) → ℕ
start_of pieces [] = length pieces
start_of pieces (own_range ∷ records) = own_range.start

abbrev pub blocks_of : List Piece → List (Range ℕ) → List Block
blocks_of pieces [] = []
blocks_of pieces (own_range ∷ records) = record {
  own = elements_in pieces own_range;
  gap = elements_in pieces (record { start = own_range.end; end = start_of pieces records });
} ∷ blocks_of pieces records

-- what stands before the first record
abbrev pub lead_of : List Piece → List (Range ℕ) → List Piece
lead_of pieces records = elements_in pieces (record { start = 0; end = start_of pieces records })

-- ---- parts

-- an element, and what it becomes when it ends in a newline
abbrev pub one : (Piece → List Piece) → Piece → Part
one becomes piece = record { old = piece ∷ []; new = becomes (closed piece) }

-- elements that stay
abbrev pub kept : List Piece → List Part
kept pieces = map (one (λ piece. piece ∷ [])) pieces

-- elements that are put in, if any
abbrev pub put : List Piece → List Part
put [] = []
put (piece ∷ pieces) = record { old = []; new = piece ∷ pieces } ∷ []

-- ---- the script

-- this is made of a block, or it stays
abbrev pub made_if : Bool → (Block → List Part) → Block → List Part
made_if chosen made block = if chosen then made block else kept (block.own ++ block.gap)

-- the parts of each record, the first of which has this index
abbrev pub parts_from : (ℕ → Bool) → (ℕ → Block → List Part) → ℕ → List Block → List Part
parts_from chosen made i blocks = flat_map (λ (k, block). made_if (chosen k) (made k) block) (enumerate_from i blocks)

-- something is made of the chosen records, and all else stays
abbrev pub script_of : (ℕ → Bool) → (ℕ → Block → List Part) → List Piece → List (Range ℕ) → List Part
script_of chosen made pieces records =
    settled (kept (lead_of pieces records) ++ parts_from chosen made 0 (blocks_of pieces records))

-- the two texts of these parts differ
abbrev pub is_changed : List Part → Bool
is_changed parts = not (is_kept (as_one (settled parts)))

-- how many of the chosen records are changed, the first record having this index
abbrev pub changed_from : (ℕ → Bool) → (ℕ → Block → List Part) → ℕ → List Block → ℕ
changed_from chosen made i blocks =
    count_by (λ (k, block). chosen k && is_changed (made k block)) (enumerate_from i blocks)

abbrev pub is_selected : List ℕ → ℕ → Bool
is_selected selected k = list_any (λ i. i == k) selected
