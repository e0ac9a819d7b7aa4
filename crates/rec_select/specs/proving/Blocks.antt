-- The text of one record's block, and of blocks one after another.
use Rattle.std.specs.Prelude.{ℕ, Bool, not, List, [], ◌∷◌, ◌++◌, map, filter, flat_map, if◌then◌else◌}
use Rattle.std.specs.declared.ops.Range.{Range}
use Rattle.rec_text.specs.Ascii.{newline, space}
use Rattle.rec_text.specs.Bytes.{is_nil}
use Rattle.rec_text.specs.Elements.{Piece}
use Rattle.rec_text.specs.Places.{pieces_of}
use Rattle.rec_text.specs.Records.{record_at}
use Rattle.rec_text.specs.Values.{value_of}
use Rattle.rec_select.specs.declared.block.Block.{Block}
use Rattle.rec_select.specs.declared.block.Block.TheVariants.{Fields, Elements, Values, Row}
use Rattle.rec_select.specs.declared.block.ElementForm.{ElementForm}
use Rattle.rec_select.specs.declared.block.ElementForm.TheVariants.{Closed, ValueLine, SpacedValue}
use Rattle.rec_select.specs.declared.records.Shape.{Shape}
use Rattle.rec_select.specs.declared.records.Shape.TheVariants.{Blocks}
use Rattle.rec_select.specs.Printing.{block_of, printed_element, row_of, value_line}

-- a space, and a value
abbrev pub spaced_value : Piece → List ℕ
spaced_value piece = space ∷ value_of piece

-- what is printed of an element
abbrev pub in_form : ElementForm → Piece → List ℕ
in_form Closed = printed_element
in_form ValueLine = value_line
in_form SpacedValue = spaced_value

-- what a block prints
abbrev pub block_text : Block → List ℕ
block_text (Fields fields) = block_of Blocks fields
block_text (Elements elements) = flat_map printed_element (pieces_of elements.items)
block_text (Values elements) = flat_map value_line (pieces_of elements.items)
block_text (Row elements) = row_of (map value_of (pieces_of elements.items))

-- a text and a block; nothing where the block holds nothing
abbrev pub led_by : List ℕ → List ℕ → List ℕ
led_by before block = if is_nil block then [] else before ++ block

-- what stands before a record's block: an empty line, unless it is the first
abbrev pub gap : Bool → List ℕ
gap is_first = if is_first then [] else newline ∷ []

-- the blocks that hold anything
abbrev pub full : List (List ℕ) → List (List ℕ)
full blocks = filter (λ block. not (is_nil block)) blocks

-- those of the records of some indexes
abbrev pub blocks_of : Shape → List Piece → List (Range ℕ) → List ℕ → List (List ℕ)
blocks_of shape pieces records selected = full (map (λ i. block_of shape (record_at pieces records i)) selected)

-- blocks with a separator between each two
abbrev pub separated : List ℕ → List (List ℕ) → List ℕ
separated separator [] = []
separated separator (block ∷ blocks) = block ++ flat_map (λ other. separator ++ other) blocks
