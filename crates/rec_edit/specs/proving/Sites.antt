-- Where a new record is put among the elements of a text, and the text that is put there.
use Rattle.std.specs.Prelude.{◌≡◌, ◌<◌, ℕ, List, [], ◌∷◌, ◌++◌, length, Option, Some, None}
use Rattle.std.specs.Option.{option_map_or}
use Rattle.std.specs.declared.ops.Range.{Range}
use Rattle.rec_text.specs.Elements.{Piece, text_of}
use Rattle.rec_text.specs.Records.{AreRecords}
use Rattle.rec_check.specs.Descriptors.{rec_name}
use Rattle.rec_check.specs.declared.set.Set_.{Set_}
use Rattle.rec_edit.specs.declared.insertion.site.Gap.{Gap}
use Rattle.rec_edit.specs.declared.insertion.site.Gap.TheVariants.{Absent, Before, After}
use Rattle.rec_edit.specs.declared.insertion.site.Site.{Site}
use Rattle.rec_edit.specs.Rules.{canonical, empty_line, fields_of}
use Rattle.rec_edit.specs.Insertions.{Insertion, insertion_for}
use Rattle.rec_edit.specs.Task.{Pair}
use Rattle.rec_edit.specs.proving.Drafts.{AreLines}

-- the empty line before new elements, and the one after them
abbrev pub empty_line_before : Gap → List Piece
empty_line_before Absent = []
empty_line_before Before = empty_line ∷ []
empty_line_before After = []

abbrev pub empty_line_after : Gap → List Piece
empty_line_after Absent = []
empty_line_after Before = []
empty_line_after After = empty_line ∷ []

-- new elements with their empty line
abbrev pub around : Gap → List Piece → List Piece
around Absent new = new
around Before new = empty_line ∷ new
around After new = new ++ empty_line ∷ []

-- new elements that are put at a site
abbrev pub placed : Site → List Piece → Insertion
placed site new = record { place = site.place; new = around site.gap new }

-- new elements that are put at a site, or this insertion where there is none
abbrev pub placed_or : Option Site → List Piece → Insertion → Insertion
placed_or site new other = option_map_or (λ there. placed there new) site other

-- the descriptor of a new type, and an empty line
abbrev pub heading : Option (List ℕ) → List Piece
heading None = []
heading (Some record_type) = canonical rec_name record_type ∷ empty_line ∷ []

-- Before the fields of a new record stand an empty line or none, and the descriptor of a new type. Bytes grow by these,
-- and this is the site of the record.
pub record Begins (pieces : List Piece) (sets : List Set_) (record_type : Option (List ℕ)) (site : Site)
    (old new : List ℕ) : Type 0 where
  pub records : List (Range ℕ)
  pub are : AreRecords pieces records
  pub prefix : List Piece
  pub grown : new ≡ old ++ text_of (empty_line_before site.gap ++ prefix)
  pub is : (fields : List Piece) → insertion_for pieces records sets record_type fields ≡ placed site (prefix ++ fields)

-- an insertion at this place, which puts in this text
pub record IsPut (place : ℕ) (text : List ℕ) (insertion : Insertion) : Type 0 where
  pub same_place : place ≡ insertion.place
  pub same_text : text ≡ text_of insertion.new

-- at this place this text is put in: a new record with these fields, after automatic ones that are given as a text
pub record IsRecordPut (pieces : List Piece) (sets : List Set_) (record_type : Option (List ℕ)) (automatic : List ℕ)
    (pairs : List Pair) (place : ℕ) (text : List ℕ) : Type 0 where
  pub records : List (Range ℕ)
  pub are : AreRecords pieces records
  pub is : (given : List Piece) → automatic ≡ text_of given
      → IsPut place text (insertion_for pieces records sets record_type (given ++ fields_of pairs))

-- a text of some elements, each of which ends in a newline
pub record AreSome (pieces : List Piece) (text : List ℕ) : Type 0 where
  pub some : 0 < length pieces
  pub lines : AreLines pieces
  pub is : text ≡ text_of pieces
