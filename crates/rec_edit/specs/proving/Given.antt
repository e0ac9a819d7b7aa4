-- The text of automatic fields.
use Rattle.std.specs.Prelude.{◌≡◌, ℕ, Bool, List, Option, Ok}
use Rattle.rec_text.specs.Elements.{Piece, text_of}
use Rattle.rec_check.specs.Schemas.{Described}
use Rattle.rec_edit.specs.Insertions.{Numbered, numbered_fields}
use Rattle.rec_edit.specs.Automatic.{AreAutomatic}

-- the text of the automatic fields of a new record
abbrev pub IsAutomaticText : List Piece → Described → Option (List ℕ) → Bool → List (List ℕ) → List ℕ → Type 0
IsAutomaticText pieces schema record_type auto names text =
    (automatic : List Numbered) × AreAutomatic pieces schema record_type auto names (Ok automatic)
    × (text ≡ text_of (numbered_fields automatic))
