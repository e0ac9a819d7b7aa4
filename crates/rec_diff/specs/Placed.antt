-- Texts by their elements and records, each where it stands.
use Rattle.std.specs.Prelude.{◌≡◌, ℕ, ◌+◌, Bool, List, [], ◌∷◌, length, map, take, drop, filter, Option, None}
use Rattle.std.specs.declared.ops.Range.{Range}
use Rattle.rec_text.specs.Elements.{Piece, AreElementsOf}
use Rattle.rec_text.specs.Records.{AreRecords, is_blank_piece, is_field_piece}
use Rattle.rec_check.specs.Descriptors.{type_after}

-- an element, and where it begins
pub record Placed : Type 0 where
  pub at : ℕ
  pub piece : Piece

abbrev pub size : Placed → ℕ
size x = length x.piece.bytes

abbrev pub is_field : Placed → Bool
is_field x = is_field_piece x.piece

abbrev pub is_blank : Placed → Bool
is_blank x = is_blank_piece x.piece

-- each begins where the one before it ends, the first at this place
abbrev pub placed_from : ℕ → List Piece → List Placed
placed_from at [] = []
placed_from at (piece ∷ pieces) = record { at = at; piece = piece } ∷ placed_from (at + length piece.bytes) pieces

-- a record by its fields, and the type of its set; a descriptor's is its own
pub record PlacedRecord : Type 0 where
  pub fields : List Placed
  pub record_type : Option (List ℕ)

-- the elements of a record, in the set of this type or, where they name one, of that
abbrev pub record_of : Option (List ℕ) → List Placed → PlacedRecord
record_of record_type own = record {
  fields = filter is_field own;
  record_type = type_after record_type (map (λ (x : Placed). x.piece) own);
}

-- those of records one after another
abbrev pub records_from : Option (List ℕ) → List (List Placed) → List PlacedRecord
records_from record_type [] = []
records_from record_type (own ∷ owns) =
    record_of record_type own ∷ records_from (record_of record_type own).record_type owns

-- a text that reads
pub record PlacedText : Type 0 where
  pub elements : List Placed
  pub records : List PlacedRecord

-- the elements and the records of these pieces, of which these ranges are the records
abbrev pub placed_text : List Piece → List (Range ℕ) → PlacedText
placed_text pieces ranges = record {
  elements = placed_from 0 pieces;
  records = records_from None (map (λ own. drop own.start (take own.end (placed_from 0 pieces))) ranges);
}

-- they are those of this text
pub record IsPlaced (text : List ℕ) (placed : PlacedText) : Type 0 where
  pub pieces : List Piece
  pub read : AreElementsOf pieces text
  pub ranges : List (Range ℕ)
  pub are_records : AreRecords pieces ranges
  pub is : placed ≡ placed_text pieces ranges
