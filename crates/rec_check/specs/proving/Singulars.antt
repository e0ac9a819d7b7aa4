-- The values that records of a set have in its singular fields.
use Rattle.std.specs.Prelude.{◌≡◌, ℕ, ◌==◌, Bool, true, false, ◌&&◌, List, position}
use Rattle.std.specs.Cow.{cow_slice_items}
use Rattle.std.specs.List.{list_any}
use Rattle.std.specs.Option.{option_map_or}
use Rattle.std.specs.Str.{bytes_eq}
use Rattle.rec_text.specs.Elements.{Piece, name_of}
use Rattle.rec_text.specs.Values.{value_of}
use Rattle.rec_check.specs.declared.checks.singular.Singular.{Singular}
use Rattle.rec_check.specs.Violations.{stands_in}
use Rattle.rec_check.specs.Words.{distinct}
use Rattle.rec_text.specs.Bytes.{is_among}

-- a field of the name at this place had this value
abbrev pub has_seen_at : Singular → List ℕ → ℕ → Bool
has_seen_at singular value place =
    list_any (λ (at, bytes). place == at && bytes_eq value (cow_slice_items bytes)) singular.seen.keys

-- a field of this name had this value
abbrev pub has_seen : Singular → List ℕ → List ℕ → Bool
has_seen singular name value =
    option_map_or (has_seen_at singular value) (position (bytes_eq name) singular.names) false

-- the element is a field with a value that one of its name had
abbrev pub is_repeat : Singular → Piece → Bool
is_repeat singular piece = has_seen singular (name_of piece) (value_of piece)

-- the values of these names in these records have been seen
pub record IsSingularAfter (names : List (List ℕ)) (earlier : List (List Piece)) (singular : Singular) : Type 0 where
  pub names_are : singular.names ≡ distinct names
  pub seen : (name value : List ℕ) → is_among singular.names name ≡ true
      → has_seen singular name value ≡ stands_in name earlier value
