-- The script of an edit: parts in order, in each of which some elements are replaced by others. Joined, the old ones
-- are the elements of the text, and the new ones those of the edited text.
use Rattle.std.specs.Prelude.{◌≡◌, ◌≢◌, ℕ, ◌+◌, ◌==◌, Bool, ◌&&◌, not, List, [], ◌∷◌, ◌++◌}
use Rattle.std.specs.Prelude.{length, map, flat_map, if◌then◌else◌}
use Rattle.std.specs.List.{AllByRecursion}
use Rattle.std.specs.Str.{bytes_eq}
use Rattle.rec_text.specs.Ascii.{newline}
use Rattle.rec_text.specs.Bytes.{is_nil, ends_newline, closed_text}
use Rattle.rec_text.specs.Elements.{Piece, text_of}
use Rattle.rec_journal.specs.declared.patch.Hunk.{Hunk}

-- some elements, and those that stand in their place
pub record Part : Type 0 where
  pub old : List Piece
  pub new : List Piece

-- ---- the newline at the end of the text

-- with a newline at its end
abbrev pub closed : Piece → Piece
closed piece = record piece { bytes = closed_text piece.bytes }

-- without the newline at its end
abbrev pub without_newline : List ℕ → List ℕ
without_newline [] = []
without_newline (b ∷ []) = if b == newline then [] else b ∷ []
without_newline (b ∷ c ∷ bs) = b ∷ without_newline (c ∷ bs)

-- the last one is made another, and those before it stay
abbrev pub on_last : {X : Type 0} → (X → X) → List X → List X
on_last made [] = []
on_last made (x ∷ []) = made x ∷ []
on_last made (x ∷ y ∷ xs) = x ∷ on_last made (y ∷ xs)

-- the last one without its newline
abbrev pub opened : List Piece → List Piece
opened pieces = on_last (λ piece. record piece { bytes = without_newline piece.bytes }) pieces

-- the last byte is there and is no newline
abbrev pub lacks_newline : List ℕ → Bool
lacks_newline text = not (is_nil text) && not (ends_newline text)

-- Parts are made of elements with newlines. What stands instead of a last element without one lacks it too, unless
-- something is put after it.
abbrev pub settled : List Part → List Part
settled parts = on_last (λ part. if lacks_newline (text_of part.old) then record part { new = opened part.new }
    else part) parts

-- ---- the two texts

abbrev pub old_pieces : List Part → List Piece
old_pieces script = flat_map (λ part. part.old) script

-- the elements of the edited text
abbrev pub new_pieces : List Part → List Piece
new_pieces script = flat_map (λ part. part.new) script

abbrev pub edited_text : List Part → List ℕ
edited_text script = text_of (new_pieces script)

-- some parts as one
abbrev pub as_one : List Part → Part
as_one run = record { old = old_pieces run; new = new_pieces run }

-- ---- the patch

-- the two texts of a part are the same
abbrev pub is_kept : Part → Bool
is_kept part = bytes_eq (text_of part.old) (text_of part.new)

-- a hunk for each part that isn't kept, the first part beginning at this place of the old text
abbrev pub changes_from : ℕ → List Part → List Hunk
changes_from at [] = []
changes_from at (part ∷ parts) =
    if is_kept part
    then changes_from (at + length (text_of part.old)) parts
    else record { at = at; old = text_of part.old; new = text_of part.new }
    ∷ changes_from (at + length (text_of part.old)) parts

-- runs of kept parts and of changed ones in turn, each as long as it can be; the first is of kept parts, or of changed
-- ones
abbrev pub AreInTurn : Bool → List (List Part) → Type 0
AreInTurn kept [] = Unit {0}
AreInTurn kept (run ∷ runs) = (run ≢ []) × AllByRecursion (λ part. is_kept part ≡ kept) run × AreInTurn (not kept) runs

-- the script is cut into such runs, and a hunk stands for each of them whose two texts differ
pub record AreChangesOf (script : List Part) (hunks : List Hunk) : Type 0 where
  pub runs : List (List Part)
  pub joined : flat_map (λ run. run) runs ≡ script
  pub first : Bool
  pub in_turn : AreInTurn first runs
  pub changes : hunks ≡ changes_from 0 (map as_one runs)

-- a hunk takes out whole elements, at the place where they stand
abbrev pub TakesWhole : List Piece → Hunk → Type 0
TakesWhole pieces hunk = (prefix old following : List Piece) × (pieces ≡ prefix ++ (old ++ following))
    × (hunk.at ≡ length (text_of prefix)) × (hunk.old ≡ text_of old)
