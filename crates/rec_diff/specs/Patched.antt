-- What a printed diff makes of a text, for a program that patches and takes no line for another: each line that stays
-- or goes has to be the next one of the text, at its number.
use Rattle.std.specs.Prelude.{◌≡◌, ℕ, ◌+◌, ◌-◌, ◌<◌, ◌^◌, List, [], ◌∷◌, ◌++◌, ◌==◌, ◌&&◌, length, take, drop, nat_le}
use Rattle.std.specs.Prelude.{Option, Some, None, Ok, option_map, if◌then◌else◌}
use Rattle.std.specs.Option.{option_and_then}
use Rattle.std.specs.Str.{bytes_eq}
use Rattle.std.specs.Str.Parse.{digits_value}
use Rattle.rec_text.specs.Ascii.{backslash, comma, hyphen, plus_sign, space}
use Rattle.rec_journal.specs.declared.patch.Hunk.{Hunk}
use Rattle.rec_diff.specs.declared.style.DiffStyle.{DiffStyle}
use Rattle.rec_diff.specs.Lines.{lines}
use Rattle.rec_diff.specs.Diff.{IsChangeText}

-- ---- the place of a hunk

-- the bytes before the first one of a kind, and those after it
abbrev pub before_byte : ℕ → List ℕ → List ℕ
before_byte byte [] = []
before_byte byte (b ∷ bs) = if b == byte then [] else b ∷ before_byte byte bs

abbrev pub after_byte : ℕ → List ℕ → List ℕ
after_byte byte text = drop (length (before_byte byte text) + 1) text

abbrev pub number_before : ℕ → List ℕ → ℕ
number_before byte text = digits_value 10 (before_byte byte text)

-- how many lines stand before a place `L,N `
abbrev pub lines_before : List ℕ → ℕ
lines_before text =
    if number_before space (after_byte comma text) == 0 then number_before comma text
    else number_before comma text - 1

-- what stands after it
abbrev pub after_place : List ℕ → List ℕ
after_place text = after_byte space (after_byte comma text)

-- ---- lines

-- a line that a row shows: without a newline where the next row says that it has none
abbrev pub line_of : List ℕ → List (List ℕ) → List ℕ
line_of line [] = line
line_of line ([] ∷ rows) = line
line_of line ((b ∷ bs) ∷ rows) = if b == backslash then take (length line - 1) line else line

-- the lines after this one, which has to come first
abbrev pub after_line : List ℕ → List (List ℕ) → Option (List (List ℕ))
after_line line [] = None
after_line line (first ∷ others) = if bytes_eq line first then Some others else None

-- what is made where a hunk begins: the lines before it stay, and of those after them this is made
abbrev pub after_skip : ℕ → ℕ → ℕ → ℕ → List (List ℕ) → (List (List ℕ) → Option (List (List ℕ)))
    → Option (List (List ℕ))
after_skip old new passed made left next =
    if (new == made + (old - passed)) && nat_le (old - passed) (length left)
    then option_map (take (old - passed) left ++◌) (next (drop (old - passed) left))
    else None

-- What rows make of the lines that are left of a text, once these numbers of lines were passed in it and made. A row is
-- a line that stays, goes or comes, the word on a newline, or else the first one of a hunk, `@@ -L,N +L,N @@`.
abbrev pub patched : ℕ → ℕ → List (List ℕ) → List (List ℕ) → Option (List (List ℕ))
patched passed made [] left = Some left
patched passed made ([] ∷ rows) left = None
patched passed made ((mark ∷ line) ∷ rows) left =
    if mark == space then option_and_then
    (λ rest. option_map (line_of line rows ∷◌) (patched (passed + 1) (made + 1) rows rest))
    (after_line (line_of line rows) left)
    else if mark == hyphen then option_and_then
    (λ rest. patched (passed + 1) made rows rest)
    (after_line (line_of line rows) left)
    else if mark == plus_sign then option_map (line_of line rows ∷◌) (patched passed (made + 1) rows left)
    else if mark == backslash then patched passed made rows left
    else after_skip (lines_before (drop 3 line)) (lines_before (drop 1 (after_place (drop 3 line)))) passed made left
    (λ rest. patched (lines_before (drop 3 line)) (lines_before (drop 1 (after_place (drop 3 line)))) rows rest)

-- ---- laws

-- a diff makes the text after of the text before; its first two lines have the name
abbrev pub DiffsLead : Type 0
DiffsLead = (style : DiffStyle) (patch : List Hunk) (before after printed : List ℕ) → length before < 2 ^ 63
    → length after < 2 ^ 63 → IsChangeText style patch before after (Ok printed)
    → patched 0 0 (drop 2 (lines printed)) (lines before) ≡ Some (lines after)

-- so of one text before, diffs that print alike lead to one text after
abbrev pub OneTextAfter : Type 0
OneTextAfter = (style other : DiffStyle) (patch also : List Hunk) (before one two printed : List ℕ)
    → length before < 2 ^ 63 → length one < 2 ^ 63 → length two < 2 ^ 63
    → IsChangeText style patch before one (Ok printed)
    → IsChangeText other also before two (Ok printed) → one ≡ two
