-- The lines of a text, sorted.
use Rattle.std.specs.Prelude.{◌≡◌, ℕ, Bool, false, List, [], ◌∷◌, map}
use Rattle.std.specs.Cmp.Lexicographic.{slice_cmp}
use Rattle.std.specs.List.{filter, AllByRecursion}
use Rattle.std.specs.Ordering.{is_lt, nat_cmp}
use Rattle.std.specs.Str.{bytes_eq}
use Rattle.rec_diff.specs.declared.comparing.landmarks.Line.{Line}
use Rattle.rec_diff.specs.Comparing.{places_of}
use Rattle.rec_diff.specs.Lines.{lines as lines_in}

-- one text comes before another, byte by byte
abbrev pub is_before : List ℕ → List ℕ → Bool
is_before text other = is_lt (slice_cmp nat_cmp text other)

-- where a line stands among these
abbrev pub places_in : List ℕ → List Line → List ℕ
places_in text lines = map (λ (l : Line). l.at) (filter (λ (l : Line). bytes_eq l.text.now text) lines)

-- each line of a text stands among these, at its places
abbrev pub AreLinesOf : List ℕ → List Line → Type 0
AreLinesOf text lines = (line : List ℕ) → places_in line lines ≡ places_of line 0 (lines_in text)

-- none of these comes before this text
abbrev pub IsNoneBefore : List ℕ → List Line → Type 0
IsNoneBefore text lines = AllByRecursion (λ (l : Line). is_before l.text.now text ≡ false) lines

abbrev pub AreSorted : List Line → Type 0
AreSorted [] = Unit {0}
AreSorted (l ∷ lines) = IsNoneBefore l.text.now lines × AreSorted lines

abbrev pub begins_with : List ℕ → List Line → Bool
begins_with text [] = false
begins_with text (l ∷ lines) = bytes_eq l.text.now text
