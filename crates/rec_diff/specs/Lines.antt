-- The physical lines of a text.
use Rattle.std.specs.Prelude.{ℕ, ◌+◌, ◌-◌, Bool, List, [], ◌∷◌, ◌==◌, ◌||◌, count_by, take, drop, if◌then◌else◌}
use Rattle.std.specs.List.{flat_map, between}
use Rattle.rec_text.specs.Ascii.{newline}
use Rattle.rec_text.specs.Bytes.{is_nil, ends_newline}

-- nothing is open of a line at the end
abbrev pub at_line : List ℕ → Bool
at_line text = is_nil text || ends_newline text

abbrev pub newlines : List ℕ → ℕ
newlines text = count_by (λ b. b == newline) text

-- how many lines there are, the last one with its newline or without
abbrev pub line_count : List ℕ → ℕ
line_count text = newlines text + (if at_line text then 0 else 1)

-- a byte before the first of some lines
abbrev pub onto_first_line : ℕ → List (List ℕ) → List (List ℕ)
onto_first_line b [] = (b ∷ []) ∷ []
onto_first_line b (line ∷ lines) = (b ∷ line) ∷ lines

-- the lines, each with its newline
abbrev pub lines : List ℕ → List (List ℕ)
lines [] = []
lines (b ∷ bs) = if b == newline then (b ∷ []) ∷ lines bs else onto_first_line b (lines bs)

-- ---- some of them

abbrev pub first_lines : ℕ → List ℕ → List ℕ
first_lines n text = flat_map (λ line. line) (take n (lines text))

abbrev pub last_lines : ℕ → List ℕ → List ℕ
last_lines n text = flat_map (λ line. line) (drop (line_count text - n) (lines text))

-- those between the first n and the last m
abbrev pub inner_lines : ℕ → ℕ → List ℕ → List ℕ
inner_lines n m text = flat_map (λ line. line) (between n (line_count text - m) (lines text))
