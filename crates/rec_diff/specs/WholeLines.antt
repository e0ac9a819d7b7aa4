-- The change of whole lines that a patch makes.
use Rattle.std.specs.Prelude.{◌≡◌, ◌≢◌, ℕ, ◌+◌, ◌-◌, IsTrue, List, [], ◌∷◌, ◌++◌, ◌==◌, ◌&&◌, length, map, take, drop}
use Rattle.std.specs.Prelude.{reverse, if◌then◌else◌}
use Rattle.std.specs.List.{flat_map, AllByRecursion}
use Rattle.std.specs.Str.{bytes_eq}
use Rattle.rec_text.specs.Ascii.{newline}
use Rattle.rec_journal.specs.declared.patch.Hunk.{Hunk}
use Rattle.rec_diff.specs.Lines.{at_line, lines}
use Rattle.rec_diff.specs.Changes.{Stretch, stays, turns, hunks_at, before_of, after_of, old_of, new_of, joined}

-- a part with these texts before and after
abbrev pub closed : List ℕ → List ℕ → List Stretch → List Stretch
closed old new parts = if bytes_eq old new then stays old ∷ parts else turns old new ∷ parts

-- Parts of whole lines. `old` and `new` are open of a line: they are closed where both texts are at the start of one.
abbrev pub lined_stay : List ℕ → (List ℕ → List ℕ → List Stretch) → List ℕ → List ℕ → List Stretch
lined_stay [] rest old new = rest old new
lined_stay (b ∷ bs) rest old new =
    if b == newline then closed (old ++ b ∷ []) (new ++ b ∷ []) (lined_stay bs rest [] [])
    else lined_stay bs rest (old ++ b ∷ []) (new ++ b ∷ [])

abbrev pub lined_turn : (List ℕ → List ℕ → List Stretch) → List ℕ → List ℕ → List Stretch
lined_turn rest old new = if at_line old && at_line new then closed old new (rest [] []) else rest old new

abbrev pub lined_from : List Stretch → List ℕ → List ℕ → List Stretch
lined_from [] old new = closed old new []
lined_from (stays t ∷ parts) old new = lined_stay t (lined_from parts) old new
lined_from (turns o n ∷ parts) old new = lined_turn (lined_from parts) (old ++ o) (new ++ n)

-- how many bytes the first lines have that are the same in both
abbrev pub same_lines : List (List ℕ) → List (List ℕ) → ℕ
same_lines [] others = 0
same_lines (line ∷ lines) [] = 0
same_lines (line ∷ lines) (other ∷ others) = if bytes_eq line other then length line + same_lines lines others else 0

abbrev pub same_start : List ℕ → List ℕ → ℕ
same_start old new = same_lines (lines old) (lines new)

abbrev pub same_end : List ℕ → List ℕ → ℕ
same_end old new = same_lines (reverse (lines old)) (reverse (lines new))

-- the last bytes of a turn stay, which are the same in both
abbrev pub without_end : ℕ → List ℕ → List ℕ → List Stretch
without_end last old new =
    turns (take (length old - last) old) (take (length new - last) new) ∷ stays (drop (length old - last) old) ∷ []

-- the first ones stay, and then the last lines that are the same in both
abbrev pub without_start : ℕ → List ℕ → List ℕ → List Stretch
without_start first old new =
    stays (take first old) ∷ without_end (same_end (drop first old) (drop first new)) (drop first old) (drop first new)

-- the first lines of a turn that are the same in both stay, and then the last ones
abbrev pub trimmed : Stretch → List Stretch
trimmed (stays t) = stays t ∷ []
trimmed (turns old new) = without_start (same_start old new) old new

-- the parts of whole lines of a change
abbrev pub whole_lines : List Stretch → List Stretch
whole_lines parts = joined (flat_map trimmed (joined (lined_from parts [] [])))

-- the change that a patch makes of a text, in whole lines
pub record IsChange (patch : List Hunk) (before after : List ℕ) (parts : List Stretch) : Type 0 where
  pub cut : List Stretch
  pub by_patch : hunks_at 0 cut ≡ patch
  pub from : before_of cut ≡ before
  pub to : after_of cut ≡ after
  pub lined : parts ≡ whole_lines cut

-- there is no other
abbrev pub OneChange : Type 0
OneChange = (patch : List Hunk) (before after : List ℕ) (parts others : List Stretch)
    → IsChange patch before after parts → IsChange patch before after others → parts ≡ others

-- ---- what it comes to

-- of each of these texts that isn't the last nothing is open of a line
abbrev pub AreLines : List (List ℕ) → Type 0
AreLines [] = Unit {0}
AreLines (t ∷ ts) = (flat_map (λ later. later) ts ≢ [] → IsTrue (at_line t)) × AreLines ts

-- the first ones of these lines differ, where there are any in both
abbrev pub BeginApart : List (List ℕ) → List (List ℕ) → Type 0
BeginApart (line ∷ rest) (other ∷ others) = line ≢ other
BeginApart rest others = Unit {0}

-- of what turns, no first line is the same in both texts, and no last one
abbrev pub IsShort : Stretch → Type 0
IsShort (stays t) = Unit {0}
IsShort (turns old new) = BeginApart (lines old) (lines new) × BeginApart (reverse (lines old)) (reverse (lines new))

-- the parts lead from the one text to the other, by whole lines, and are as short as can be
pub record LeadsByLines (before after : List ℕ) (parts : List Stretch) : Type 0 where
  pub from : before_of parts ≡ before
  pub to : after_of parts ≡ after
  pub old_lines : AreLines (map old_of parts)
  pub new_lines : AreLines (map new_of parts)
  pub apart : joined parts ≡ parts
  pub short : AllByRecursion IsShort parts

-- each change does
abbrev pub ChangesLeadByLines : Type 0
ChangesLeadByLines = (patch : List Hunk) (before after : List ℕ) (parts : List Stretch)
    → IsChange patch before after parts → LeadsByLines before after parts
