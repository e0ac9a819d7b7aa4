-- Two texts compared.
use Rattle.std.specs.Prelude.{◌≡◌, ℕ, ◌+◌, ◌<◌, ◌≤◌, List, [], ◌∷◌, ◌⊎◌, Option, Some, None, length, nat_lt, nat_le}
use Rattle.std.specs.Prelude.{drop, flat_map, if◌then◌else◌}
use Rattle.std.specs.List.{between}
use Rattle.std.specs.Str.{bytes_eq}
use Rattle.rec_journal.specs.declared.patch.Hunk.{Hunk}
use Rattle.rec_journal.specs.declared.event.Tool.{Tool}
use Rattle.rec_journal.specs.declared.event.EditStep.{EditStep}
use Rattle.rec_journal.specs.Patch.{IsPatch, Splices}
use Rattle.rec_journal.specs.Revisions.{single_step}
use Rattle.rec_diff.specs.declared.turn.Place.{Place}
use Rattle.rec_diff.specs.Changes.{Stretch, stays, turns, hunks_at}
use Rattle.rec_diff.specs.Lines.{first_lines, lines}
use Rattle.rec_diff.specs.WholeLines.{trimmed, whole_lines, IsChange}

-- ---- landmarks: lines that stand once in each text

-- the places at which a line begins, of these lines after some bytes
abbrev pub places_of : List ℕ → ℕ → List (List ℕ) → List ℕ
places_of line at [] = []
places_of line at (l ∷ ls) =
    if bytes_eq l line then at ∷ places_of line (at + length l) ls else places_of line (at + length l) ls

-- the place, where there is one
abbrev pub only : List ℕ → Option ℕ
only (at ∷ []) = Some at
only places = None

abbrev pub landmark : Option ℕ → Option ℕ → List Place
landmark (Some old) (Some new) = record { old = old; new = new } ∷ []
landmark old new = []

-- each by its places in both texts, in the order of the old one
abbrev pub landmarks : List ℕ → List ℕ → List Place
landmarks old new =
    flat_map (λ line. landmark (only (places_of line 0 (lines old))) (only (places_of line 0 (lines new)))) (lines old)

-- the first of two lists, unless the other one is longer
abbrev pub longer : List Place → List Place → List Place
longer one other = if nat_lt (length one) (length other) then other else one

-- The longest list of them that has one order in both texts, from this place of the new one on: with the first of
-- them, unless it is longer without.
abbrev pub longest_from : ℕ → List Place → List Place
longest_from least [] = []
longest_from least (m ∷ marks) =
    if nat_le least m.new then longer (m ∷ longest_from (m.new + 1) marks) (longest_from least marks)
    else longest_from least marks

-- ---- hunks

-- from a place of both texts on, the lines at these landmarks stay, and what stands between them turns
abbrev pub parts_by : List ℕ → List ℕ → Place → List Place → List Stretch
parts_by old new from [] = turns (drop from.old old) (drop from.new new) ∷ []
parts_by old new from (m ∷ marks) =
    let line = first_lines 1 (drop m.old old) in
    turns (between from.old m.old old) (between from.new m.new new) ∷ stays line
    ∷ parts_by old new (record { old = m.old + length line; new = m.new + length line }) marks

-- what turns, cut at its landmarks
abbrev pub refined : Stretch → List Stretch
refined (stays t) = stays t ∷ []
refined (turns old new) = parts_by old new (record { old = 0; new = 0 }) (longest_from 0 (landmarks old new))

-- the first lines that are the same stay, then the last ones, and then the landmarks of what is left
abbrev pub parts_between : List ℕ → List ℕ → List Stretch
parts_between old new = flat_map refined (trimmed (turns old new))

-- from one text to another, as a diff shows these parts
abbrev pub hunks_between : List ℕ → List ℕ → List Hunk
hunks_between old new = hunks_at 0 (whole_lines (parts_between old new))

-- the one step by a tool from one text to another
abbrev pub step_between : Tool → List ℕ → List ℕ → List EditStep
step_between tool old new = single_step tool (hunks_between old new)

-- ---- what it comes to

-- the hunks lead from the one text to the other, by whole lines, and are those that a diff shows of them
pub record LeadsBetween (old new : List ℕ) (hunks : List Hunk) : Type 0 where
  pub parts : List Stretch
  pub are : hunks ≡ hunks_at 0 parts
  pub shown : IsChange hunks old new parts
  pub splice : Splices hunks old new
  pub is_patch : IsPatch hunks
  -- and where the texts are one there is none
  pub none : old ≡ new → hunks ≡ []

abbrev pub HunksLeadBetween : Type 0
HunksLeadBetween = (old new : List ℕ) → LeadsBetween old new (hunks_between old new)

-- some of these landmarks, in their order in the old text, have one in the new text too, from this place on
abbrev pub AreInOrder : ℕ → List Place → List Place → Type 0
AreInOrder least marks [] = Unit {0}
AreInOrder least [] (c ∷ chosen) = ⊥
AreInOrder least (m ∷ marks) (c ∷ chosen) =
    ((c ≡ m) × (least ≤ m.new) × AreInOrder (m.new + 1) marks chosen) ⊎ AreInOrder least marks (c ∷ chosen)

-- where the first list first differs from the second one, it has the one that stands earlier in the old text
abbrev pub IsEarlier : List Place → List Place → Type 0
IsEarlier (m ∷ marks) (o ∷ others) = (m.old < o.old) ⊎ ((m ≡ o) × IsEarlier marks others)
IsEarlier marks others = Unit {0}

-- chosen of these in one order: no others are more, and where there is a choice these are earlier
pub record IsLongestOf (marks chosen : List Place) : Type 0 where
  pub in_order : AreInOrder 0 marks chosen
  pub most : (others : List Place) → AreInOrder 0 marks others → length others ≤ length chosen
  pub earlier : (others : List Place) → AreInOrder 0 marks others → length others ≡ length chosen
      → IsEarlier chosen others

abbrev pub LongestIsLongest : Type 0
LongestIsLongest = (old new : List ℕ) → IsLongestOf (landmarks old new) (longest_from 0 (landmarks old new))
