-- What the hunks show, by places in both texts.
use Rattle.std.specs.Prelude.{◌≡◌, ℕ, ◌+◌, ◌≤◌, ◌<◌, List, [], ◌∷◌, ◌++◌, length, take, drop, codes, if◌then◌else◌}
use Rattle.std.specs.List.{between}
use Rattle.rec_text.specs.Bytes.{is_nil}
use Rattle.rec_diff.specs.declared.turn.Place.{Place}
use Rattle.rec_diff.specs.declared.turn.Turn.{Turn}
use Rattle.rec_diff.specs.declared.passages.Passage.{Passage}
use Rattle.rec_diff.specs.Changes.{Stretch, stays, turns, before_of, after_of}
use Rattle.rec_diff.specs.Lines.{first_lines, last_lines}
use Rattle.rec_diff.specs.Diff.{after_space, begins_blank, hunk, marked}
use Rattle.rec_diff.specs.proving.Turns.{AreIn}

-- a text that stays, before these parts; of no text nothing
abbrev pub if_stays : List ℕ → List Stretch → List Stretch
if_stays [] parts = parts
if_stays (b ∷ bs) parts = stays (b ∷ bs) ∷ parts

-- where the last of these turns ends, after this place
abbrev pub end_from : Place → List Turn → Place
end_from place [] = place
end_from place (t ∷ ts) = end_from t.end ts

abbrev pub origin : Place
origin = record { old = 0; new = 0 }

module _ (before after : List ℕ) where
  abbrev pub turn_part : Turn → Stretch
  turn_part t = turns (between t.start.old t.end.old before) (between t.start.new t.end.new after)

  -- these turns, and what stays before each of them, from a place on
  abbrev pub parts_from : Place → List Turn → List Stretch
  parts_from place [] = []
  parts_from place (t ∷ ts) = if_stays (between place.old t.start.old before) (turn_part t ∷ parts_from t.end ts)

  -- the same, and what stays after the last one
  abbrev pub cut_at : Place → List Turn → List Stretch
  cut_at place [] = if_stays (drop place.old before) []
  cut_at place (t ∷ ts) = if_stays (between place.old t.start.old before) (turn_part t ∷ cut_at t.end ts)

  -- both texts are the same between two places
  pub record IsKept (from to : Place) : Type 0 where
    pub order_old : from.old ≤ to.old
    pub fits_old : to.old ≤ length before
    pub order_new : from.new ≤ to.new
    pub fits_new : to.new ≤ length after
    pub same : between from.old to.old before ≡ between from.new to.new after

  abbrev pub ends : Place
  ends = record { old = length before; new = length after }

  pub record IsTurn (t : Turn) : Type 0 where
    pub order_old : t.start.old ≤ t.end.old
    pub order_new : t.start.new ≤ t.end.new

  -- both texts are the same from a place on, but for these turns
  abbrev pub AreKept : Place → List Turn → Type 0
  AreKept place [] = IsKept place ends
  AreKept place (t ∷ ts) = IsKept place t.start × IsTurn t × AreKept t.end ts

  -- where the last lines of what stays between two places begin, this number of them
  pub record BeginsLast (context : ℕ) (from to start : Place) : Type 0 where
    pub old : start.old + length (last_lines context (between from.old to.old before)) ≡ to.old
    pub new : start.new + length (last_lines context (between from.old to.old before)) ≡ to.new

  -- where the first lines end
  pub record EndsFirst (context : ℕ) (from to end : Place) : Type 0 where
    pub old : end.old ≡ from.old + length (first_lines context (between from.old to.old before))
    pub new : end.new ≡ from.new + length (first_lines context (between from.old to.old before))

  -- ---- passages

  abbrev pub parts_in : Passage → List Stretch
  parts_in x =
      parts_from x.start x.turns.now ++ if_stays (between (end_from x.start x.turns.now).old x.end.old before) []

  abbrev pub passage_text : Passage → List ℕ
  passage_text x = hunk (take x.start.old before) (take x.start.new after) (parts_in x)

  -- it shows turns within the texts, not before these places, and both texts around them
  pub record IsPassage (old new : ℕ) (x : Passage) : Type 0 where
    pub some : 0 < length x.turns.now
    pub start_old : old ≤ x.start.old
    pub start_new : new ≤ x.start.new
    pub turns : AreIn before after x.start.old x.start.new x.turns.now
    pub end_old : (end_from x.start x.turns.now).old ≤ x.end.old
    pub end_new : (end_from x.start x.turns.now).new ≤ x.end.new
    pub order_old : x.start.old ≤ x.end.old
    pub order_new : x.start.new ≤ x.end.new
    pub fits_old : x.end.old ≤ length before
    pub fits_new : x.end.new ≤ length after
    pub old_is : before_of (parts_in x) ≡ between x.start.old x.end.old before
    pub new_is : after_of (parts_in x) ≡ between x.start.new x.end.new after

  -- passages in order from these places on
  abbrev pub ArePassages : ℕ → ℕ → List Passage → Type 0
  ArePassages old new [] = Unit {0}
  ArePassages old new (x ∷ xs) = IsPassage old new x × ArePassages x.end.old x.end.new xs

  -- the heading of a hunk with these turns, before the first of which a field is found
  abbrev pub first_heading : List Turn → List ℕ → List ℕ
  first_heading [] field = []
  first_heading (t ∷ ts) field =
      if begins_blank (if is_nil (between t.start.old t.end.old before)
      then between t.start.new t.end.new after else between t.start.old t.end.old before)
      then [] else after_space field

  -- the lines of a turn, and those before it from a place on
  abbrev pub turn_lines : Place → Turn → List ℕ
  turn_lines place t =
      marked (codes " ") (between place.old t.start.old before)
      ++ (marked (codes "-") (between t.start.old t.end.old before)
      ++ marked (codes "+") (between t.start.new t.end.new after))

  -- the lines of turns from a place on, and those after them up to another
  abbrev pub lines_to : Place → List Turn → Place → List ℕ
  lines_to place [] end = marked (codes " ") (between place.old end.old before)
  lines_to place (t ∷ ts) end = turn_lines place t ++ lines_to t.end ts end
