-- How the turns of a change and those of later ones are told apart.
use Rattle.std.specs.Prelude.{◌≡◌, ℕ, ◌+◌, ◌-◌, ◌≤◌, Bool, true, false, ◌&&◌, ◌||◌, not, ◌==◌, nat_le}
use Rattle.std.specs.Prelude.{List, [], ◌∷◌, length, map, Option, Some, None, if◌then◌else◌}
use Rattle.std.specs.List.{between}
use Rattle.rec_text.specs.Bytes.{is_nil}
use Rattle.rec_journal.specs.declared.event.EditStep.{EditStep}
use Rattle.rec_journal.specs.Patch.{Splices}
use Rattle.rec_journal.specs.declared.patch.Hunk.{Hunk}
use Rattle.rec_diff.specs.declared.turn.Place.{Place}
use Rattle.rec_diff.specs.declared.turn.Turn.{Turn}
use Rattle.rec_diff.specs.declared.reverting.standing.Ahead.{Ahead}
use Rattle.rec_diff.specs.declared.reverting.standing.Back.{Back}
use Rattle.rec_diff.specs.Changes.{cut_from}
use Rattle.rec_diff.specs.Composing.{all_deeds, deed_hunks, patches_of}
use Rattle.rec_diff.specs.WholeLines.{whole_lines}
use Rattle.rec_diff.specs.proving.Turns.{AreIn, site_of, sites}

-- ---- hunks

-- hunks in order, a byte or more between two of them, the first not before this place; each is of something
abbrev pub AreSpaced : ℕ → List Hunk → Type 0
AreSpaced least [] = Unit {0}
AreSpaced least (h ∷ hunks) = (least ≤ h.at) × ((is_nil h.old && is_nil h.new) ≡ false)
    × AreSpaced (h.at + length h.old + 1) hunks

-- one before others, if there are any
abbrev pub onto : {X : Type 0} → X → Option (List X) → Option (List X)
onto x None = None
onto x (Some xs) = Some (x ∷ xs)

-- none where two meet; one answer where the other comes before, and one where it comes after
abbrev pub by_order : {X : Type 0} → Option Bool → Option X → Option X → Option X
by_order None before after = None
by_order (Some true) before after = before
by_order (Some false) before after = after

-- the first takes nothing out, and the other puts something and begins or ends there
abbrev pub is_beside : Hunk → Hunk → Bool
is_beside back other =
    is_nil back.old && (not (is_nil other.new) && (other.at == back.at || other.at + length other.old == back.at))

-- whether the other comes before; none where they meet
abbrev pub order : Hunk → Hunk → Option Bool
order back other =
    if is_beside back other then None
    else if nat_le (other.at + length other.old) back.at then Some true
    else if nat_le (back.at + length back.old) other.at then Some false
    else None

-- past the others that come before a hunk, from these places of the text between and the text here on
abbrev pub past : {X : Type 0} → Hunk → (List Hunk → ℕ → ℕ → Option X) → List Hunk → ℕ → ℕ → Option X
past back rest [] between here = rest [] between here
past back rest (o ∷ others) between here =
    by_order (order back o)
    (past back rest others (o.at + length o.old) (here + (o.at - between) + length o.new))
    (rest (o ∷ others) between here)

-- a hunk at its place in the text here
abbrev pub moved_hunk : Hunk → ℕ → ℕ → Hunk
moved_hunk back between here = record { at = here + (back.at - between); old = back.old; new = back.new }

-- hunks where they stand in the text here; none where one meets another
abbrev pub stand : List Hunk → List Hunk → ℕ → ℕ → Option (List Hunk)
stand [] others between here = Some []
stand (back ∷ backs) others between here =
    past back (λ left b h. onto (moved_hunk back b h) (stand backs left b h)) others between here

-- ---- turns

abbrev pub is_turn_beside : Turn → Turn → Bool
is_turn_beside turn other =
    (turn.start.new == turn.end.new)
    && (not (other.start.new == other.end.new)
    && (other.start.old == turn.start.new || other.end.old == turn.start.new))

abbrev pub turn_order : Turn → Turn → Option Bool
turn_order turn other =
    if is_turn_beside turn other then None
    else if nat_le other.end.old turn.start.new then Some true
    else if nat_le turn.end.new other.start.old then Some false
    else None

abbrev pub turns_past : {X : Type 0} → Turn → (List Turn → Place → Option X) → List Turn → Place → Option X
turns_past turn rest [] place = rest [] place
turns_past turn rest (o ∷ others) place =
    by_order (turn_order turn o) (turns_past turn rest others o.end) (rest (o ∷ others) place)

-- where the new text of a turn stands, after this place of the text between and the text here
abbrev pub place_of : Turn → Place → ℕ
place_of turn place = place.new + (turn.start.new - place.old)

module _ (before after : List ℕ) where
  -- what takes a turn back at a place
  abbrev pub turn_back : Turn → ℕ → Hunk
  turn_back t at =
      record { at = at; old = between t.start.new t.end.new after; new = between t.start.old t.end.old before }

  -- the hunk of a turn, as it leads on, and as it leads back
  abbrev pub hunk_on : Turn → Hunk
  hunk_on t = record {
    at = t.start.old;
    old = between t.start.old t.end.old before;
    new = between t.start.new t.end.new after;
  }

  abbrev pub hunk_back : Turn → Hunk
  hunk_back t = turn_back t t.start.new

  abbrev pub turns_stand : List Turn → List Turn → Place → Option (List Hunk)
  turns_stand [] others place = Some []
  turns_stand (turn ∷ turns) others place =
      turns_past turn (λ left p. onto (turn_back turn (place_of turn p)) (turns_stand turns left p)) others place

-- at the start of both texts
abbrev pub at_start : Place
at_start = record { old = 0; new = 0 }

-- the other way
abbrev pub place_turned : Place → Place
place_turned place = record { old = place.new; new = place.old }

abbrev pub turn_turned : Turn → Turn
turn_turned t = record { start = place_turned t.start; end = place_turned t.end }

abbrev pub back_hunk : Back → Hunk
back_hunk b = record { at = b.at; old = b.old.now; new = b.new.now }

-- turns in order, after this place; between two of them both texts are the same, and they end at this one
abbrev pub AreInStep : Place → Place → List Turn → Type 0
AreInStep last place [] = (place.old ≤ last.old) × (place.new + (last.old - place.old) ≡ last.new)
AreInStep last place (t ∷ ts) = (place.old ≤ t.start.old) × (t.start.new ≡ place.new + (t.start.old - place.old))
    × (t.start.old ≤ t.end.old) × (t.start.new ≤ t.end.new) × AreInStep last t.end ts

-- past the others that come before a turn
pub record Passes (last : Place) (turn : Turn) (ahead next : Ahead) : Type 0 where
  pub past : (rest : List Turn → Place → Option (List Hunk))
      → turns_past turn rest ahead.turns.now ahead.place ≡ rest next.turns.now next.place
  pub in_step : AreInStep last next.place next.turns.now
  pub reached : next.place.old ≤ turn.start.new
  pub fits : place_of turn next.place ≤ last.new

-- ---- the whole

-- the hunks of one patch that does what steps do
abbrev pub patch_by : List EditStep → List Hunk
patch_by steps = deed_hunks (all_deeds (patches_of steps))

-- the turns of what steps change, taken together, in whole lines
pub record AreTurnsBy (steps : List EditStep) (before after : List ℕ) (turns : List Turn) : Type 0 where
  pub leads : Splices (patch_by steps) before after
  pub are : map (site_of before after) turns ≡ sites [] [] (whole_lines (cut_from 0 (patch_by steps) before))
  pub order : AreIn before after 0 0 turns
