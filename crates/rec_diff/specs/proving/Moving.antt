-- Turns by their places, and where later ones stand without the edit.
use Rattle.std.specs.Prelude.{ℕ, ◌+◌, ◌-◌, ◌^◌, ◌<◌, ◌≤◌, nat_le, List, [], ◌∷◌, length, if◌then◌else◌}
use Rattle.rec_journal.specs.declared.patch.Hunk.{Hunk}
use Rattle.rec_diff.specs.declared.turn.Place.{Place}
use Rattle.rec_diff.specs.declared.turn.Turn.{Turn}
use Rattle.rec_diff.specs.Changes.{Stretch, stays, turns}

-- ---- turns by their places

-- at these places of the old text and the new one these many bytes go and come
abbrev pub turn_at : ℕ → ℕ → ℕ → ℕ → Turn
turn_at old new goes comes = record {
  start = record { old = old; new = new };
  end = record { old = old + goes; new = new + comes };
}

-- the turns of parts, from these places on
abbrev pub turns_at : ℕ → ℕ → List Stretch → List Turn
turns_at old new [] = []
turns_at old new (stays t ∷ parts) = turns_at (old + length t) (new + length t) parts
turns_at old new (turns o n ∷ parts) =
    turn_at old new (length o) (length n) ∷ turns_at (old + length o) (new + length n) parts

-- at a place of the old text, after this place of both
abbrev pub turn_after : Place → ℕ → ℕ → ℕ → Turn
turn_after place at goes comes = turn_at at (place.new + (at - place.old)) goes comes

-- the turns that hunks are, after this place of both texts
abbrev pub turns_after : Place → List Hunk → List Turn
turns_after place [] = []
turns_after place (h ∷ hunks) =
    turn_after place h.at (length h.old) (length h.new)
    ∷ turns_after (turn_after place h.at (length h.old) (length h.new)).end hunks

-- hunks are in order after a place, and their places are not too large
abbrev pub AreTurnable : Place → List Hunk → Type 0
AreTurnable place [] = Unit {0}
AreTurnable place (h ∷ hunks) = (place.old ≤ h.at) × (h.at + length h.old < 2 ^ 64)
    × (place.new + (h.at - place.old) + length h.new < 2 ^ 64)
    × AreTurnable (turn_after place h.at (length h.old) (length h.new)).end hunks

-- ---- later turns, without the edit

-- the edit's turns that are left, and those that take them back; and where the last ones end that were passed
pub record Passing : Type 0 where
  pub change : List Turn
  pub back : List Turn
  pub change_end : Place
  pub back_end : Place

abbrev pub passing : List Turn → List Turn → Place → Place → Passing
passing change back change_end back_end =
    record { change = change; back = back; change_end = change_end; back_end = back_end }

abbrev pub passed_turns : Turn → List Turn → List Turn → Place → Place → Passing
passed_turns other [] back change_end back_end = passing [] back change_end back_end
passed_turns other (t ∷ ts) [] change_end back_end = passing (t ∷ ts) [] change_end back_end
passed_turns other (t ∷ ts) (u ∷ us) change_end back_end =
    if nat_le other.end.old t.start.new then passing (t ∷ ts) (u ∷ us) change_end back_end
    else passed_turns other ts us t.end u.end

-- past those that come before a later turn
abbrev pub passed : Turn → Passing → Passing
passed other p = passed_turns other p.change p.back p.change_end p.back_end

-- where a later turn stands in the text before the edit, and in what is left
abbrev pub moved_turn : Passing → Turn → Turn
moved_turn p other =
    let old = p.change_end.old + (other.start.old - p.change_end.new) in
    let new = p.back_end.new + (other.start.new - p.back_end.old) in
    turn_at old new (other.end.old - other.start.old) (other.end.new - other.start.new)

abbrev pub turns_ahead : List Turn → Passing → List Turn
turns_ahead [] p = []
turns_ahead (o ∷ others) p = moved_turn (passed o p) o ∷ turns_ahead others (passed o p)

pub record CanMove (p : Passing) (other : Turn) : Type 0 where
  pub change : p.change_end.new ≤ other.start.old
  pub back : p.back_end.old ≤ other.start.new
  pub order_old : other.start.old ≤ other.end.old
  pub order_new : other.start.new ≤ other.end.new
  pub old_fits : (moved_turn p other).end.old < 2 ^ 64
  pub new_fits : (moved_turn p other).end.new < 2 ^ 64

abbrev pub AllCanMove : List Turn → Passing → Type 0
AllCanMove [] p = Unit {0}
AllCanMove (o ∷ others) p = CanMove (passed o p) o × AllCanMove others (passed o p)
