-- Turns by their places in both texts, and how they are found.
use Rattle.std.specs.Prelude.{◌≡◌, ℕ, ◌+◌, ◌≤◌, Bool, true, false, ◌&&◌, not, List, [], ◌∷◌, ◌++◌, length, map, take}
use Rattle.std.specs.Prelude.{drop, if◌then◌else◌}
use Rattle.std.specs.List.{flat_map, between}
use Rattle.std.specs.Str.{bytes_eq}
use Rattle.rec_journal.specs.declared.patch.Hunk.{Hunk}
use Rattle.rec_journal.specs.Patch.{SplicesFrom}
use Rattle.rec_text.specs.Bytes.{is_nil}
use Rattle.rec_text.specs.Lines.{HasNoNewline}
use Rattle.rec_diff.specs.declared.turn.Place.{Place}
use Rattle.rec_diff.specs.declared.turn.Turn.{Turn}
use Rattle.rec_diff.specs.declared.lining.Lining.{Lining}
use Rattle.rec_diff.specs.Changes.{Stretch, stays, turns, cut_from, put_turns, joined}
use Rattle.rec_diff.specs.Lines.{at_line, lines}
use Rattle.rec_diff.specs.WholeLines.{trimmed, same_lines, same_end, lined_stay, lined_turn, lined_from, closed}

-- ---- lines at the ends of a text

-- the line comes first in a text, and then the rest
pub record IsFirstLine (text line rest : List ℕ) : Type 0 where
  pub whole : text ≡ line ++ rest
  pub lines : lines text ≡ line ∷ lines rest
  pub some : is_nil line ≡ false

-- the line comes last, after the rest
pub record IsLastLine (text rest line : List ℕ) : Type 0 where
  pub whole : text ≡ rest ++ line
  pub lines : lines text ≡ lines rest ++ line ∷ []
  pub some : is_nil line ≡ false

-- lines up to this place, and after it nothing ends a line
pub record IsOpenFrom (text : List ℕ) (place : ℕ) : Type 0 where
  pub fits : place ≤ length text
  pub lines : at_line (take place text) ≡ true
  pub open_line : HasNoNewline (drop place text)

-- both texts begin with one line, and these are the rests
pub record BeginAlike (old new old_rest new_rest : List ℕ) : Type 0 where
  pub more : same_lines (lines old) (lines new) + length old_rest
      ≡ length old + same_lines (lines old_rest) (lines new_rest)
  pub less : length old_rest + 1 ≤ length old

-- both texts end in one line, and these are the rests
pub record EndAlike (old new old_rest new_rest : List ℕ) : Type 0 where
  pub more : same_end old new + length old_rest ≡ length old + same_end old_rest new_rest
  pub less : length old_rest + 1 ≤ length old

-- ---- turns

-- a turn, and what stands before it in both texts
pub record Site : Type 0 where
  pub before : List ℕ
  pub after : List ℕ
  pub old : List ℕ
  pub new : List ℕ

abbrev pub site : List ℕ → List ℕ → List ℕ → List ℕ → Site
site before after old new = record { before = before; after = after; old = old; new = new }

-- the turns of parts, after these texts
abbrev pub sites : List ℕ → List ℕ → List Stretch → List Site
sites before after [] = []
sites before after (stays t ∷ parts) = sites (before ++ t) (after ++ t) parts
sites before after (turns old new ∷ parts) = site before after old new ∷ sites (before ++ old) (after ++ new) parts

-- the turns of parts of whole lines, without the lines at their ends that are the same in both
abbrev pub sites_from : List ℕ → List ℕ → List Stretch → List Site
sites_from before after parts = sites before after (joined (flat_map trimmed parts))

-- a turn, where anything turns
abbrev pub site_if : List ℕ → List ℕ → List ℕ → List ℕ → List Site
site_if before after old new = if is_nil old && is_nil new then [] else site before after old new ∷ []

-- what is left of one turn
abbrev pub turn_sites : List ℕ → List ℕ → List ℕ → List ℕ → List Site
turn_sites before after old new = sites before after (joined (trimmed (turns old new)))

module _ (before after : List ℕ) where
  abbrev pub site_of : Turn → Site
  site_of t =
      site (take t.start.old before) (take t.start.new after)
      (between t.start.old t.end.old before) (between t.start.new t.end.new after)

  -- a turn within the texts, not before these places
  pub record IsIn (old new : ℕ) (t : Turn) : Type 0 where
    pub start_old : old ≤ t.start.old
    pub order_old : t.start.old ≤ t.end.old
    pub end_old : t.end.old ≤ length before
    pub start_new : new ≤ t.start.new
    pub order_new : t.start.new ≤ t.end.new
    pub end_new : t.end.new ≤ length after

  -- turns in order from these places on, and within the texts
  abbrev pub AreIn : ℕ → ℕ → List Turn → Type 0
  AreIn old new [] = Unit {0}
  AreIn old new (t ∷ ts) = IsIn old new t × AreIn t.end.old t.end.new ts

  abbrev pub open_old : Lining → List ℕ
  open_old l = between l.line.old l.here.old before

  abbrev pub open_new : Lining → List ℕ
  open_new l = between l.line.new l.here.new after

  -- something is open, and it is the same in both texts
  abbrev pub is_open_alike : Lining → Bool
  is_open_alike l = bytes_eq (open_old l) (open_new l) && not (is_nil (open_old l))

  -- both texts are at the start of a line
  abbrev pub is_at_line : Lining → Bool
  is_at_line l = at_line (open_old l) && at_line (open_new l)

  -- the turns that are found, the one that may still grow, and then parts
  abbrev pub so_far : Lining → List Stretch → List Site
  so_far l parts =
      map site_of l.turns.items
      ++ sites_from (take l.start.old before) (take l.start.new after)
      (put_turns (between l.start.old l.line.old before) (between l.start.new l.line.new after) parts)

  -- its places are in order
  pub record IsLining (l : Lining) : Type 0 where
    pub start_old : l.start.old ≤ l.line.old
    pub line_old : l.line.old ≤ l.here.old
    pub here_old : l.here.old ≤ length before
    pub start_new : l.start.new ≤ l.line.new
    pub line_new : l.line.new ≤ l.here.new
    pub here_new : l.here.new ≤ length after
    pub turns : (more : List Turn) → AreIn l.start.old l.start.new more → AreIn 0 0 (l.turns.items ++ more)

  -- what is left of the turn between two places
  pub record IsTrimmed (start line : Place) (t : Turn) : Type 0 where
    pub start_old : start.old ≤ t.start.old
    pub order_old : t.start.old ≤ t.end.old
    pub end_old : t.end.old ≤ line.old
    pub start_new : start.new ≤ t.start.new
    pub order_new : t.start.new ≤ t.end.new
    pub end_new : t.end.new ≤ line.new
    pub found :
        turn_sites (take start.old before) (take start.new after)
        (between start.old line.old before) (between start.new line.new after)
        ≡ site_if (take t.start.old before) (take t.start.new after)
        (between t.start.old t.end.old before) (between t.start.new t.end.new after)

  -- the turn that ends at the line is put
  pub record PutsTurn (old new : Lining) : Type 0 where
    pub found : map site_of new.turns.items
        ≡ map site_of old.turns.items
        ++ turn_sites (take old.start.old before) (take old.start.new after)
        (between old.start.old old.line.old before) (between old.start.new old.line.new after)
    pub order : (more : List Turn) → AreIn old.line.old old.line.new more → AreIn 0 0 (new.turns.items ++ more)
    pub start : new.start ≡ old.start
    pub line : new.line ≡ old.line
    pub here : new.here ≡ old.here

  -- the open line is closed
  pub record Closes (old new : Lining) : Type 0 where
    pub sound : IsLining new
    pub line : new.line ≡ old.here
    pub here : new.here ≡ old.here
    pub found : (parts : List Stretch)
        → so_far new (joined parts) ≡ so_far old (joined (closed (open_old old) (open_new old) parts))

  -- bytes that stay are read
  pub record Reads (old new : Lining) (text : List ℕ) : Type 0 where
    pub sound : IsLining new
    pub old_here : new.here.old ≡ old.here.old + length text
    pub new_here : new.here.new ≡ old.here.new + length text
    pub found : (rest : List ℕ → List ℕ → List Stretch)
        → so_far new (joined (rest (open_old new) (open_new new)))
        ≡ so_far old (joined (lined_stay text rest (open_old old) (open_new old)))

  -- bytes that turn are read
  pub record Turns (old new : Lining) (old_text new_text : List ℕ) : Type 0 where
    pub sound : IsLining new
    pub old_here : new.here.old ≡ old.here.old + length old_text
    pub new_here : new.here.new ≡ old.here.new + length new_text
    pub found : (rest : List ℕ → List ℕ → List Stretch)
        → so_far new (joined (rest (open_old new) (open_new new)))
        ≡ so_far old (joined (lined_turn rest (open_old old ++ old_text) (open_new old ++ new_text)))

  -- the rest of these hunks leads from here on
  abbrev pub LeadsFrom : Lining → List Hunk → Type 0
  LeadsFrom l hunks = SplicesFrom l.here.old hunks (drop l.here.old before) (drop l.here.new after)

  -- this hunk comes next, and others after it
  pub record IsNext (h : Hunk) (l : Lining) : Type 0 where
    pub later : List Hunk
    pub leads : LeadsFrom l (h ∷ later)

  -- a hunk is read, and what stays before it
  pub record ReadsHunk (h : Hunk) (old new : Lining) : Type 0 where
    pub sound : IsLining new
    pub found : (hunks : List Hunk)
        → so_far new
        (joined (lined_from (cut_from new.here.old hunks (drop new.here.old before)) (open_old new) (open_new new)))
        ≡ so_far old (joined
        (lined_from (cut_from old.here.old (h ∷ hunks) (drop old.here.old before)) (open_old old) (open_new old)))
    pub leads : (hunks : List Hunk) → LeadsFrom old (h ∷ hunks) → LeadsFrom new hunks

  -- these are all turns, where both texts end
  pub record AreAll (l : Lining) (turns : List Turn) : Type 0 where
    pub found : map site_of turns ≡ so_far l (joined (closed (open_old l) (open_new l) []))
    pub order : AreIn 0 0 turns

-- further on in both texts
abbrev pub moved : ℕ → ℕ → Lining → Lining
moved old new l = record l { here = record { old = l.here.old + old; new = l.here.new + new } }
