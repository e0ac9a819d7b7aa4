-- Texts that are cut at landmarks.
use Rattle.std.specs.Prelude.{◌≡◌, ℕ, ◌+◌, ◌≤◌, List, [], ◌∷◌, ◌++◌, length, take, drop}
use Rattle.rec_journal.specs.declared.patch.Hunk.{Hunk}
use Rattle.rec_diff.specs.declared.turn.Place.{Place}
use Rattle.rec_diff.specs.declared.lining.Lining.{Lining}
use Rattle.rec_diff.specs.Changes.{Stretch, joined}
use Rattle.rec_diff.specs.Comparing.{parts_by}
use Rattle.rec_diff.specs.Lines.{first_lines}
use Rattle.rec_diff.specs.WholeLines.{lined_from}
use Rattle.rec_diff.specs.proving.Passages.{origin}
use Rattle.rec_diff.specs.proving.Turns.{Site, IsLining, open_old, open_new, so_far}

-- a hunk that turns this
abbrev pub hunk_at : Site → Hunk
hunk_at s = record { at = length s.before; old = s.old; new = s.new }

-- these are texts without their first bytes and the last ones, which are the same in both
pub record IsInner (before after : List ℕ) (first : ℕ) (old new : List ℕ) : Type 0 where
  pub start : List ℕ
  pub rest : List ℕ
  pub before_is : before ≡ start ++ (old ++ rest)
  pub after_is : after ≡ start ++ (new ++ rest)
  pub count : length start ≡ first

-- a line that begins here in both texts
pub record IsShared (old new : List ℕ) (place : Place) : Type 0 where
  pub fits_old : place.old + length (first_lines 1 (drop place.old old)) ≤ length old
  pub fits_new : place.new + length (first_lines 1 (drop place.old old)) ≤ length new
  pub is_old : take (length (first_lines 1 (drop place.old old))) (drop place.old old)
      ≡ first_lines 1 (drop place.old old)
  pub is_new : take (length (first_lines 1 (drop place.old old))) (drop place.new new)
      ≡ first_lines 1 (drop place.old old)

abbrev pub after_line : List ℕ → Place → Place
after_line old place = record {
  old = place.old + length (first_lines 1 (drop place.old old));
  new = place.new + length (first_lines 1 (drop place.old old));
}

-- lines that both texts share, one after another from a place on
abbrev pub AreCuts : List ℕ → List ℕ → Place → List Place → Type 0
AreCuts old new from [] = (from.old ≤ length old) × (from.new ≤ length new)
AreCuts old new from (m ∷ marks) =
    (from.old ≤ m.old) × (from.new ≤ m.new) × IsShared old new m × AreCuts old new (after_line old m) marks

module _ (before after old new : List ℕ) (first : ℕ) where
  -- the inner texts are read up to this place, and the rest is still cut at these landmarks
  pub record IsReadTo (from : Place) (marks : List Place) (l : Lining) : Type 0 where
    pub sound : IsLining before after l
    pub here_old : l.here.old ≡ first + from.old
    pub here_new : l.here.new ≡ first + from.new
    pub cuts : AreCuts old new from marks

  -- what is found with these parts to come
  abbrev pub found_with : Lining → List Stretch → List Site
  found_with l parts =
      so_far before after l (joined (lined_from parts (open_old before after l) (open_new before after l)))

  -- landmarks are passed, from the first of all, and these are left
  pub record ArePassed (all : List Place) (start : Lining) (marks : List Place) (l : Lining) : Type 0 where
    pub from : Place
    pub read : IsReadTo from marks l
    pub found : (rest : List Stretch)
        → found_with l (parts_by old new from marks ++ rest) ≡ found_with start (parts_by old new origin all ++ rest)
