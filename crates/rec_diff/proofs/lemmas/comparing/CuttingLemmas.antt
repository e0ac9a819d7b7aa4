-- Texts that are cut at landmarks, read piece by piece.
use Rattle.std.proofs.Common.{◌≡◌, ◌∙◌, ℕ, ◌+◌, ◌-◌, ◌≤◌, List, ◌∷◌, ◌++◌, length, take, drop, refl, sym, ap, ap₂, arith}
use Rattle.std.specs.List.{between}
use Rattle.std.proofs.lemmas.List.{length-append, length-drop, length-take-le, take-append-le, drop-append-le, drop_at, drop-drop}
use Rattle.rec_diff.specs.declared.turn.Place.{Place}
use Rattle.rec_diff.specs.declared.lining.Lining.{Lining}
use Rattle.rec_diff.specs.Changes.{stays, turns}
use Rattle.rec_diff.specs.Comparing.{parts_by}
use Rattle.rec_diff.specs.Lines.{first_lines}
use Rattle.rec_diff.specs.WholeLines.{lined_from}
use Rattle.rec_diff.specs.proving.Cutting.{IsInner, after_line, AreCuts, IsReadTo, found_with, ArePassed}
use Rattle.rec_diff.specs.proving.Passages.{origin}
use Rattle.rec_diff.specs.proving.Turns.{IsLining, Reads, Turns}

-- ---- a part of a text within another

drop_within : (s t r : List ℕ) (i : ℕ) → i ≤ length t → drop (length s + i) (s ++ (t ++ r)) ≡ drop i t ++ r
drop_within s t r i fits = sym (drop-drop i (length s) (s ++ (t ++ r))) ∙ ap (drop i) (drop_at s (t ++ r) (length s) refl) ∙ drop-append-le i t r fits

take_within : (s t r : List ℕ) (i n : ℕ) → i + n ≤ length t → take n (drop (length s + i) (s ++ (t ++ r))) ≡ take n (drop i t)
take_within s t r i n fits = ap (take n) (drop_within s t r i (omega arith)) ∙ take-append-le n (drop i t) r (omega (arith, length-drop i t))

pub between_within : (s t r : List ℕ) (i j : ℕ) → i ≤ j → j ≤ length t → between (length s + i) (length s + j) (s ++ (t ++ r)) ≡ between i j t
between_within s t r i j order fits =
    ap (λ n. take n (drop (length s + i) (s ++ (t ++ r)))) (let e : length s + j - (length s + i) ≡ j - i = omega arith in e)
    ∙ take_within s t r i (j - i) (omega arith)

length_between : (i j : ℕ) (t : List ℕ) → i ≤ j → j ≤ length t → length (between i j t) ≡ j - i
length_between i j t order fits = length-take-le (j - i) (drop i t) (omega (arith, length-drop i t))

-- ---- a landmark is passed

module _ (before after : List ℕ) (first : ℕ) (old new : List ℕ) (inner : IsInner before after first old new) where
  long_before : length before ≡ first + (length old + length inner.rest)
  long_before = ap length inner.before_is ∙ length-append inner.start (old ++ inner.rest) ∙ ap₂ (λ a b. a + b) inner.count (length-append old inner.rest)

  long_after : length after ≡ first + (length new + length inner.rest)
  long_after = ap length inner.after_is ∙ length-append inner.start (new ++ inner.rest) ∙ ap₂ (λ a b. a + b) inner.count (length-append new inner.rest)

  old_within : (i n : ℕ) → i + n ≤ length old → take n (drop (first + i) before) ≡ take n (drop i old)
  old_within i n fits =
      ap₂ (λ a t. take n (drop (a + i) t)) (sym inner.count) inner.before_is ∙ take_within inner.start old inner.rest i n fits

  new_within : (i n : ℕ) → i + n ≤ length new → take n (drop (first + i) after) ≡ take n (drop i new)
  new_within i n fits =
      ap₂ (λ a t. take n (drop (a + i) t)) (sym inner.count) inner.after_is ∙ take_within inner.start new inner.rest i n fits

  old_between : (i j : ℕ) → i ≤ j → j ≤ length old → between (first + i) (first + j) before ≡ between i j old
  old_between i j order fits =
      ap₂ (λ a t. between (a + i) (a + j) t) (sym inner.count) inner.before_is ∙ between_within inner.start old inner.rest i j order fits

  new_between : (i j : ℕ) → i ≤ j → j ≤ length new → between (first + i) (first + j) after ≡ between i j new
  new_between i j order fits =
      ap₂ (λ a t. between (a + i) (a + j) t) (sym inner.count) inner.after_is ∙ between_within inner.start new inner.rest i j order fits

  -- what turns before a place is there
  pub record TurnFits (place : Place) (l : Lining) : Type 0 where
    pub from_old : l.here.old ≤ first + place.old
    pub from_new : l.here.new ≤ first + place.new
    pub fits_old : first + place.old ≤ length before
    pub fits_new : first + place.new ≤ length after

  pub turn_fits : (from m : Place) (marks : List Place) (l : Lining) → IsReadTo before after old new first from (m ∷ marks) l → TurnFits m l
  turn_fits from m marks l read = record {
    from_old = omega (arith, read.here_old, read.cuts.0);
    from_new = omega (arith, read.here_new, read.cuts.1);
    fits_old = omega (arith, read.cuts.2.fits_old, long_before);
    fits_new = omega (arith, read.cuts.2.fits_new, long_after);
  }

  -- what turns before a landmark is read, and its line is to come
  pub record LineFits (m : Place) (line : ℕ) (mid : Lining) : Type 0 where
    pub here_old : mid.here.old ≡ first + m.old
    pub here_new : mid.here.new ≡ first + m.new
    pub fits_old : mid.here.old + line ≤ length before
    pub fits_new : mid.here.new + line ≤ length after
    pub same : take line (drop mid.here.old before) ≡ take line (drop mid.here.new after)
    pub text : take line (drop mid.here.old before) ≡ first_lines 1 (drop m.old old)

  pub line_fits : (from m : Place) (marks : List Place) (l mid : Lining) (line : ℕ) → IsReadTo before after old new first from (m ∷ marks) l
      → Turns before after l mid (between l.here.old (first + m.old) before) (between l.here.new (first + m.new) after)
      → line ≡ length (first_lines 1 (drop m.old old)) → LineFits m line mid
  line_fits from m marks l mid line read turned is =
      let fits = turn_fits from m marks l read in
      let shared = read.cuts.2 in
      let here_old : mid.here.old ≡ first + m.old =
      omega (arith, turned.old_here, length_between l.here.old (first + m.old) before fits.from_old fits.fits_old, fits.from_old) in
      let here_new : mid.here.new ≡ first + m.new =
      omega (arith, turned.new_here, length_between l.here.new (first + m.new) after fits.from_new fits.fits_new, fits.from_new) in
      let old_line : take line (drop mid.here.old before) ≡ first_lines 1 (drop m.old old) =
      ap₂ (λ n i. take n (drop i before)) is here_old ∙ old_within m.old _ shared.fits_old ∙ shared.is_old in
      let new_line : take line (drop mid.here.new after) ≡ first_lines 1 (drop m.old old) =
      ap₂ (λ n i. take n (drop i after)) is here_new ∙ new_within m.new _ shared.fits_new ∙ shared.is_new in
      record {
        here_old = here_old;
        here_new = here_new;
        fits_old = omega (arith, here_old, is, shared.fits_old, long_before);
        fits_new = omega (arith, here_new, is, shared.fits_new, long_after);
        same = old_line ∙ sym new_line;
        text = old_line;
      }

  pub passed_none : (marks : List Place) (l : Lining) → IsLining before after l → l.here.old ≡ first → l.here.new ≡ first → AreCuts old new origin marks
      → ArePassed before after old new first marks l marks l
  passed_none marks l sound here_old here_new cuts = record {
    from = origin;
    read = record { sound = sound; here_old = omega (arith, here_old); here_new = omega (arith, here_new); cuts = cuts };
    found = λ rest. refl;
  }

  pub passed_more : (all : List Place) (start : Lining) (m : Place) (marks : List Place) (l mid next : Lining) (line : ℕ) → ArePassed before after old new first all start (m ∷ marks) l
      → Turns before after l mid (between l.here.old (first + m.old) before) (between l.here.new (first + m.new) after)
      → line ≡ length (first_lines 1 (drop m.old old)) → Reads before after mid next (take line (drop mid.here.old before)) → ArePassed before after old new first all start marks next
  passed_more all start m marks l mid next line are turned is reads =
      let from = are.from in
      let fits = line_fits from m marks l mid line are.read turned is in
      let shared = are.read.cuts.2 in
      let o : between l.here.old (first + m.old) before ≡ between from.old m.old old =
      ap (λ n. between n (first + m.old) before) are.read.here_old ∙ old_between from.old m.old are.read.cuts.0 (omega (arith, shared.fits_old)) in
      let n : between l.here.new (first + m.new) after ≡ between from.new m.new new =
      ap (λ n. between n (first + m.new) after) are.read.here_new ∙ new_between from.new m.new are.read.cuts.1 (omega (arith, shared.fits_new)) in
      record {
        from = after_line old m;
        read = record {
          sound = reads.sound;
          here_old = omega (arith, reads.old_here, fits.here_old, ap length fits.text);
          here_new = omega (arith, reads.new_here, fits.here_new, ap length fits.text);
          cuts = are.read.cuts.3;
        };
        found = λ rest.
            let parts = parts_by old new (after_line old m) marks ++ rest in
            reads.found (lined_from parts)
            ∙ turned.found (lined_from (stays (take line (drop mid.here.old before)) ∷ parts))
            ∙ ap₂ (λ a b. found_with before after old new first l (turns a b ∷ stays (take line (drop mid.here.old before)) ∷ parts)) o n
            ∙ ap (λ t. found_with before after old new first l (turns (between from.old m.old old) (between from.new m.new new) ∷ stays t ∷ parts)) fits.text
            ∙ are.found rest;
      }
