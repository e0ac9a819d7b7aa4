-- The turns between two texts.
use Rattle.std.proofs.Common.{◌≡◌, ◌∙◌, ℕ, ◌+◌, ◌-◌, ◌≤◌, List, [], ◌∷◌, ◌++◌, length, map, take, drop, refl, sym, ap, ap₂, subst, arith}
use Rattle.std.specs.List.{between, AllByRecursion}
use Rattle.std.specs.Prelude.{flat_map}
use Rattle.std.proofs.lemmas.List.{append_assoc, append-nil, length-append, length-drop, length-take-le, take_at, drop_at, take_rest}
use Rattle.rec_diff.specs.declared.turn.Place.{Place}
use Rattle.rec_diff.specs.declared.turn.Turn.{Turn}
use Rattle.rec_diff.specs.declared.lining.Lining.{Lining}
use Rattle.rec_diff.specs.Changes.{Stretch, stays, turns, joined, hunks_at}
use Rattle.rec_diff.specs.Comparing.{parts_by, landmarks, longest_from, parts_between, refined}
use Rattle.rec_diff.specs.WholeLines.{same_start, same_end, lined_from, whole_lines}
use Rattle.rec_diff.specs.proving.Cutting.{hunk_at, IsInner, IsReadTo, found_with, ArePassed}
use Rattle.rec_diff.specs.proving.Passages.{origin}
use Rattle.rec_diff.specs.proving.Turns.{AreAll, AreIn, IsIn, Reads, Turns, so_far, open_old, open_new, site_of, sites, sites_from}
use Rattle.rec_diff.specs.Changes.{put_turns}
use Rattle.rec_diff.proofs.lemmas.ShareLemmas.{starts_share, ends_share}
use Rattle.rec_diff.proofs.lemmas.comparing.CuttingLemmas.{between_within}

-- the texts without the lines at their ends that are the same
pub record IsInnerOf (before after : List ℕ) (first last : ℕ) : Type 0 where
  pub inner : IsInner before after first (between first (length before - last) before) (between first (length after - last) after)
  pub count : length inner.rest ≡ last
  pub fits_old : first + last ≤ length before
  pub fits_new : first + last ≤ length after

inner_by : (start old new rest : List ℕ) (before after : List ℕ) → before ≡ start ++ (old ++ rest) → after ≡ start ++ (new ++ rest)
    → IsInnerOf before after (length start) (length rest)
inner_by start old new rest before after before_is after_is =
    let one = ap length before_is ∙ length-append start (old ++ rest) in
    let two = ap length after_is ∙ length-append start (new ++ rest) in
    let one_inner = length-append old rest in
    let two_inner = length-append new rest in
    let part : (t whole : List ℕ) → whole ≡ start ++ (t ++ rest) → between (length start) (length whole - length rest) whole ≡ t = λ t whole is.
    let count : length whole - length rest - length start ≡ length t = omega (arith, ap length is, length-append start (t ++ rest), length-append t rest) in
    ap₂ (λ n u. take n u) count (ap (drop (length start)) is ∙ drop_at start (t ++ rest) (length start) refl) ∙ take_at t rest (length t) refl in
    record {
      inner = record {
        start = start;
        rest = rest;
        before_is = before_is ∙ ap (λ t. start ++ (t ++ rest)) (sym (part old before before_is));
        after_is = after_is ∙ ap (λ t. start ++ (t ++ rest)) (sym (part new after after_is));
        count = refl;
      };
      count = refl;
      fits_old = omega arith;
      fits_new = omega arith;
    }

pub inner_of : (before after : List ℕ) (first last : ℕ) → first ≡ same_start before after → last ≡ same_end (drop first before) (drop first after)
    → IsInnerOf before after first last
inner_of before after first last first_is last_is =
    let starts = starts_share before after in
    let first_count : length starts.common ≡ first = starts.count ∙ sym first_is in
    let old_rest : drop first before ≡ starts.s_rest = ap (drop first) starts.s_is ∙ drop_at starts.common starts.s_rest first first_count in
    let new_rest : drop first after ≡ starts.t_rest = ap (drop first) starts.t_is ∙ drop_at starts.common starts.t_rest first first_count in
    let ends = ends_share (drop first before) (drop first after) in
    let by = inner_by starts.common ends.s_rest ends.t_rest ends.common before after
    (starts.s_is ∙ ap (λ t. starts.common ++ t) (sym old_rest ∙ ends.s_is)) (starts.t_is ∙ ap (λ t. starts.common ++ t) (sym new_rest ∙ ends.t_is)) in
    subst (λ n. IsInnerOf before after n last) first_count (subst (IsInnerOf before after (length starts.common)) (ends.count ∙ sym last_is) by)

-- ---- from the start to the end

module _ (before after : List ℕ) where
  -- nothing is read
  pub record IsStart (l : Lining) : Type 0 where
    pub turns : l.turns.items ≡ []
    pub start : (l.start.old ≡ 0) × (l.start.new ≡ 0)
    pub line : (l.line.old ≡ 0) × (l.line.new ≡ 0)
    pub here : (l.here.old ≡ 0) × (l.here.new ≡ 0)

  start_by : (ts : List Turn) (a b c d e f : ℕ) (parts : List Stretch) → ts ≡ [] → a ≡ 0 → b ≡ 0 → c ≡ 0 → d ≡ 0 → e ≡ 0 → f ≡ 0
      → map (site_of before after) ts
      ++ sites_from (take a before) (take b after) (put_turns (between a c before) (between b d after) (joined (lined_from parts (between c e before) (between d f after))))
      ≡ sites [] [] (whole_lines parts)
  start_by ts a b c d e f parts none a_is b_is c_is d_is e_is f_is = rw (none, a_is, b_is, c_is, d_is, e_is, f_is) refl

  start_found : (l : Lining) (parts : List Stretch) → IsStart l
      → so_far before after l (joined (lined_from parts (open_old before after l) (open_new before after l))) ≡ sites [] [] (whole_lines parts)
  start_found l parts is = start_by l.turns.items _ _ _ _ _ _ parts is.turns is.start.0 is.start.1 is.line.0 is.line.1 is.here.0 is.here.1

length_part : (i j : ℕ) (t : List ℕ) → i ≤ j → j ≤ length t → length (between i j t) ≡ j - i
length_part i j t order fits = length-take-le (j - i) (drop i t) (omega (arith, length-drop i t))

module _ (before after : List ℕ) (first last : ℕ) (is : IsInnerOf before after first last) where
  abbrev old_part : List ℕ
  old_part = between first (length before - last) before

  abbrev new_part : List ℕ
  new_part = between first (length after - last) after

  old_count : first + length old_part ≡ length before - last
  old_count = omega (arith, is.fits_old, length_part first (length before - last) before (omega (arith, is.fits_old)) (omega arith))

  new_count : first + length new_part ≡ length after - last
  new_count = omega (arith, is.fits_new, length_part first (length after - last) after (omega (arith, is.fits_new)) (omega arith))

  pub first_same : (i j : ℕ) → i ≡ 0 → j ≡ 0 → take first (drop i before) ≡ take first (drop j after)
  first_same i j i_is j_is =
      ap₂ (λ n t. take first (drop n t)) i_is is.inner.before_is ∙ take_at is.inner.start (old_part ++ is.inner.rest) first is.inner.count
      ∙ sym (ap₂ (λ n t. take first (drop n t)) j_is is.inner.after_is ∙ take_at is.inner.start (new_part ++ is.inner.rest) first is.inner.count)

  -- what turns at the end is there
  pub end_fits : (from : Place) (l : Lining) → IsReadTo before after old_part new_part first from [] l
      → (l.here.old ≤ length before - last) × (l.here.new ≤ length after - last)
  end_fits from l read = (omega (arith, read.here_old, read.cuts.0, old_count), omega (arith, read.here_new, read.cuts.1, new_count))

  -- and the last lines stay
  pub record LastFits (l : Lining) : Type 0 where
    pub fits_old : l.here.old + last ≤ length before
    pub fits_new : l.here.new + last ≤ length after
    pub same : take last (drop l.here.old before) ≡ take last (drop l.here.new after)
    pub text : take last (drop l.here.old before) ≡ is.inner.rest

  rest_there : (part whole : List ℕ) (place : ℕ) → whole ≡ is.inner.start ++ (part ++ is.inner.rest) → place ≡ first + length part → take last (drop place whole) ≡ is.inner.rest
  rest_there part whole place whole_is at =
      let count : length (is.inner.start ++ part) ≡ place = omega (arith, length-append is.inner.start part, is.inner.count) in
      ap (take last) (ap (drop place) (whole_is ∙ sym (append_assoc is.inner.start part is.inner.rest)) ∙ drop_at (is.inner.start ++ part) is.inner.rest place count)
      ∙ ap (take last) (sym (append-nil is.inner.rest)) ∙ take_at is.inner.rest [] last is.count

  pub last_fits : (from : Place) (l m : Lining) → IsReadTo before after old_part new_part first from [] l
      → Turns before after l m (between l.here.old (length before - last) before) (between l.here.new (length after - last) after) → LastFits m
  last_fits from l m read turned =
      let order = end_fits from l read in
      let here_old : m.here.old ≡ length before - last = omega (arith, turned.old_here, length_part l.here.old (length before - last) before order.0 (omega arith), order.0) in
      let here_new : m.here.new ≡ length after - last = omega (arith, turned.new_here, length_part l.here.new (length after - last) after order.1 (omega arith), order.1) in
      let one = rest_there old_part before m.here.old is.inner.before_is (here_old ∙ sym old_count) in
      let two = rest_there new_part after m.here.new is.inner.after_is (here_new ∙ sym new_count) in
      record {
        fits_old = omega (arith, here_old, is.fits_old);
        fits_new = omega (arith, here_new, is.fits_new);
        same = one ∙ sym two;
        text = one;
      }

  -- what is left of a part, where it ends
  part_end : (part whole : List ℕ) (start from place end : ℕ) → whole ≡ is.inner.start ++ (part ++ is.inner.rest) → start ≡ first + from → end ≡ first + length part → from ≤ length part
      → between start end whole ≡ drop from part
  part_end part whole start from place end whole_is start_is end_is fits =
      ap₂ (λ i j. between i j whole) (start_is ∙ ap (λ n. n + from) (sym is.inner.count)) (end_is ∙ ap (λ n. n + length part) (sym is.inner.count))
      ∙ ap (between (length is.inner.start + from) (length is.inner.start + length part)) whole_is
      ∙ between_within is.inner.start part is.inner.rest from (length part) fits (omega arith) ∙ take_rest part from

  abbrev parts_cut : ℕ → ℕ → List Stretch
  parts_cut f l =
      flat_map refined
      (stays (take f before) ∷ turns (take (length (drop f before) - l) (drop f before)) (take (length (drop f after) - l) (drop f after))
      ∷ stays (drop (length (drop f before) - l) (drop f before)) ∷ [])

  part_is : (part whole : List ℕ) → whole ≡ is.inner.start ++ (part ++ is.inner.rest)
      → (part ≡ take (length (drop first whole) - last) (drop first whole)) × (is.inner.rest ≡ drop (length (drop first whole) - last) (drop first whole))
  part_is part whole whole_is =
      let left : drop first whole ≡ part ++ is.inner.rest = ap (drop first) whole_is ∙ drop_at is.inner.start (part ++ is.inner.rest) first is.inner.count in
      let count : length part ≡ length (drop first whole) - last = omega (arith, ap length left, length-append part is.inner.rest, is.count) in (
        sym (ap₂ (λ n t. take n t) (sym count) left ∙ take_at part is.inner.rest (length part) refl),
        sym (ap₂ (λ n t. drop n t) (sym count) left ∙ drop_at part is.inner.rest (length part) refl),
      )

  pub parts_are : (marks : List Place) (place : ℕ) → marks ≡ longest_from 0 (landmarks old_part new_part) → place ≡ 0
      → first ≡ same_start before after → last ≡ same_end (drop first before) (drop first after)
      → stays (take first (drop place before)) ∷ (parts_by old_part new_part origin marks ++ stays is.inner.rest ∷ []) ≡ parts_between before after
  parts_are marks place marks_is none first_is last_is =
      let o = part_is old_part before is.inner.before_is in
      let n = part_is new_part after is.inner.after_is in
      ap₂ (λ p ms. stays (take first (drop p before)) ∷ (parts_by old_part new_part origin ms ++ stays is.inner.rest ∷ [])) none marks_is
      ∙ ap₂ (λ a b. stays (take first before) ∷ (parts_by a b origin (longest_from 0 (landmarks a b)) ++ stays is.inner.rest ∷ [])) o.0 n.0
      ∙ ap (λ r. stays (take first before) ∷ (parts_by (take (length (drop first before) - last) (drop first before)) (take (length (drop first after) - last) (drop first after)) origin
      (longest_from 0 (landmarks (take (length (drop first before) - last) (drop first before)) (take (length (drop first after) - last) (drop first after)))) ++ stays r ∷ [])) o.1
      ∙ ap (parts_cut first) last_is
      ∙ ap (λ f. parts_cut f (same_end (drop f before) (drop f after))) first_is

  pub all_found : (marks : List Place) (one two three four : Lining) (start : Lining) (ts : List Turn) → IsStart before after start
      → marks ≡ longest_from 0 (landmarks old_part new_part)
      → first ≡ same_start before after → last ≡ same_end (drop first before) (drop first after)
      → Reads before after start one (take first (drop start.here.old before))
      → ArePassed before after old_part new_part first marks one [] two
      → Turns before after two three (between two.here.old (length before - last) before) (between two.here.new (length after - last) after)
      → Reads before after three four (take last (drop three.here.old before))
      → AreAll before after four ts
      → map (site_of before after) ts ≡ sites [] [] (whole_lines (parts_between before after))
  all_found marks one two three four start ts begun marks_is first_is last_is reads passed turned stayed all =
      let from = passed.from in
      let o = part_end old_part before two.here.old from.old 0 (length before - last) is.inner.before_is passed.read.here_old (sym old_count) passed.read.cuts.0 in
      let n = part_end new_part after two.here.new from.new 0 (length after - last) is.inner.after_is passed.read.here_new (sym new_count) passed.read.cuts.1 in
      let rest = is.inner.rest in
      let found = found_with before after old_part new_part first in
      let stayed_text = (last_fits from two three passed.read turned).text in
      all.found
      ∙ stayed.found (lined_from [])
      ∙ ap (λ t. found three (stays t ∷ [])) stayed_text
      ∙ turned.found (lined_from (stays rest ∷ []))
      ∙ ap₂ (λ a b. found two (turns a b ∷ stays rest ∷ [])) o n
      ∙ passed.found (stays rest ∷ [])
      ∙ reads.found (lined_from (parts_by old_part new_part origin marks ++ stays rest ∷ []))
      ∙ start_found before after start (stays (take first (drop start.here.old before)) ∷ (parts_by old_part new_part origin marks ++ stays rest ∷ [])) begun
      ∙ ap (λ parts. sites [] [] (whole_lines parts)) (parts_are marks start.here.old marks_is begun.here.0 first_is last_is)

-- ---- the hunks of turns

pub all_in : (before after : List ℕ) (old new : ℕ) (ts : List Turn) → AreIn before after old new ts → AllByRecursion (IsIn before after 0 0) ts
all_in before after old new [] are = tt
all_in before after old new (t ∷ ts) are = (
  record {
    start_old = omega arith;
    order_old = are.0.order_old;
    end_old = are.0.end_old;
    start_new = omega arith;
    order_new = are.0.order_new;
    end_new = are.0.end_new;
  },
  all_in before after t.end.old t.end.new ts are.1,
)

pub hunks-sites : (before after : List ℕ) (parts : List Stretch) → map hunk_at (sites before after parts) ≡ hunks_at (length before) parts
hunks-sites before after [] = refl
hunks-sites before after (stays t ∷ parts) = hunks-sites (before ++ t) (after ++ t) parts ∙ ap (λ n. hunks_at n parts) (length-append before t)
hunks-sites before after (turns o n ∷ parts) =
    ap (λ hs. record { at = length before; old = o; new = n } ∷ hs) (hunks-sites (before ++ o) (after ++ n) parts ∙ ap (λ k. hunks_at k parts) (length-append before o))
