-- What the hunks show: turns that are near one another, and the lines around them.
use Rattle.std.proofs.Common.{◌≡◌, ◌∙◌, ℕ, ◌+◌, ◌-◌, ◌<◌, ◌≤◌, ltb, true, false, List, [], ◌∷◌, ◌++◌, length, take, drop, get_or, refl, sym, ap, inl, inr}
use Rattle.std.proofs.Common.{ap₂, subst, append_assoc, append-nil, length-append, length-drop, drop-drop, arith}
use Rattle.std.specs.List.{flat_map, between}
use Rattle.std.proofs.lemmas.Bool.{cases_Bool, cond-true, cond-false, le-ltb, ltb-true, ltb-false}
use Rattle.std.proofs.lemmas.Grind.{flat_map-append}
use Rattle.std.proofs.lemmas.List.{take_all, drop_all, take_at, drop_at, take-take, drop-take, take_more, get_or-drop}
use Rattle.std.proofs.lemmas.List.Edits.{length-between}
use Rattle.rec_diff.specs.declared.turn.Place.{Place}
use Rattle.rec_diff.specs.declared.turn.Turn.{Turn}
use Rattle.rec_diff.specs.declared.passages.Passage.{Passage}
use Rattle.rec_diff.specs.Changes.{Stretch, stays, turns, old_of, new_of, before_of, after_of}
use Rattle.rec_diff.specs.Lines.{lines, line_count, first_lines, inner_lines, last_lines}
use Rattle.rec_diff.specs.Diff.{View, shows, skips, put_shown, put_stay, views_of, hunk, hunk_if, hunks}
use Rattle.rec_diff.specs.proving.Turns.{AreIn, IsIn}
use Rattle.rec_diff.specs.proving.Passages.{if_stays, end_from, origin, turn_part, parts_from, cut_at, IsKept, ends, IsTurn, AreKept, BeginsLast, EndsFirst, parts_in}
use Rattle.rec_diff.specs.proving.Passages.{passage_text, IsPassage, ArePassages}
use Rattle.rec_diff.proofs.lemmas.PlaceLemmas.{take_then, between_then, next_item}
use Rattle.rec_diff.proofs.lemmas.ContextLemmas.{all_first, all_last, no_first, no_last, cut_lines, start_lines}
use Rattle.rec_diff.proofs.lemmas.ShareLemmas.{text_of}

-- stands for a turn where there is none
abbrev pub no_turn : Turn
no_turn = record { start = origin; end = origin }

-- ---- views, one after another

-- an empty text has no line too many
few_of_none : (n : ℕ) → ltb n 0 ≡ false
few_of_none n = le-ltb n 0 (omega arith)

pub views_step : (first n : ℕ) (gap o w : List ℕ) (rest : List Stretch)
    → views_of first n (if_stays gap (turns o w ∷ rest)) ≡ put_stay first n gap (shows (turns o w) ∷ views_of n n rest)
views_step first n [] o w rest = sym (cond-false (ltb (first + n) 0) _ _ (few_of_none (first + n)))
views_step first n (b ∷ bs) o w rest = refl

pub views_end : (n : ℕ) (gap : List ℕ) → views_of n n (if_stays gap []) ≡ put_stay n 0 gap []
views_end n [] = sym (cond-false (ltb (n + 0) 0) _ _ (few_of_none (n + 0)))
views_end n (b ∷ bs) = refl

pub if_stays-append : (gap : List ℕ) (ps qs : List Stretch) → if_stays gap ps ++ qs ≡ if_stays gap (ps ++ qs)
if_stays-append [] ps qs = refl
if_stays-append (b ∷ bs) ps qs = refl

hunks-shown : (b a t : List ℕ) (ps : List Stretch) (vs : List View) → hunks b a ps (put_shown t vs) ≡ hunks b a (ps ++ if_stays t []) vs
hunks-shown b a [] ps vs = ap (λ qs. hunks b a qs vs) (sym (append-nil ps))
hunks-shown b a (x ∷ xs) ps vs = refl

hunks-shown_part : (b a t : List ℕ) (p : Stretch) (ps : List Stretch) (vs : List View) → hunks b a ps (put_shown t (shows p ∷ vs)) ≡ hunks b a (ps ++ if_stays t (p ∷ [])) vs
hunks-shown_part b a [] p ps vs = refl
hunks-shown_part b a (x ∷ xs) p ps vs = ap (λ qs. hunks b a qs vs) (append_assoc ps (stays (x ∷ xs) ∷ []) (p ∷ []))

-- all lines before a part are shown
pub hunks-near : (first n : ℕ) (b a gap : List ℕ) (p : Stretch) (ps : List Stretch) (vs : List View) → ltb (first + n) (line_count gap) ≡ false
    → hunks b a ps (put_stay first n gap (shows p ∷ vs)) ≡ hunks b a (ps ++ if_stays gap (p ∷ [])) vs
hunks-near first n b a gap p ps vs near = ap (hunks b a ps) (cond-false (ltb (first + n) (line_count gap)) _ _ near) ∙ hunks-shown_part b a gap p ps vs

-- some of them aren't
pub hunks-far : (first n : ℕ) (b a gap : List ℕ) (p : Stretch) (ps : List Stretch) (vs : List View) → ltb (first + n) (line_count gap) ≡ true
    → hunks b a ps (put_stay first n gap (shows p ∷ vs))
    ≡ hunk_if b a (ps ++ if_stays (first_lines first gap) [])
    ++ hunks (b ++ (before_of (ps ++ if_stays (first_lines first gap) []) ++ inner_lines first n gap))
    (a ++ (after_of (ps ++ if_stays (first_lines first gap) []) ++ inner_lines first n gap)) (if_stays (last_lines n gap) (p ∷ [])) vs
hunks-far first n b a gap p ps vs far =
    let qs = ps ++ if_stays (first_lines first gap) [] in
    ap (hunks b a ps) (cond-true (ltb (first + n) (line_count gap)) _ _ far)
    ∙ hunks-shown b a (first_lines first gap) ps (skips (inner_lines first n gap) ∷ put_shown (last_lines n gap) (shows p ∷ vs))
    ∙ ap (hunk_if b a qs ++◌)
    (hunks-shown_part (b ++ (before_of qs ++ inner_lines first n gap)) (a ++ (after_of qs ++ inner_lines first n gap)) (last_lines n gap) p [] vs)

-- at the end
pub hunks-end : (n : ℕ) (b a gap : List ℕ) (ps : List Stretch) → hunks b a ps (put_stay n 0 gap []) ≡ hunk_if b a (ps ++ if_stays (first_lines n gap) [])
hunks-end n b a gap ps = elim (cases_Bool (ltb (n + 0) (line_count gap))) [
  | inl far ↦
      let qs = ps ++ if_stays (first_lines n gap) [] in
      let nb = b ++ (before_of qs ++ inner_lines n 0 gap) in
      let na = a ++ (after_of qs ++ inner_lines n 0 gap) in
      ap (hunks b a ps) (cond-true (ltb (n + 0) (line_count gap)) _ _ far)
      ∙ hunks-shown b a (first_lines n gap) ps (skips (inner_lines n 0 gap) ∷ put_shown (last_lines 0 gap) [])
      ∙ ap (λ t. hunk_if b a qs ++ hunks nb na [] (put_shown t [])) (no_last gap)
      ∙ append-nil (hunk_if b a qs)
  | inr near ↦
      let few : line_count gap ≤ n + 0 = ltb-false (n + 0) (line_count gap) near in
      ap (hunks b a ps) (cond-false (ltb (n + 0) (line_count gap)) _ _ near) ∙ hunks-shown b a gap ps []
      ∙ ap (λ t. hunk_if b a (ps ++ if_stays t [])) (sym (all_first n gap (omega (arith, few))))
]

-- what stays before the first part is skipped but for the last lines
record SkipsFirst (n : ℕ) (gap : List ℕ) (p : Stretch) (vs : List View) : Type 0 where
  skipped : List ℕ
  parts : gap ≡ skipped ++ last_lines n gap
  text : hunks [] [] [] (put_stay 0 n gap (shows p ∷ vs)) ≡ hunks skipped skipped (if_stays (last_lines n gap) (p ∷ [])) vs

skips_first : (n : ℕ) (gap : List ℕ) (p : Stretch) (vs : List View) → SkipsFirst n gap p vs
skips_first n gap p vs = elim (cases_Bool (ltb (0 + n) (line_count gap))) [
  | inl far ↦
      let many = ltb-true (0 + n) (line_count gap) far in
      let inner = inner_lines 0 n gap in
      let last = last_lines n gap in
      record {
        skipped = inner;
        parts = cut_lines 0 n gap (omega (arith, many)) ∙ ap (λ f. f ++ (inner ++ last)) (no_first gap);
        text =
            hunks-far 0 n [] [] gap p [] vs far
            ∙ ap (λ f. hunk_if [] [] (if_stays f []) ++ hunks (before_of (if_stays f []) ++ inner) (after_of (if_stays f []) ++ inner) (if_stays last (p ∷ [])) vs) (no_first gap);
      }
  | inr near ↦
      let few = ltb-false (0 + n) (line_count gap) near in
      let same : last_lines n gap ≡ gap = all_last n gap (omega (arith, few)) in
      record {
        skipped = [];
        parts = sym same;
        text = hunks-near 0 n [] [] gap p [] vs near ∙ ap (λ g. hunks [] [] (if_stays g (p ∷ [])) vs) (sym same);
      }
]

before_of-if_stays : (gap : List ℕ) (ps : List Stretch) → before_of (if_stays gap ps) ≡ gap ++ before_of ps
before_of-if_stays [] ps = refl
before_of-if_stays (b ∷ bs) ps = refl

after_of-if_stays : (gap : List ℕ) (ps : List Stretch) → after_of (if_stays gap ps) ≡ gap ++ after_of ps
after_of-if_stays [] ps = refl
after_of-if_stays (b ∷ bs) ps = refl

-- ---- places

-- a text between two places has two parts
module _ (from to start : ℕ) (text first last : List ℕ) (order : from ≤ to) (fits : to ≤ length text) (parts : between from to text ≡ first ++ last)
    (place : start + length last ≡ to) where
  count : length first + length last ≡ to - from
  count = sym (length-append first last) ∙ ap length (sym parts) ∙ length-between text from to fits

  pub place_is : start ≡ from + length first
  place_is = omega (arith, count)

  pub first_is : between from start text ≡ first
  first_is =
      let gap : start - from ≡ length first = omega (arith, place_is) in
      let fewer : length first ≤ to - from = omega (arith, count) in
      ap (λ k. take k (drop from text)) gap ∙ sym (take-take (length first) (to - from) (drop from text) fewer) ∙ ap (take (length first)) parts
      ∙ take_at first last (length first) refl

  pub last_is : between start to text ≡ last
  last_is =
      let rest : to - start ≡ length last = omega (arith, place) in
      let all : to - from ≡ length first + length last = sym count in
      ap₂ (λ k d. take k d) rest (ap (λ k. drop k text) place_is ∙ sym (drop-drop (length first) from text))
      ∙ sym (drop-take (length first) (length last) (drop from text)) ∙ ap (λ k. drop (length first) (take k (drop from text))) (sym all)
      ∙ ap (drop (length first)) parts ∙ drop_at first last (length first) refl

  pub before_last : take start text ≡ take from text ++ first
  before_last = sym (take_then from start text (omega (arith, place_is))) ∙ ap (take from text ++◌) first_is

-- ---- passages

next_between : {X : Type 0} (first index : ℕ) (xs : List X) (d x : X) → first ≤ index → index < length xs → x ≡ get_or xs index d
    → between first (index + 1) xs ≡ between first index xs ++ x ∷ []
next_between first index xs d x order there is =
    let k = index - first in
    let count : index + 1 - first ≡ k + 1 = omega arith in
    let fits : k < length (drop first xs) = omega (arith, length-drop first xs) in
    let place : first + k ≡ index = omega arith in
    ap (λ n. take n (drop first xs)) count ∙ take_more (drop first xs) k d fits
    ∙ ap (λ y. take k (drop first xs) ++ y ∷ []) (get_or-drop first xs k d ∙ ap (λ n. get_or xs n d) place ∙ sym is)

one_between : {X : Type 0} (index : ℕ) (xs : List X) (d x : X) → index < length xs → x ≡ get_or xs index d → between index (index + 1) xs ≡ x ∷ []
one_between index xs d x there is =
    let none : between index index xs ≡ [] = ap (λ n. take n (drop index xs)) (let e : index - index ≡ 0 = omega arith in e) in
    next_between index index xs d x (omega arith) there is ∙ ap (◌++ x ∷ []) none

some_between : {X : Type 0} (first index : ℕ) (xs : List X) → first < index → index ≤ length xs → 0 < length (between first index xs)
some_between first index xs order fits = omega (arith, length-between xs first index fits)

end_from-more : (place : Place) (ts : List Turn) (t : Turn) → end_from place (ts ++ t ∷ []) ≡ t.end
end_from-more place [] t = refl
end_from-more place (u ∷ us) t = end_from-more u.end us t

hunk_if-if_stays : (b a gap : List ℕ) (p : Stretch) (ps qs : List Stretch) → hunk_if b a (if_stays gap (p ∷ ps) ++ qs) ≡ hunk b a (if_stays gap (p ∷ ps) ++ qs)
hunk_if-if_stays b a [] p ps qs = refl
hunk_if-if_stays b a (c ∷ cs) p ps qs = refl

module _ (before after : List ℕ) where
  pub IsKept-fits : (place : Place) (ts : List Turn) → AreKept before after place ts → (place.old ≤ length before) × (place.new ≤ length after)
  IsKept-fits place [] kept =
      let a = kept.order_old in let b = kept.order_new in (omega arith, omega arith)
  IsKept-fits place (t ∷ ts) kept =
      let one = kept.0 in
      let a = one.order_old in let b = one.order_new in let c = one.fits_old in let d = one.fits_new in (omega arith, omega arith)

  parts_from-more : (place : Place) (ts : List Turn) (t : Turn)
      → parts_from before after place (ts ++ t ∷ [])
      ≡ parts_from before after place ts ++ if_stays (between (end_from place ts).old t.start.old before) (turn_part before after t ∷ [])
  parts_from-more place [] t = refl
  parts_from-more place (u ∷ us) t =
      ap (λ ps. if_stays (between place.old u.start.old before) (turn_part before after u ∷ ps)) (parts_from-more u.end us t)
      ∙ sym (if_stays-append (between place.old u.start.old before) (turn_part before after u ∷ parts_from before after u.end us) _)

  AreIn-more : (place : Place) (ts : List Turn) (t : Turn) → AreIn before after place.old place.new ts
      → IsIn before after (end_from place ts).old (end_from place ts).new t → AreIn before after place.old place.new (ts ++ t ∷ [])
  AreIn-more place [] t are is = (is, tt)
  AreIn-more place (u ∷ us) t are is = (are.0, AreIn-more u.end us t are.1 is)

  -- a part more of a text from one place on
  side_more : (s e t f : ℕ) (text sum gap : List ℕ) → s ≤ e → e ≤ t → t ≤ f → sum ≡ between s e text → gap ≡ between e t text
      → sum ++ (gap ++ (between t f text ++ [])) ≡ between s f text
  side_more s e t f text sum gap p q r is kept =
      ap₂ (λ x y. x ++ (y ++ (between t f text ++ []))) is kept
      ∙ ap (λ x. between s e text ++ (between e t text ++ x)) (append-nil (between t f text))
      ∙ ap (between s e text ++◌) (between_then e t f text q r)
      ∙ between_then s e f text p (omega arith)

  -- turns from a place to another, of one hunk
  pub record IsRun (start : Place) (run : List Turn) (end : Place) : Type 0 where
    pub some : 0 < length run
    pub ends : end_from start run ≡ end
    pub turns : AreIn before after start.old start.new run
    pub order_old : start.old ≤ end.old
    pub order_new : start.new ≤ end.new
    pub fits_old : end.old ≤ length before
    pub fits_new : end.new ≤ length after
    pub old_is : before_of (parts_from before after start run) ≡ between start.old end.old before
    pub new_is : after_of (parts_from before after start run) ≡ between start.new end.new after

  IsRun-more : (start : Place) (run : List Turn) (end : Place) (t : Turn) → IsRun start run end → IsKept before after end t.start → IsTurn before after t
      → t.end.old ≤ length before → t.end.new ≤ length after → IsRun start (run ++ t ∷ []) t.end
  IsRun-more start run end t r kept turn fits_old fits_new =
      let a = kept.order_old in let b = kept.order_new in let c = turn.order_old in let d = turn.order_new in
      let p = r.order_old in let q = r.order_new in
      let gap = between end.old t.start.old before in
      let parts : parts_from before after start (run ++ t ∷ []) ≡ parts_from before after start run ++ if_stays gap (turn_part before after t ∷ []) =
      parts_from-more start run t ∙ ap (λ (e : Place). parts_from before after start run ++ if_stays (between e.old t.start.old before) (turn_part before after t ∷ [])) r.ends in
      record {
        some = omega (arith, length-append run (t ∷ []));
        ends = end_from-more start run t;
        turns = AreIn-more start run t r.turns
            (subst (λ (e : Place). IsIn before after e.old e.new t) (sym r.ends)
            (record { start_old = a; order_old = c; end_old = fits_old; start_new = b; order_new = d; end_new = fits_new }));
        order_old = omega arith;
        order_new = omega arith;
        fits_old = fits_old;
        fits_new = fits_new;
        old_is =
            ap before_of parts ∙ flat_map-append old_of (parts_from before after start run) _
            ∙ ap (before_of (parts_from before after start run) ++◌) (before_of-if_stays gap (turn_part before after t ∷ []))
            ∙ side_more start.old end.old t.start.old t.end.old before _ gap p a c r.old_is refl;
        new_is =
            ap after_of parts ∙ flat_map-append new_of (parts_from before after start run) _
            ∙ ap (after_of (parts_from before after start run) ++◌) (after_of-if_stays gap (turn_part before after t ∷ []))
            ∙ side_more start.new end.new t.start.new t.end.new after _ gap q b d r.new_is kept.same;
      }

  -- ---- the lines before a turn

  -- what stays between two places, of which the last lines begin at a third
  module _ (n : ℕ) (from to start : Place) (skipped : List ℕ) (kept : IsKept before after from to) (begins : BeginsLast before after n from to start)
      (parts : between from.old to.old before ≡ skipped ++ last_lines n (between from.old to.old before)) where
    parts_new : between from.new to.new after ≡ skipped ++ last_lines n (between from.old to.old before)
    parts_new = sym kept.same ∙ parts

    pub start_order_old : from.old ≤ start.old
    start_order_old =
        let e = place_is from.old to.old start.old before skipped _ kept.order_old kept.fits_old parts begins.old in omega arith

    pub start_order_new : from.new ≤ start.new
    start_order_new =
        let e = place_is from.new to.new start.new after skipped _ kept.order_new kept.fits_new parts_new begins.new in omega arith

    pub start_end_old : start.old ≤ to.old
    start_end_old = let e = begins.old in omega arith

    pub start_end_new : start.new ≤ to.new
    start_end_new = let e = begins.new in omega arith

    pub shown_old : between start.old to.old before ≡ last_lines n (between from.old to.old before)
    shown_old = last_is from.old to.old start.old before skipped _ kept.order_old kept.fits_old parts begins.old

    pub shown_new : between start.new to.new after ≡ last_lines n (between from.old to.old before)
    shown_new = last_is from.new to.new start.new after skipped _ kept.order_new kept.fits_new parts_new begins.new

    pub skipped_old : take start.old before ≡ take from.old before ++ skipped
    skipped_old = before_last from.old to.old start.old before skipped _ kept.order_old kept.fits_old parts begins.old

    pub skipped_new : take start.new after ≡ take from.new after ++ skipped
    skipped_new = before_last from.new to.new start.new after skipped _ kept.order_new kept.fits_new parts_new begins.new

    pub IsRun-first : (t : Turn) → to ≡ t.start → IsTurn before after t → t.end.old ≤ length before → t.end.new ≤ length after → IsRun start (t ∷ []) t.end
    IsRun-first t is turn fits_old fits_new =
        let at_turn = subst (λ (p : Place). (start.old ≤ p.old) × (start.new ≤ p.new) × (between start.old p.old before ≡ between start.new p.new after)) is
        (start_end_old, start_end_new, shown_old ∙ sym shown_new) in
        let a = at_turn.0 in let b = at_turn.1 in let c = turn.order_old in let d = turn.order_new in
        let lead = between start.old t.start.old before in
        let none_old : [] ≡ between start.old start.old before = ap (λ k. take k (drop start.old before)) (let e : 0 ≡ start.old - start.old = omega arith in e) in
        let none_new : [] ≡ between start.new start.new after = ap (λ k. take k (drop start.new after)) (let e : 0 ≡ start.new - start.new = omega arith in e) in
        record {
          some = omega arith;
          ends = refl;
          turns = (record { start_old = a; order_old = c; end_old = fits_old; start_new = b; order_new = d; end_new = fits_new }, tt);
          order_old = omega arith;
          order_new = omega arith;
          fits_old = fits_old;
          fits_new = fits_new;
          old_is = before_of-if_stays lead (turn_part before after t ∷ []) ∙ side_more start.old start.old t.start.old t.end.old before [] lead (omega arith) a c none_old refl;
          new_is = after_of-if_stays lead (turn_part before after t ∷ []) ∙ side_more start.new start.new t.start.new t.end.new after [] lead (omega arith) b d none_new at_turn.2;
        }

  -- ---- the lines after a turn

  hunk_if-from : (b a : List ℕ) (place : Place) (ts : List Turn) (qs : List Stretch) → 0 < length ts
      → hunk_if b a (parts_from before after place ts ++ qs) ≡ hunk b a (parts_from before after place ts ++ qs)
  hunk_if-from b a place [] qs some = absurd (omega (arith, some))
  hunk_if-from b a place (t ∷ ts) qs some =
      hunk_if-if_stays b a (between place.old t.start.old before) (turn_part before after t) (parts_from before after t.end ts) qs

  -- a passage, whose last turn ends at a place, and the first lines of what stays from there to another
  module _ (n : ℕ) (x : Passage) (end to : Place) (run : IsRun x.start x.turns.now end) (kept : IsKept before after end to)
      (ended : EndsFirst before after n end to x.end) where
    abbrev shown : List ℕ
    shown = first_lines n (between end.old to.old before)

    abbrev rest : List ℕ
    rest = text_of (drop n (lines (between end.old to.old before)))

    old_parts : between end.old to.old before ≡ shown ++ rest
    old_parts = start_lines n (between end.old to.old before)

    new_parts : between end.new to.new after ≡ shown ++ rest
    new_parts = sym kept.same ∙ old_parts

    old_count : length shown + length rest ≡ to.old - end.old
    old_count = sym (length-append shown rest) ∙ ap length (sym old_parts) ∙ length-between before end.old to.old kept.fits_old

    new_count : length shown + length rest ≡ to.new - end.new
    new_count = sym (length-append shown rest) ∙ ap length (sym new_parts) ∙ length-between after end.new to.new kept.fits_new

    old_place : x.end.old + length rest ≡ to.old
    old_place = let a = kept.order_old in let e = ended.old in omega (arith, old_count)

    new_place : x.end.new + length rest ≡ to.new
    new_place = let a = kept.order_new in let e = ended.new in omega (arith, new_count)

    old_shown : between end.old x.end.old before ≡ shown
    old_shown = first_is end.old to.old x.end.old before shown rest kept.order_old kept.fits_old old_parts old_place

    new_shown : between end.new x.end.new after ≡ shown
    new_shown = first_is end.new to.new x.end.new after shown rest kept.order_new kept.fits_new new_parts new_place

    parts_in_is : parts_in before after x ≡ parts_from before after x.start x.turns.now ++ if_stays shown []
    parts_in_is =
        ap (λ (e : Place). parts_from before after x.start x.turns.now ++ if_stays (between e.old x.end.old before) []) run.ends
        ∙ ap (λ t. parts_from before after x.start x.turns.now ++ if_stays t []) old_shown

    pub passage_is : passage_text before after x ≡ hunk_if (take x.start.old before) (take x.start.new after) (parts_from before after x.start x.turns.now ++ if_stays shown [])
    passage_is =
        ap (hunk (take x.start.old before) (take x.start.new after)) parts_in_is
        ∙ sym (hunk_if-from (take x.start.old before) (take x.start.new after) x.start x.turns.now (if_stays shown []) run.some)

    pub is_passage : IsPassage before after x.start.old x.start.new x
    is_passage =
        let p = run.order_old in let q = run.order_new in let a = kept.fits_old in let b = kept.fits_new in
        let e = ended.old in let f = ended.new in let c = old_place in let d = new_place in
        let end_is : (end_from x.start x.turns.now).old ≡ end.old = ap (λ (e : Place). e.old) run.ends in
        let end_too : (end_from x.start x.turns.now).new ≡ end.new = ap (λ (e : Place). e.new) run.ends in
        record {
          some = run.some;
          start_old = omega arith;
          start_new = omega arith;
          turns = run.turns;
          end_old = omega (arith, end_is);
          end_new = omega (arith, end_too);
          order_old = omega arith;
          order_new = omega arith;
          fits_old = omega arith;
          fits_new = omega arith;
          old_is =
              ap before_of parts_in_is ∙ flat_map-append old_of (parts_from before after x.start x.turns.now) (if_stays shown [])
              ∙ ap₂ (λ s t. s ++ t) run.old_is (before_of-if_stays shown [] ∙ append-nil shown ∙ sym old_shown)
              ∙ between_then x.start.old end.old x.end.old before p (omega arith);
          new_is =
              ap after_of parts_in_is ∙ flat_map-append new_of (parts_from before after x.start x.turns.now) (if_stays shown [])
              ∙ ap₂ (λ s t. s ++ t) run.new_is (after_of-if_stays shown [] ∙ append-nil shown ∙ sym new_shown)
              ∙ between_then x.start.new end.new x.end.new after q (omega arith);
        }

  -- ---- all of them

  pub IsPassage-weaker : (old new old_to new_to : ℕ) → old ≤ old_to → new ≤ new_to → (x : Passage) → IsPassage before after old_to new_to x → IsPassage before after old new x
  IsPassage-weaker old new old_to new_to p q x is =
      let a = is.start_old in
      let b = is.start_new in
      record {
        some = is.some;
        start_old = omega arith;
        start_new = omega arith;
        turns = is.turns;
        end_old = is.end_old;
        end_new = is.end_new;
        order_old = is.order_old;
        order_new = is.order_new;
        fits_old = is.fits_old;
        fits_new = is.fits_new;
        old_is = is.old_is;
        new_is = is.new_is;
      }

  pub ArePassages-weaker : (old new old_to new_to : ℕ) → old ≤ old_to → new ≤ new_to → (xs : List Passage) → ArePassages before after old_to new_to xs → ArePassages before after old new xs
  ArePassages-weaker old new old_to new_to p q [] are = tt
  ArePassages-weaker old new old_to new_to p q (x ∷ xs) are = (IsPassage-weaker old new old_to new_to p q x are.0, are.1)

  end_after_start : (place : Place) (ts : List Turn) → AreIn before after place.old place.new ts → (place.old ≤ (end_from place ts).old) × (place.new ≤ (end_from place ts).new)
  end_after_start place [] are = (omega arith, omega arith)
  end_after_start place (t ∷ ts) are =
      let a = are.0.start_old in let b = are.0.order_old in let c = are.0.start_new in let d = are.0.order_new in
      let later = end_after_start t.end ts are.1 in (omega (arith, later.0), omega (arith, later.1))

  starts_within : (start end : Place) (ts : List Turn) (d : Turn) → 0 < length ts → AreIn before after start.old start.new ts → (end_from start ts).old ≤ end.old → (end_from start ts).new ≤ end.new
      → ((get_or ts 0 d).start.old ≤ end.old) × ((get_or ts 0 d).start.new ≤ end.new)
  starts_within start end [] d some are old new = absurd (omega (arith, some))
  starts_within start end (t ∷ ts) d some are old new =
      let b = are.0.order_old in let c = are.0.order_new in
      let later = end_after_start t.end ts are.1 in (omega (arith, later.0, old), omega (arith, later.1, new))

  -- the first turn of a passage begins before its end
  pub first_start : (old new : ℕ) (x : Passage) (d : Turn) → IsPassage before after old new x
      → ((get_or x.turns.now 0 d).start.old ≤ x.end.old) × ((get_or x.turns.now 0 d).start.new ≤ x.end.new)
  first_start old new x d is = starts_within x.start x.end x.turns.now d is.some is.turns is.end_old is.end_new

  -- the turns before one of an index are in passages, or in the hunk that begins with the first of these and may go on
  pub record IsGrouped (n : ℕ) (all : List Turn) (passages : List Passage) (start : Place) (first : ℕ) (end : Place) (index : ℕ) : Type 0 where
    pub order : first < index
    pub within : index ≤ length all
    pub run : IsRun start (between first index all) end
    pub kept : AreKept before after end (drop index all)
    pub text : flat_map (passage_text before after) passages
        ++ hunks (take start.old before) (take start.new after) (parts_from before after start (between first index all))
        (views_of n n (cut_at before after end (drop index all)))
        ≡ hunks [] [] [] (views_of 0 n (cut_at before after origin all))
    pub sound : (more : List Passage) → ArePassages before after start.old start.new more → ArePassages before after 0 0 (passages ++ more)

  pub IsGrouped-as : {n : ℕ} {all : List Turn} {end : Place} {index : ℕ} (ps qs : List Passage) (s t : Place) (f k : ℕ) → ps ≡ qs → s ≡ t → f ≡ k
      → IsGrouped n all qs t k end index → IsGrouped n all ps s f end index
  IsGrouped-as {n} {all} {end} {index} ps qs s t f k p q r g =
      subst (λ x. IsGrouped n all ps s x end index) (sym r) (subst (λ x. IsGrouped n all ps x k end index) (sym q) (subst (λ x. IsGrouped n all x t k end index) (sym p) g))

  kept_at : (end : Place) (all : List Turn) (index : ℕ) (d t : Turn) → index < length all → t ≡ get_or all index d → AreKept before after end (drop index all)
      → AreKept before after end (t ∷ drop (index + 1) all)
  kept_at end all index d t there is kept =
      subst (AreKept before after end) (next_item all index t d there is) kept

  -- before the loop: the first turn is in the hunk
  pub grouped_first : (n : ℕ) (all : List Turn) (d t : Turn) (start : Place) → 0 < length all → t ≡ get_or all 0 d → AreKept before after origin all
      → BeginsLast before after n origin t.start start → IsGrouped n all [] start 0 t.end 1
  grouped_first n all d t start there is kept begins =
      let whole : all ≡ t ∷ drop 1 all = next_item all 0 t d there is in
      let here = subst (AreKept before after origin) whole kept in
      let fits = IsKept-fits t.end (drop 1 all) here.2 in
      let gap = between 0 t.start.old before in
      let vs = views_of n n (cut_at before after t.end (drop 1 all)) in
      let one : between 0 1 all ≡ t ∷ [] = one_between 0 all d t there is in
      let old_text = between t.start.old t.end.old before in
      let new_text = between t.start.new t.end.new after in
      let cut = skips_first n gap (turn_part before after t) vs in
      let skipped = cut.skipped in
      let before_is = skipped_old n origin t.start start skipped here.0 begins cut.parts in
      let after_is = skipped_new n origin t.start start skipped here.0 begins cut.parts in
      let lead = shown_old n origin t.start start skipped here.0 begins cut.parts in
      record {
        order = omega arith;
        within = omega arith;
        run = subst (λ ts. IsRun start ts t.end) (sym one) (IsRun-first n origin t.start start skipped here.0 begins cut.parts t refl here.1 fits.0 fits.1);
        kept = here.2;
        text =
            ap (λ ts. hunks (take start.old before) (take start.new after) (parts_from before after start ts) vs) one
            ∙ ap₂ (λ b a. hunks b a (if_stays (between start.old t.start.old before) (turn_part before after t ∷ [])) vs) before_is after_is
            ∙ ap (λ g. hunks skipped skipped (if_stays g (turn_part before after t ∷ [])) vs) lead
            ∙ sym cut.text
            ∙ sym (ap (hunks [] [] []) (views_step 0 n gap old_text new_text (cut_at before after t.end (drop 1 all))))
            ∙ ap (λ ts. hunks [] [] [] (views_of 0 n (cut_at before after origin ts))) (sym whole);
        sound = λ more are. ArePassages-weaker 0 0 start.old start.new (omega arith) (omega arith) more are;
      }

  -- the next turn
  module _ (n : ℕ) (all : List Turn) (passages : List Passage) (start : Place) (first : ℕ) (end : Place) (index : ℕ) (d t : Turn)
      (g : IsGrouped n all passages start first end index) (there : index < length all) (is : t ≡ get_or all index d) where
    abbrev next_kept : AreKept before after end (t ∷ drop (index + 1) all)
    next_kept = kept_at end all index d t there is g.kept

    abbrev gap : List ℕ
    gap = between end.old t.start.old before

    abbrev later : List View
    later = views_of n n (cut_at before after t.end (drop (index + 1) all))

    pub next_is_kept : IsKept before after end t.start
    next_is_kept = next_kept.0

    fits : (t.end.old ≤ length before) × (t.end.new ≤ length after)
    fits = IsKept-fits t.end (drop (index + 1) all) next_kept.2

    views_are : views_of n n (cut_at before after end (drop index all)) ≡ put_stay n n gap (shows (turn_part before after t) ∷ later)
    views_are =
        ap (λ ts. views_of n n (cut_at before after end ts)) (next_item all index t d there is)
        ∙ views_step n n gap (between t.start.old t.end.old before) (between t.start.new t.end.new after) (cut_at before after t.end (drop (index + 1) all))

    -- is in the same hunk
    pub grouped_near : ltb (n + n) (line_count gap) ≡ false → IsGrouped n all passages start first t.end (index + 1)
    grouped_near near =
        let order = g.order in
        let run = between first index all in
        let more : between first (index + 1) all ≡ run ++ t ∷ [] = next_between first index all d t (omega arith) there is in
        let parts : parts_from before after start (between first (index + 1) all) ≡ parts_from before after start run ++ if_stays gap (turn_part before after t ∷ []) =
        ap (parts_from before after start) more ∙ parts_from-more start run t
        ∙ ap (λ (e : Place). parts_from before after start run ++ if_stays (between e.old t.start.old before) (turn_part before after t ∷ [])) g.run.ends in
        record {
          order = omega arith;
          within = omega arith;
          run = subst (λ ts. IsRun start ts t.end) (sym more) (IsRun-more start run end t g.run next_kept.0 next_kept.1 fits.0 fits.1);
          kept = next_kept.2;
          text =
              ap (flat_map (passage_text before after) passages ++◌)
              (ap (λ ps. hunks (take start.old before) (take start.new after) ps later) parts
              ∙ sym (hunks-near n n (take start.old before) (take start.new after) gap (turn_part before after t) (parts_from before after start run) later near)
              ∙ ap (hunks (take start.old before) (take start.new after) (parts_from before after start run)) (sym views_are))
              ∙ g.text;
          sound = g.sound;
        }

    -- begins another one, after a passage more
    pub grouped_far : ltb (n + n) (line_count gap) ≡ true → (x : Passage) (begin : Place) → x.start ≡ start → x.turns.now ≡ between first index all
        → EndsFirst before after n end t.start x.end → BeginsLast before after n end t.start begin → IsGrouped n all (passages ++ x ∷ []) begin index t.end (index + 1)
    grouped_far far x begin start_is turns_are ended begins =
        let many = ltb-true (n + n) (line_count gap) far in
        let parts = cut_lines n n gap (omega (arith, many)) in
        let shown = first_lines n gap in
        let skipped = shown ++ inner_lines n n gap in
        let parts_are : gap ≡ skipped ++ last_lines n gap = parts ∙ sym (append_assoc shown (inner_lines n n gap) (last_lines n gap)) in
        let run : IsRun x.start x.turns.now end = subst (λ (s : Place). IsRun s x.turns.now end) (sym start_is) (subst (λ ts. IsRun start ts end) (sym turns_are) g.run) in
        let before_is = skipped_old n end t.start begin skipped next_kept.0 begins parts_are in
        let after_is = skipped_new n end t.start begin skipped next_kept.0 begins parts_are in
        let lead = shown_old n end t.start begin skipped next_kept.0 begins parts_are in
        let one : between index (index + 1) all ≡ t ∷ [] = one_between index all d t there is in
        let is_it = is_passage n x end t.start run next_kept.0 ended in
        let qs = parts_from before after start (between first index all) ++ if_stays shown [] in
        let text_is : passage_text before after x ≡ hunk_if (take start.old before) (take start.new after) qs =
        passage_is n x end t.start run next_kept.0 ended
        ∙ ap (λ (s : Place). hunk_if (take s.old before) (take s.new after) (parts_from before after s x.turns.now ++ if_stays shown [])) start_is
        ∙ ap (λ ts. hunk_if (take start.old before) (take start.new after) (parts_from before after start ts ++ if_stays shown [])) turns_are in
        let passed_old : take start.old before ++ (before_of qs ++ inner_lines n n gap) ≡ take begin.old before =
        ap (λ s. take start.old before ++ (s ++ inner_lines n n gap))
        (flat_map-append old_of (parts_from before after start (between first index all)) (if_stays shown [])
        ∙ ap₂ (λ s u. s ++ u) g.run.old_is (before_of-if_stays shown [] ∙ append-nil shown))
        ∙ ap (take start.old before ++◌) (append_assoc (between start.old end.old before) shown (inner_lines n n gap))
        ∙ sym (append_assoc (take start.old before) (between start.old end.old before) skipped)
        ∙ ap (◌++ skipped) (take_then start.old end.old before g.run.order_old)
        ∙ sym before_is in
        let passed_new : take start.new after ++ (after_of qs ++ inner_lines n n gap) ≡ take begin.new after =
        ap (λ s. take start.new after ++ (s ++ inner_lines n n gap))
        (flat_map-append new_of (parts_from before after start (between first index all)) (if_stays shown [])
        ∙ ap₂ (λ s u. s ++ u) g.run.new_is (after_of-if_stays shown [] ∙ append-nil shown))
        ∙ ap (take start.new after ++◌) (append_assoc (between start.new end.new after) shown (inner_lines n n gap))
        ∙ sym (append_assoc (take start.new after) (between start.new end.new after) skipped)
        ∙ ap (◌++ skipped) (take_then start.new end.new after g.run.order_new)
        ∙ sym after_is in
        let e = ended.old in
        let f = ended.new in
        let b = begins.old in
        let c = begins.new in
        let ahead_old : begin.old ≡ end.old + length skipped = place_is end.old t.start.old begin.old before skipped _ next_kept.0.order_old next_kept.0.fits_old parts_are b in
        let ahead_new : begin.new ≡ end.new + length skipped =
        place_is end.new t.start.new begin.new after skipped _ next_kept.0.order_new next_kept.0.fits_new (sym next_kept.0.same ∙ parts_are) c in
        let count : length skipped ≡ length shown + length (inner_lines n n gap) = length-append shown (inner_lines n n gap) in
        record {
          order = omega arith;
          within = omega arith;
          run = subst (λ ts. IsRun begin ts t.end) (sym one) (IsRun-first n end t.start begin skipped next_kept.0 begins parts_are t refl next_kept.1 fits.0 fits.1);
          kept = next_kept.2;
          text =
              ap₂ (λ s u. s ++ u)
              (flat_map-append (passage_text before after) passages (x ∷ [])
              ∙ ap (flat_map (passage_text before after) passages ++◌) (append-nil (passage_text before after x) ∙ text_is))
              (ap (λ ts. hunks (take begin.old before) (take begin.new after) (parts_from before after begin ts) later) one
              ∙ ap (λ gs. hunks (take begin.old before) (take begin.new after) (if_stays gs (turn_part before after t ∷ [])) later) lead
              ∙ ap₂ (λ u v. hunks u v (if_stays (last_lines n gap) (turn_part before after t ∷ [])) later) (sym passed_old) (sym passed_new))
              ∙ append_assoc (flat_map (passage_text before after) passages) (hunk_if (take start.old before) (take start.new after) qs) _
              ∙ ap (flat_map (passage_text before after) passages ++◌)
              (sym (hunks-far n n (take start.old before) (take start.new after) gap (turn_part before after t) (parts_from before after start (between first index all)) later far)
              ∙ ap (hunks (take start.old before) (take start.new after) (parts_from before after start (between first index all))) (sym views_are))
              ∙ g.text;
          sound = λ more are.
              subst (ArePassages before after 0 0) (sym (append_assoc passages (x ∷ []) more))
              (g.sound (x ∷ more) (
                subst (λ (s : Place). IsPassage before after s.old s.new x) start_is is_it,
                ArePassages-weaker x.end.old x.end.new begin.old begin.new (omega (arith, ahead_old, count, e)) (omega (arith, ahead_new, count, f)) more are,
              ));
        }

  -- after the last turn
  module _ (n : ℕ) (all : List Turn) (passages : List Passage) (start : Place) (first : ℕ) (end : Place) (index : ℕ) (here : IsGrouped n all passages start first end index)
      (past : length all ≤ index) (x : Passage) (start_is : x.start ≡ start) (turns_are : x.turns.now ≡ between first (length all) all)
      (ended : EndsFirst before after n end (ends before after) x.end) where
    g : IsGrouped n all passages start first end (length all)
    g = subst (IsGrouped n all passages start first end) (let within = here.within in omega (arith, within, past)) here

    abbrev left : List ℕ
    left = drop end.old before

    none_left : drop (length all) all ≡ []
    none_left = drop_all (length all) all (omega arith)

    kept : IsKept before after end (ends before after)
    kept = subst (AreKept before after end) none_left g.kept

    run : IsRun x.start x.turns.now end
    run = subst (λ (s : Place). IsRun s x.turns.now end) (sym start_is) (subst (λ ts. IsRun start ts end) (sym turns_are) g.run)

    left_is : between end.old (length before) before ≡ left
    left_is = take_all (length before - end.old) (drop end.old before) (omega (arith, length-drop end.old before))

    text_is : passage_text before after x
        ≡ hunks (take start.old before) (take start.new after) (parts_from before after start (between first (length all) all))
        (views_of n n (cut_at before after end (drop (length all) all)))
    text_is =
        let shown = first_lines n (between end.old (length before) before) in
        passage_is n x end (ends before after) run kept ended
        ∙ ap (λ (s : Place). hunk_if (take s.old before) (take s.new after) (parts_from before after s x.turns.now ++ if_stays shown [])) start_is
        ∙ ap (λ ts. hunk_if (take start.old before) (take start.new after) (parts_from before after start ts ++ if_stays shown [])) turns_are
        ∙ ap (λ t. hunk_if (take start.old before) (take start.new after) (parts_from before after start (between first (length all) all) ++ if_stays (first_lines n t) [])) left_is
        ∙ sym (hunks-end n (take start.old before) (take start.new after) left (parts_from before after start (between first (length all) all)))
        ∙ ap (hunks (take start.old before) (take start.new after) (parts_from before after start (between first (length all) all)))
        (sym (views_end n left) ∙ ap (λ ts. views_of n n (cut_at before after end ts)) (sym none_left))

    pub grouped_text : flat_map (passage_text before after) (passages ++ x ∷ []) ≡ hunks [] [] [] (views_of 0 n (cut_at before after origin all))
    grouped_text =
        flat_map-append (passage_text before after) passages (x ∷ [])
        ∙ ap (flat_map (passage_text before after) passages ++◌) (append-nil (passage_text before after x) ∙ text_is)
        ∙ g.text

    pub grouped_order : ArePassages before after 0 0 (passages ++ x ∷ [])
    grouped_order = g.sound (x ∷ []) (subst (λ (s : Place). IsPassage before after s.old s.new x) start_is (is_passage n x end (ends before after) run kept ended), tt)
