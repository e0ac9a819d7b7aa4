-- The parts of a change, by the places of its turns in both texts.
use Rattle.std.proofs.Common.{◌≡◌, ◌∙◌, ℕ, ◌+◌, ◌-◌, ◌≤◌, false, ◌&&◌, List, [], ◌∷◌, ◌++◌, length, map, take, drop, refl, sym, ap, ap₂, subst, append_assoc}
use Rattle.std.proofs.Common.{append-nil, length-append, length-drop, drop-drop, arith}
use Rattle.std.specs.Prelude.{Ok}
use Rattle.std.specs.List.{flat_map, between}
use Rattle.std.proofs.lemmas.Bool.{false≢true}
use Rattle.std.proofs.lemmas.List.{take_all, drop_at}
use Rattle.std.proofs.lemmas.List.Edits.{length-between}
use Rattle.rec_text.specs.Bytes.{is_nil}
use Rattle.rec_journal.specs.declared.patch.Hunk.{Hunk}
use Rattle.rec_journal.specs.Patch.{Splices}
use Rattle.rec_diff.specs.declared.turn.Place.{Place}
use Rattle.rec_diff.specs.declared.turn.Turn.{Turn}
use Rattle.rec_diff.specs.Changes.{Stretch, stays, turns, before_of, after_of, cut_from, put_stays, put_turns, joined}
use Rattle.rec_diff.specs.declared.style.DiffStyle.{DiffStyle}
use Rattle.rec_diff.specs.WholeLines.{lined_from, trimmed, whole_lines}
use Rattle.rec_diff.specs.Diff.{IsChangeText, named, hunks, views_of}
use Rattle.rec_diff.specs.proving.Turns.{Site, site, sites, site_of, AreIn}
use Rattle.rec_diff.specs.proving.Passages.{if_stays, origin, turn_part, cut_at, AreKept}
use Rattle.rec_diff.proofs.lemmas.PartLemmas.{some-append}
use Rattle.rec_diff.proofs.lemmas.PlaceLemmas.{take_then}
use Rattle.rec_diff.proofs.lemmas.CutLemmas.{is_change, is_change_text}
use Rattle.rec_diff.proofs.lemmas.WholeLineLemmas.{changes_lead_by_lines}

-- ---- parts that are joined

-- nothing that stays comes first
abbrev pub BeginsTurning : List Stretch → Type 0
BeginsTurning [] = Unit {0}
BeginsTurning (stays t ∷ cs) = ⊥
BeginsTurning (turns o n ∷ cs) = Unit {0}

-- no part is empty, and what stays never follows what stays
abbrev pub AreTidy : List Stretch → Type 0
AreTidy [] = Unit {0}
AreTidy (stays t ∷ cs) = (is_nil t ≡ false) × BeginsTurning cs × AreTidy cs
AreTidy (turns o n ∷ cs) = ((is_nil o && is_nil n) ≡ false) × AreTidy cs

AreTidy-put_stays : (t : List ℕ) (cs : List Stretch) → AreTidy cs → AreTidy (put_stays t cs)
AreTidy-put_stays [] cs h = h
AreTidy-put_stays (b ∷ bs) [] h = (refl, tt, tt)
AreTidy-put_stays (b ∷ bs) (stays u ∷ cs) h = (refl, h.1, h.2)
AreTidy-put_stays (b ∷ bs) (turns o n ∷ cs) h = (refl, tt, h)

AreTidy-put_turns : (o n : List ℕ) (cs : List Stretch) → AreTidy cs → AreTidy (put_turns o n cs)
AreTidy-put_turns [] [] cs h = h
AreTidy-put_turns [] (y ∷ ys) [] h = (refl, tt)
AreTidy-put_turns [] (y ∷ ys) (stays u ∷ cs) h = (refl, h)
AreTidy-put_turns [] (y ∷ ys) (turns p q ∷ cs) h = (some-append [] (y ∷ ys) p q refl, h.1)
AreTidy-put_turns (x ∷ xs) n [] h = (refl, tt)
AreTidy-put_turns (x ∷ xs) n (stays u ∷ cs) h = (refl, h)
AreTidy-put_turns (x ∷ xs) n (turns p q ∷ cs) h = (some-append (x ∷ xs) n p q refl, h.1)

pub AreTidy-joined : (cs : List Stretch) → AreTidy (joined cs)
AreTidy-joined [] = tt
AreTidy-joined (stays t ∷ cs) = AreTidy-put_stays t (joined cs) (AreTidy-joined cs)
AreTidy-joined (turns o n ∷ cs) = AreTidy-put_turns o n (joined cs) (AreTidy-joined cs)

-- ---- their places

abbrev first_site : Site → List Site → Site
first_site d [] = d
first_site d (s ∷ ss) = s

no_site : (s : Site) (ss : List Site) → [] ≡ s ∷ ss → ⊥
no_site s ss e = let n : 0 ≡ length (s ∷ ss) = ap length e in absurd (omega (arith, n))

between_all : (place : ℕ) (t : List ℕ) → between place (length t) t ≡ drop place t
between_all place t = take_all (length t - place) (drop place t) (omega (arith, length-drop place t))

-- a text from a place on: what stays, what turns, and the rest
module _ (place start end : ℕ) (whole kept turned rest : List ℕ) (order : place ≤ start) (turn : start ≤ end) (fits : end ≤ length whole)
    (prefix : take start whole ≡ take place whole ++ kept) (part : between start end whole ≡ turned) (parts : kept ++ (turned ++ rest) ≡ drop place whole) where
  pub kept_is : between place start whole ≡ kept
  kept_is =
      sym (drop_at (take place whole) (between place start whole) _ refl)
      ∙ ap (drop (length (take place whole))) (take_then place start whole order ∙ prefix)
      ∙ drop_at (take place whole) kept _ refl

  pub prefix_is : (take place whole ++ kept) ++ turned ≡ take end whole
  prefix_is = ap₂ (λ s t. s ++ t) (sym prefix) (sym part) ∙ take_then start end whole turn

  pub rest_is : rest ≡ drop end whole
  rest_is =
      let kept_count : length kept ≡ start - place = ap length (sym kept_is) ∙ length-between whole place start (omega arith) in
      let turned_count : length turned ≡ end - start = ap length (sym part) ∙ length-between whole start end fits in
      let count : length (kept ++ turned) ≡ end - place = omega (arith, length-append kept turned, kept_count, turned_count) in
      let there : place + (end - place) ≡ end = omega arith in
      sym (drop_at (kept ++ turned) rest (end - place) count) ∙ ap (drop (end - place)) (append_assoc kept turned rest ∙ parts)
      ∙ drop-drop (end - place) place whole ∙ ap (λ k. drop k whole) there

module _ (before after : List ℕ) where
  -- these parts are both texts from a place on, where turns are left
  pub record IsCutAt (place : Place) (ts : List Turn) (cs : List Stretch) : Type 0 where
    pub cut : cut_at before after place ts ≡ cs
    pub kept : AreKept before after place ts

  -- what stays is left
  cut_end : (place : Place) (t : List ℕ) → place.old ≤ length before → place.new ≤ length after → t ≡ drop place.old before → t ≡ drop place.new after
      → (cs : List Stretch) → if_stays t [] ≡ cs → IsCutAt place [] cs
  cut_end place t fits_old fits_new old new cs is = record {
    cut = ap (λ u. if_stays u []) (sym old) ∙ is;
    kept = record {
      order_old = fits_old;
      fits_old = omega arith;
      order_new = fits_new;
      fits_new = omega arith;
      same = between_all place.old before ∙ sym old ∙ new ∙ sym (between_all place.new after);
    };
  }

  -- a turn is left, and others after it
  cut_turn : (place : Place) (t : Turn) (ts : List Turn) (kept o n : List ℕ) (cs : List Stretch) → place.old ≤ t.start.old → place.new ≤ t.start.new → t.start.old ≤ t.end.old
      → t.start.new ≤ t.end.new → t.end.old ≤ length before → t.end.new ≤ length after
      → site_of before after t ≡ site (take place.old before ++ kept) (take place.new after ++ kept) o n
      → kept ++ (o ++ before_of cs) ≡ drop place.old before → kept ++ (n ++ after_of cs) ≡ drop place.new after
      → (take t.end.old before ≡ (take place.old before ++ kept) ++ o → take t.end.new after ≡ (take place.new after ++ kept) ++ n
      → before_of cs ≡ drop t.end.old before → after_of cs ≡ drop t.end.new after → IsCutAt t.end ts cs)
      → IsCutAt place (t ∷ ts) (if_stays kept (turns o n ∷ cs))
  cut_turn place t ts kept o n cs order_old order_new turn_old turn_new fits_old fits_new here old new later =
      let prefix_old = ap (λ (s : Site). s.before) here in
      let prefix_new = ap (λ (s : Site). s.after) here in
      let part_old = ap (λ (s : Site). s.old) here in
      let part_new = ap (λ (s : Site). s.new) here in
      let kept_old = kept_is place.old t.start.old t.end.old before kept o (before_of cs) order_old turn_old fits_old prefix_old part_old old in
      let kept_new = kept_is place.new t.start.new t.end.new after kept n (after_of cs) order_new turn_new fits_new prefix_new part_new new in
      let rest = later
      (sym (prefix_is place.old t.start.old t.end.old before kept o (before_of cs) order_old turn_old fits_old prefix_old part_old old))
      (sym (prefix_is place.new t.start.new t.end.new after kept n (after_of cs) order_new turn_new fits_new prefix_new part_new new))
      (rest_is place.old t.start.old t.end.old before kept o (before_of cs) order_old turn_old fits_old prefix_old part_old old)
      (rest_is place.new t.start.new t.end.new after kept n (after_of cs) order_new turn_new fits_new prefix_new part_new new) in
      record {
        cut =
            ap₂ (λ g ds. if_stays g (turn_part before after t ∷ ds)) kept_old rest.cut
            ∙ ap₂ (λ u v. if_stays kept (turns u v ∷ cs)) part_old part_new;
        kept = (
          record { order_old = order_old; fits_old = omega arith; order_new = order_new; fits_new = omega arith; same = kept_old ∙ sym kept_new },
          record { order_old = turn_old; order_new = turn_new },
          rest.kept,
        );
      }

  pub cut_by_sites : (place : Place) (ts : List Turn) (cs : List Stretch) → place.old ≤ length before → place.new ≤ length after
      → AreIn before after place.old place.new ts → map (site_of before after) ts ≡ sites (take place.old before) (take place.new after) cs → AreTidy cs
      → before_of cs ≡ drop place.old before → after_of cs ≡ drop place.new after → IsCutAt place ts cs
  cut_by_sites place [] [] fits_old fits_new are found tidy old new = cut_end place [] fits_old fits_new old new [] refl
  cut_by_sites place [] (turns o n ∷ cs) fits_old fits_new are found tidy old new = absurd (no_site _ _ found)
  cut_by_sites place [] (stays [] ∷ cs) fits_old fits_new are found tidy old new = absurd (false≢true (sym tidy.0))
  cut_by_sites place [] (stays (b ∷ bs) ∷ []) fits_old fits_new are found tidy old new =
      cut_end place (b ∷ bs) fits_old fits_new (sym (append-nil (b ∷ bs)) ∙ old) (sym (append-nil (b ∷ bs)) ∙ new) (stays (b ∷ bs) ∷ []) refl
  cut_by_sites place [] (stays (b ∷ bs) ∷ stays u ∷ cs) fits_old fits_new are found tidy old new = absurd tidy.1
  cut_by_sites place [] (stays (b ∷ bs) ∷ turns o n ∷ cs) fits_old fits_new are found tidy old new = absurd (no_site _ _ found)
  cut_by_sites place (t ∷ ts) [] fits_old fits_new are found tidy old new = absurd (no_site _ _ (sym found))
  cut_by_sites place (t ∷ ts) (stays [] ∷ cs) fits_old fits_new are found tidy old new = absurd (false≢true (sym tidy.0))
  cut_by_sites place (t ∷ ts) (stays (b ∷ bs) ∷ []) fits_old fits_new are found tidy old new = absurd (no_site _ _ (sym found))
  cut_by_sites place (t ∷ ts) (stays (b ∷ bs) ∷ stays u ∷ cs) fits_old fits_new are found tidy old new = absurd tidy.1
  cut_by_sites place (t ∷ ts) (stays (b ∷ bs) ∷ turns o n ∷ cs) fits_old fits_new are found tidy old new =
      let one = are.0 in
      let d = site_of before after t in
      cut_turn place t ts (b ∷ bs) o n cs one.start_old one.start_new one.order_old one.order_new one.end_old one.end_new (ap (first_site d) found) old new
      (λ prefix_old prefix_new rest_old rest_new.
      cut_by_sites t.end ts cs one.end_old one.end_new are.1
      (ap (drop 1) found ∙ ap₂ (λ f g. sites f g cs) (sym prefix_old) (sym prefix_new)) tidy.2.1 rest_old rest_new)
  cut_by_sites place (t ∷ ts) (turns o n ∷ cs) fits_old fits_new are found tidy old new =
      let one = are.0 in
      let d = site_of before after t in
      let here : d ≡ site (take place.old before ++ []) (take place.new after ++ []) o n =
      ap (first_site d) found ∙ ap₂ (λ f g. site f g o n) (sym (append-nil (take place.old before))) (sym (append-nil (take place.new after))) in
      cut_turn place t ts [] o n cs one.start_old one.start_new one.order_old one.order_new one.end_old one.end_new here old new
      (λ prefix_old prefix_new rest_old rest_new.
      cut_by_sites t.end ts cs one.end_old one.end_new are.1
      (ap (drop 1) found
      ∙ ap₂ (λ f g. sites (f ++ o) (g ++ n) cs) (sym (append-nil (take place.old before))) (sym (append-nil (take place.new after)))
      ∙ ap₂ (λ f g. sites f g cs) (sym prefix_old) (sym prefix_new)) tidy.1 rest_old rest_new)

  -- the turns of a patch in whole lines are the parts of its change
  pub cut_by_patch : (patch : List Hunk) (ts : List Turn) → Splices patch before after → AreIn before after 0 0 ts
      → map (site_of before after) ts ≡ sites [] [] (whole_lines (cut_from 0 patch before)) → IsCutAt origin ts (whole_lines (cut_from 0 patch before))
  cut_by_patch patch ts splices are found =
      let lead = changes_lead_by_lines patch before after (whole_lines (cut_from 0 patch before)) (is_change patch before after splices) in
      let tidy = AreTidy-joined (flat_map trimmed (joined (lined_from (cut_from 0 patch before) [] []))) in
      cut_by_sites origin ts (whole_lines (cut_from 0 patch before)) (omega arith) (omega arith) are found tidy lead.from lead.to

  -- what is printed of these turns is the diff of the patch
  pub change_text : (style : DiffStyle) (patch : List Hunk) (ts shown : List Turn) → shown ≡ ts → Splices patch before after → AreIn before after 0 0 ts
      → map (site_of before after) ts ≡ sites [] [] (whole_lines (cut_from 0 patch before))
      → AreKept before after origin shown
      × IsChangeText style patch before after (Ok (named style.name (hunks [] [] [] (views_of 0 style.context (cut_at before after origin shown)))))
  change_text style patch ts shown same splices are found =
      let cut = cut_by_patch patch ts splices are found in (
        subst (AreKept before after origin) (sym same) cut.kept,
        is_change_text style patch before after _ splices
            (ap (λ cs. named style.name (hunks [] [] [] (views_of 0 style.context cs))) (ap (cut_at before after origin) same ∙ cut.cut)),
      )
