-- An element is the same in both texts exactly where it has a place beside the turns.
use Rattle.std.proofs.Common.{◌≡◌, ◌∙◌, ℕ, ◌+◌, ◌-◌, ◌≤◌, ◌<◌, cond, leb, List, [], ◌∷◌, ◌++◌, length, map, drop, take, Some, None, inl, inr}
use Rattle.std.proofs.Common.{refl, sym, ap, subst, append-nil, length-append, take-append-drop, drop-drop, arith}
use Rattle.std.specs.List.{between}
use Rattle.std.proofs.lemmas.Bool.{cases_Bool, cond-true, cond-false, le-leb, lt-leb, leb-true}
use Rattle.std.proofs.lemmas.List.Edits.{length-between}
use Rattle.rec_journal.specs.declared.patch.Hunk.{Hunk}
use Rattle.rec_diff.specs.declared.turn.Place.{Place}
use Rattle.rec_diff.specs.declared.turn.Turn.{Turn}
use Rattle.rec_diff.specs.Changes.{Stretch, stays, turns, before_of, after_of, hunks_at}
use Rattle.rec_diff.specs.Making.{IsSame}
use Rattle.rec_diff.specs.Placed.{Placed, size}
use Rattle.rec_diff.specs.proving.Numbering.{place_there}
use Rattle.rec_diff.specs.proving.Turns.{AreIn}
use Rattle.rec_diff.specs.proving.Weaving.{AreInStep, at_start, hunk_on}
use Rattle.rec_diff.proofs.lemmas.reverting.NumberLemmas.{place_before}
use Rattle.rec_diff.proofs.lemmas.reverting.WeavingLemmas.{NotBefore, hunks_at_first}

-- ---- texts between two places

between_rest : (s l : ℕ) (t : List ℕ) → s ≤ l → between s l t ++ drop l t ≡ drop s t
between_rest s l t order =
    let count : s + (l - s) ≡ l = omega arith in
    ap (λ u. take (l - s) (drop s t) ++ u) (sym (drop-drop (l - s) s t ∙ ap (λ n. drop n t) count)) ∙ take-append-drop (l - s) (drop s t)

-- ---- the first of some hunks

abbrev first_at : List Hunk → ℕ
first_at [] = 0
first_at (h ∷ hunks) = h.at

abbrev first_old : List Hunk → List ℕ
first_old [] = []
first_old (h ∷ hunks) = h.old

abbrev first_new : List Hunk → List ℕ
first_new [] = []
first_new (h ∷ hunks) = h.new

abbrev others_of : List Hunk → List Hunk
others_of [] = []
others_of (h ∷ hunks) = hunks

module _ (f g : List ℕ) where
  abbrev pub ends : Place
  ends = record { old = length f; new = length g }

  -- the parts of the texts from a place on
  abbrev parts_from : Place → List Turn → List Stretch
  parts_from place [] = stays (drop place.old f) ∷ []
  parts_from place (t ∷ ts) =
      stays (between place.old t.start.old f) ∷ turns (between t.start.old t.end.old f) (between t.start.new t.end.new g) ∷ parts_from t.end ts

  -- a turn, after what stays, and before parts of which these are the hunks
  turn_hunks : (place : Place) (t : Turn) (ts : List Turn) (parts : List Stretch) → AreIn f g place.old place.new (t ∷ ts) → hunks_at t.end.old parts ≡ map (hunk_on f g) ts
      → hunks_at (place.old + length (between place.old t.start.old f)) (turns (between t.start.old t.end.old f) (between t.start.new t.end.new g) ∷ parts) ≡ map (hunk_on f g) (t ∷ ts)
  turn_hunks place t ts parts are rest =
      let is = are.0 in
      let low = is.start_old in
      let order = is.order_old in
      let high = is.end_old in
      let old = between t.start.old t.end.old f in
      let new = between t.start.new t.end.new g in
      let first : place.old + length (between place.old t.start.old f) ≡ t.start.old =
      (let n = length-between f place.old t.start.old (omega (arith, order, high)) in omega (arith, low, n)) in
      let second : t.start.old + length old ≡ t.end.old = (let n = length-between f t.start.old t.end.old high in omega (arith, order, n)) in
      ap (λ n. record { at = n; old = old; new = new } ∷ hunks_at (n + length old) parts) first
      ∙ ap (λ n. record { at = t.start.old; old = old; new = new } ∷ hunks_at n parts) second
      ∙ ap (hunk_on f g t ∷◌) rest

  hunks_from : (place : Place) (ts : List Turn) → AreIn f g place.old place.new ts → hunks_at place.old (parts_from place ts) ≡ map (hunk_on f g) ts
  hunks_from place [] are = refl
  hunks_from place (t ∷ ts) are = turn_hunks place t ts (parts_from t.end ts) are (hunks_from t.end ts are.1)

  text_from : (place : Place) (ts : List Turn) → AreIn f g place.old place.new ts → before_of (parts_from place ts) ≡ drop place.old f
  text_from place [] are = append-nil (drop place.old f)
  text_from place (t ∷ ts) are =
      let is = are.0 in
      ap (λ u. between place.old t.start.old f ++ (between t.start.old t.end.old f ++ u)) (text_from t.end ts are.1)
      ∙ ap (λ u. between place.old t.start.old f ++ u) (between_rest t.start.old t.end.old f is.order_old)
      ∙ between_rest place.old t.start.old f is.start_old

  -- the texts are cut at the bytes from one place of the old one on, which stand at a place of the new one
  pub record IsCut (place : Place) (ts : List Turn) (at size there : ℕ) : Type 0 where
    pub first : List Stretch
    pub last : List Stretch
    pub hunks : hunks_at place.old (first ++ stays (between at (at + size) f) ∷ last) ≡ map (hunk_on f g) ts
    pub text : before_of (first ++ stays (between at (at + size) f) ∷ last) ≡ drop place.old f
    pub old_at : place.old + length (before_of first) ≡ at
    pub new_at : place.new + length (after_of first) ≡ there

  one_text : (t : List ℕ) → length (t ++ []) ≡ length t
  one_text t = ap length (append-nil t)

  cut_before : (place : Place) (t : Turn) (ts : List Turn) (at size : ℕ) → AreIn f g place.old place.new (t ∷ ts) → place.old ≤ at → at + size ≤ t.start.old
      → IsCut place (t ∷ ts) at size (place.new + (at - place.old))
  cut_before place t ts at size are low fits =
      let is = are.0 in
      let order = is.order_old in
      let high = is.end_old in
      let n = length-between f place.old at (omega (arith, fits, order, high)) in
      let m = length-between f at (at + size) (omega (arith, fits, order, high)) in
      let k = length-between f (at + size) t.start.old (omega (arith, order, high)) in
      let all = length-between f place.old t.start.old (omega (arith, order, high)) in
      let count : place.old + length (between place.old at f) + length (between at (at + size) f) + length (between (at + size) t.start.old f)
      ≡ place.old + length (between place.old t.start.old f) =
      omega (arith, low, fits, n, m, k, all) in
      record {
        first = stays (between place.old at f) ∷ [];
        last = stays (between (at + size) t.start.old f) ∷ turns (between t.start.old t.end.old f) (between t.start.new t.end.new g) ∷ parts_from t.end ts;
        hunks =
            ap (λ n. hunks_at n (turns (between t.start.old t.end.old f) (between t.start.new t.end.new g) ∷ parts_from t.end ts)) count
            ∙ turn_hunks place t ts (parts_from t.end ts) are (hunks_from t.end ts are.1);
        text =
            ap (λ u. between place.old at f ++ (between at (at + size) f ++ (between (at + size) t.start.old f ++ (between t.start.old t.end.old f ++ u)))) (text_from t.end ts are.1)
            ∙ ap (λ u. between place.old at f ++ (between at (at + size) f ++ (between (at + size) t.start.old f ++ u))) (between_rest t.start.old t.end.old f order)
            ∙ ap (λ u. between place.old at f ++ (between at (at + size) f ++ u)) (between_rest (at + size) t.start.old f fits)
            ∙ ap (λ u. between place.old at f ++ u) (between_rest at (at + size) f (omega arith))
            ∙ between_rest place.old at f low;
        old_at = omega (arith, low, n, one_text (between place.old at f));
        new_at = omega (arith, low, n, one_text (between place.old at f));
      }

  cut_at_end : (place : Place) (at size : ℕ) → place.old ≤ at → at + size ≤ length f → IsCut place [] at size (place.new + (at - place.old))
  cut_at_end place at size low fits =
      let n = length-between f place.old at (omega (arith, fits)) in
      record {
        first = stays (between place.old at f) ∷ [];
        last = stays (drop (at + size) f) ∷ [];
        hunks = refl;
        text =
            ap (λ u. between place.old at f ++ (between at (at + size) f ++ u)) (append-nil (drop (at + size) f))
            ∙ ap (λ u. between place.old at f ++ u) (between_rest at (at + size) f (omega arith))
            ∙ between_rest place.old at f low;
        old_at = omega (arith, low, n, one_text (between place.old at f));
        new_at = omega (arith, low, n, one_text (between place.old at f));
      }

  cut_after : (place : Place) (t : Turn) (ts : List Turn) (at size there : ℕ) → AreIn f g place.old place.new (t ∷ ts) → t.start.new ≡ place.new + (t.start.old - place.old)
      → IsCut t.end ts at size there → IsCut place (t ∷ ts) at size there
  cut_after place t ts at size there are step cut =
      let is = are.0 in
      let low = is.start_old in
      let order = is.order_old in
      let high = is.end_old in
      let order_new = is.order_new in
      let high_new = is.end_new in
      let kept = between place.old t.start.old f in
      let old = between t.start.old t.end.old f in
      let new = between t.start.new t.end.new g in
      let n = length-between f place.old t.start.old (omega (arith, order, high)) in
      let m = length-between f t.start.old t.end.old high in
      let k = length-between g t.start.new t.end.new high_new in
      let befores : length (kept ++ (old ++ before_of cut.first)) ≡ length kept + (length old + length (before_of cut.first)) =
      length-append kept (old ++ before_of cut.first) ∙ ap (λ n. length kept + n) (length-append old (before_of cut.first)) in
      let afters : length (kept ++ (new ++ after_of cut.first)) ≡ length kept + (length new + length (after_of cut.first)) =
      length-append kept (new ++ after_of cut.first) ∙ ap (λ n. length kept + n) (length-append new (after_of cut.first)) in
      let old_at = cut.old_at in
      let new_at = cut.new_at in
      record {
        first = stays kept ∷ turns old new ∷ cut.first;
        last = cut.last;
        hunks = turn_hunks place t ts (cut.first ++ stays (between at (at + size) f) ∷ cut.last) are cut.hunks;
        text = ap (λ u. kept ++ (old ++ u)) cut.text ∙ ap (λ u. kept ++ u) (between_rest t.start.old t.end.old f order) ∙ between_rest place.old t.start.old f low;
        old_at = omega (arith, low, order, n, m, befores, old_at);
        new_at = omega (arith, low, order_new, step, n, k, afters, new_at);
      }

  -- bytes that have a place stand there
  pub cut_of_place : (place : Place) (ts : List Turn) (at size there : ℕ) → AreIn f g place.old place.new ts → AreInStep ends place ts → place.old ≤ at → at + size ≤ length f
      → place_there place ts at size ≡ Some there → IsCut place ts at size there
  cut_of_place place [] at size there are step low fits found =
      let is : place.new + (at - place.old) ≡ there = cc in
      subst (IsCut place [] at size) is (cut_at_end place at size low fits)
  cut_of_place place (t ∷ ts) at size there are step low fits found =
      let own = Some (place.new + (at - place.old)) in
      elim (cases_Bool (leb t.end.old at)) [
        | inl e ↦
            let next : place_there t.end ts at size ≡ Some there = sym (cond-true (leb t.end.old at) (place_there t.end ts at size) (cond (leb (at + size) t.start.old) own None) e) ∙ found in
            cut_after place t ts at size there are step.1 (cut_of_place t.end ts at size there are.1 step.4 (leb-true t.end.old at e) fits next)
        | inr e ↦
            let here : cond (leb (at + size) t.start.old) own None ≡ Some there = sym (place_before place t ts at size e) ∙ found in
            elim (cases_Bool (leb (at + size) t.start.old)) [
              | inl h ↦
                  let mine : own ≡ Some there = sym (cond-true (leb (at + size) t.start.old) own None h) ∙ here in
                  let is : place.new + (at - place.old) ≡ there = cc in
                  subst (IsCut place (t ∷ ts) at size) is (cut_before place t ts at size are low (leb-true (at + size) t.start.old h))
              | inr h ↦ absurd (let none : None ≡ Some there = sym (cond-false (leb (at + size) t.start.old) own None h) ∙ here in cc)
            ]
      ]

  -- bytes that stay have a place
  pub place_of_cut : (first last : List Stretch) (bytes : List ℕ) (o n : ℕ) (place : Place) (ts : List Turn) → 0 < length bytes → AreIn f g place.old place.new ts → AreInStep ends place ts
      → place.old ≤ o → place.new + (o - place.old) ≡ n → hunks_at o (first ++ stays bytes ∷ last) ≡ map (hunk_on f g) ts
      → place_there place ts (o + length (before_of first)) (length bytes) ≡ Some (n + length (after_of first))
  place_of_cut [] last bytes o n place [] some are step low same hunks = ap Some (omega (arith, low, same))
  place_of_cut [] last bytes o n place (t ∷ ts) some are step low same hunks =
      let order = are.0.order_old in
      let far : o + length bytes ≤ t.start.old = subst (NotBefore (o + length bytes)) hunks (hunks_at_first (o + length bytes) (o + length bytes) last (omega arith)) in
      place_before place t ts (o + 0) (length bytes) (lt-leb t.end.old (o + 0) (omega (arith, some, far, order)))
      ∙ cond-true (leb (o + 0 + length bytes) t.start.old) (Some (place.new + (o + 0 - place.old))) None (le-leb (o + 0 + length bytes) t.start.old (omega (arith, far)))
      ∙ ap Some (omega (arith, low, same))
  place_of_cut (stays u ∷ first) last bytes o n place ts some are step low same hunks =
      let rest = place_of_cut first last bytes (o + length u) (n + length u) place ts some are step (omega (arith, low)) (omega (arith, low, same)) hunks in
      ap (λ k. place_there place ts k (length bytes)) (let e : o + length (u ++ before_of first) ≡ o + length u + length (before_of first) = omega (arith, length-append u (before_of first)) in e)
      ∙ rest ∙ ap Some (let e : n + length u + length (after_of first) ≡ n + length (u ++ after_of first) = omega (arith, length-append u (after_of first)) in e)
  place_of_cut (turns a b ∷ first) last bytes o n place [] some are step low same hunks =
      absurd (let e : record { at = o; old = a; new = b } ∷ hunks_at (o + length a) (first ++ stays bytes ∷ last) ≡ [] = hunks in cc)
  place_of_cut (turns a b ∷ first) last bytes o n place (t ∷ ts) some are step low same hunks =
      let is = are.0 in
      let order = is.order_old in
      let high = is.end_old in
      let order_new = is.order_new in
      let high_new = is.end_new in
      let instep = step.1 in
      let at : o ≡ t.start.old = ap first_at hunks in
      let olds : length a ≡ t.end.old - t.start.old = ap (λ hs. length (first_old hs)) hunks ∙ length-between f t.start.old t.end.old high in
      let news : length b ≡ t.end.new - t.start.new = ap (λ hs. length (first_new hs)) hunks ∙ length-between g t.start.new t.end.new high_new in
      let rest = place_of_cut first last bytes (o + length a) (n + length b) t.end ts some are.1 step.4 (omega (arith, at, olds, order))
      (omega (arith, at, olds, news, order, order_new, instep, low, same)) (ap others_of hunks) in
      let past : t.end.old ≤ o + length (a ++ before_of first) = omega (arith, at, olds, order, length-append a (before_of first)) in
      cond-true (leb t.end.old (o + length (a ++ before_of first))) (place_there t.end ts (o + length (a ++ before_of first)) (length bytes))
      (cond (leb (o + length (a ++ before_of first) + length bytes) t.start.old) (Some (place.new + (o + length (a ++ before_of first) - place.old))) None)
      (le-leb t.end.old (o + length (a ++ before_of first)) past)
      ∙ ap (λ k. place_there t.end ts k (length bytes)) (let e : o + length (a ++ before_of first) ≡ o + length a + length (before_of first) = omega (arith, length-append a (before_of first)) in e)
      ∙ rest ∙ ap Some (let e : n + length b + length (after_of first) ≡ n + length (b ++ after_of first) = omega (arith, length-append b (after_of first)) in e)

-- ---- elements

module _ (f g : List ℕ) (parts : List Stretch) (ts : List Turn) (hunks : hunks_at 0 parts ≡ map (hunk_on f g) ts) (text : before_of parts ≡ f) (are : AreIn f g 0 0 ts)
    (step : AreInStep (ends f g) at_start ts) where
  -- an element is the same where it has a place, and one of the other text stands there
  pub same_of_place : (x y : Placed) → x.piece ≡ y.piece → between x.at (x.at + size x) f ≡ x.piece.bytes → x.at + size x ≤ length f
      → place_there at_start ts x.at (size x) ≡ Some y.at → IsSame parts x y
  same_of_place x y piece bytes fits found =
      let cut = cut_of_place f g at_start ts x.at (size x) y.at are step (omega arith) fits found in
      let old_at = cut.old_at in
      let new_at = cut.new_at in
      record {
        piece = piece;
        first = cut.first;
        last = cut.last;
        cut = record {
          turns = subst (λ b. hunks_at 0 (cut.first ++ stays b ∷ cut.last) ≡ map (hunk_on f g) ts) bytes cut.hunks ∙ sym hunks;
          text = subst (λ b. before_of (cut.first ++ stays b ∷ cut.last) ≡ f) bytes cut.text ∙ sym text;
        };
        old_at = omega (arith, old_at);
        new_at = omega (arith, new_at);
      }

  pub place_of_same : (x y : Placed) → 0 < size x → IsSame parts x y → place_there at_start ts x.at (size x) ≡ Some y.at
  place_of_same x y some same =
      let old_at = same.old_at in
      let new_at = same.new_at in
      let at : x.at ≡ 0 + length (before_of same.first) = omega (arith, old_at) in
      let there : 0 + length (after_of same.first) ≡ y.at = omega (arith, new_at) in
      ap (λ k. place_there at_start ts k (size x)) at
      ∙ place_of_cut f g same.first same.last x.piece.bytes 0 0 at_start ts some are step (omega arith) (omega arith) (same.cut.turns ∙ hunks)
      ∙ ap Some there
