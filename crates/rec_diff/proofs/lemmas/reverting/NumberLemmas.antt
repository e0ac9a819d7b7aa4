-- Where elements stand in another text, and which numbers they have there.
use Rattle.std.proofs.Common.{◌≡◌, ◌∙◌, ◌⊎◌, ℕ, suc, ◌+◌, ◌-◌, ◌≤◌, ◌<◌, true, false, cond, leb, List, [], ◌∷◌, length, Option, Some, None, inl, inr}
use Rattle.std.proofs.Common.{refl, sym, ap, subst, arith, ltb-true, ltb-false}
use Rattle.std.proofs.lemmas.Bool.{false≢true, cases_Bool, cond-true, cond-false, le-leb, lt-leb, leb-true}
use Rattle.rec_text.specs.declared.element.Element.{Element}
use Rattle.rec_text.specs.Places.{AreFrom}
use Rattle.rec_diff.specs.declared.turn.Place.{Place}
use Rattle.rec_diff.specs.declared.turn.Turn.{Turn}
use Rattle.rec_diff.specs.proving.Numbering.{AreInOrder, IsReached, all_known, is_touched_before, numbers_there, place_there, places_there}
use Rattle.rec_diff.specs.proving.Weaving.{AreInStep, at_start}

-- ---- turns that are passed

pub passes_turn : (place : Place) (turns ts : List Turn) (t : Turn) (at later size : ℕ) → turns ≡ t ∷ ts → t.end.old ≤ at → at ≤ later
    → place_there place turns later size ≡ place_there t.end ts later size
passes_turn place turns ts t at later size are ends fits =
    ap (λ xs. place_there place xs later size) are
    ∙ cond-true (leb t.end.old later) (place_there t.end ts later size) (cond (leb (later + size) t.start.old) (Some (place.new + (later - place.old))) None)
    (le-leb t.end.old later (omega (arith, ends, fits)))

pub is_reached : (turns ts : List Turn) (t : Turn) (at : ℕ) → turns ≡ t ∷ ts → at < t.end.old → IsReached turns at
is_reached turns ts t at are more = subst (λ xs. IsReached xs at) (sym are) (lt-leb t.end.old at more)

pub all_reached : (turns : List Turn) (at : ℕ) → turns ≡ [] → IsReached turns at
all_reached turns at are = subst (λ xs. IsReached xs at) (sym are) tt

-- ---- where bytes stand that the next turn doesn't touch

pub place_at_end : (place : Place) (turns : List Turn) (at size : ℕ) → turns ≡ [] → place_there place turns at size ≡ Some (place.new + (at - place.old))
place_at_end place turns at size are = ap (λ xs. place_there place xs at size) are

pub place_before : (place : Place) (t : Turn) (ts : List Turn) (at size : ℕ) → leb t.end.old at ≡ false
    → place_there place (t ∷ ts) at size ≡ cond (leb (at + size) t.start.old) (Some (place.new + (at - place.old))) None
place_before place t ts at size first =
    cond-false (leb t.end.old at) (place_there t.end ts at size) (cond (leb (at + size) t.start.old) (Some (place.new + (at - place.old))) None) first

pub place_touched : (place : Place) (turns ts : List Turn) (t : Turn) (at size : ℕ) → turns ≡ t ∷ ts → IsReached turns at → t.start.old < at + size
    → place_there place turns at size ≡ None
place_touched place turns ts t at size are first touches =
    ap (λ xs. place_there place xs at size) are ∙ place_before place t ts at size (subst (λ xs. IsReached xs at) are first)
    ∙ cond-false (leb (at + size) t.start.old) (Some (place.new + (at - place.old))) None (lt-leb (at + size) t.start.old touches)

pub place_untouched : (place : Place) (turns ts : List Turn) (t : Turn) (at size : ℕ) → turns ≡ t ∷ ts → IsReached turns at → at + size ≤ t.start.old
    → place_there place turns at size ≡ Some (place.new + (at - place.old))
place_untouched place turns ts t at size are first fits =
    ap (λ xs. place_there place xs at size) are ∙ place_before place t ts at size (subst (λ xs. IsReached xs at) are first)
    ∙ cond-true (leb (at + size) t.start.old) (Some (place.new + (at - place.old))) None (le-leb (at + size) t.start.old fits)

pub place_is_none : (place : Place) (turns : List Turn) (at size : ℕ) → IsReached turns at → is_touched_before turns (at + size) ≡ true → place_there place turns at size ≡ None
place_is_none place [] at size first touched = absurd (false≢true touched)
place_is_none place (t ∷ ts) at size first touched = place_touched place (t ∷ ts) ts t at size refl first (ltb-true t.start.old (at + size) touched)

pub place_is : (place : Place) (turns : List Turn) (at size : ℕ) → IsReached turns at → is_touched_before turns (at + size) ≡ false
    → place_there place turns at size ≡ Some (place.new + (at - place.old))
place_is place [] at size first untouched = refl
place_is place (t ∷ ts) at size first untouched = place_untouched place (t ∷ ts) ts t at size refl first (ltb-false t.start.old (at + size) untouched)

-- ---- places are in order

in_order_step : (least : ℕ) (found : Option ℕ) (rest : List (Option ℕ)) → ((there : ℕ) → found ≡ Some there → (least ≤ there) × AreInOrder there rest) → AreInOrder least rest
    → AreInOrder least (found ∷ rest)
in_order_step least None rest some none = none
in_order_step least (Some there) rest some none = some there refl

module _ (last : Place) where
  in_step_fits : (place : Place) (turns : List Turn) → AreInStep last place turns → place.new ≤ last.new
  in_step_fits place [] (old, is) = omega (arith, old, is)
  in_step_fits place (t ∷ ts) (first, is, old, new, rest) = let fits = in_step_fits t.end ts rest in omega (arith, is, new, fits)

  pub place_fits : (place : Place) (turns : List Turn) (at size : ℕ) → AreInStep last place turns → place.old ≤ at → at + size ≤ last.old → is_touched_before turns (at + size) ≡ false
      → place.new + (at - place.old) ≤ last.new
  place_fits place [] at size (old, is) low within untouched = omega (arith, old, is, low, within)
  place_fits place (t ∷ ts) at size (first, is, old, new, rest) low within untouched =
      let fits = in_step_fits t.end ts rest in
      let far : at + size ≤ t.start.old = ltb-false t.start.old (at + size) untouched in
      omega (arith, is, new, fits, far, first, low)

  least_place : (place : Place) (turns : List Turn) (at size there : ℕ) → AreInStep last place turns → place.old ≤ at → place_there place turns at size ≡ Some there → place.new ≤ there
  least_place place [] at size there step fits is = let e : place.new + (at - place.old) ≡ there = cc in omega (arith, e)
  least_place place (t ∷ ts) at size there (first, same, old, new, rest) fits is = elim (cases_Bool (leb t.end.old at)) [
    | inl e ↦
        let least = least_place t.end ts at size there rest (leb-true t.end.old at e)
        (sym (cond-true (leb t.end.old at) (place_there t.end ts at size) (cond (leb (at + size) t.start.old) (Some (place.new + (at - place.old))) None) e) ∙ is) in
        omega (arith, same, new, least)
    | inr e ↦
        let found : cond (leb (at + size) t.start.old) (Some (place.new + (at - place.old))) None ≡ Some there = sym (place_before place t ts at size e) ∙ is in
        elim (cases_Bool (leb (at + size) t.start.old)) [
          | inl f ↦
              let own : Some (place.new + (at - place.old)) ≡ Some there = sym (cond-true (leb (at + size) t.start.old) (Some (place.new + (at - place.old))) None f) ∙ found in
              let e : place.new + (at - place.old) ≡ there = cc in
              omega (arith, e)
          | inr f ↦
              let none : None ≡ Some there = sym (cond-false (leb (at + size) t.start.old) (Some (place.new + (at - place.old))) None f) ∙ found in
              absurd cc
        ]
  ]

  -- bytes that are later in the one text are later in the other
  later_place : (place : Place) (turns : List Turn) (at size there later count next : ℕ) → AreInStep last place turns → place.old ≤ at → at ≤ later
      → place_there place turns at size ≡ Some there → place_there place turns later count ≡ Some next → there ≤ next
  later_place place [] at size there later count next step low order one other =
      let e : place.new + (at - place.old) ≡ there = cc in
      let f : place.new + (later - place.old) ≡ next = cc in
      omega (arith, e, f)
  later_place place (t ∷ ts) at size there later count next (first, same, old, new, rest) low order one other = elim (cases_Bool (leb t.end.old at)) [
    | inl e ↦
        let ends = leb-true t.end.old at e in
        later_place t.end ts at size there later count next rest ends order
        (sym (cond-true (leb t.end.old at) (place_there t.end ts at size) (cond (leb (at + size) t.start.old) (Some (place.new + (at - place.old))) None) e) ∙ one)
        (sym (passes_turn place (t ∷ ts) ts t at later count refl ends order) ∙ other)
    | inr e ↦
        let found : cond (leb (at + size) t.start.old) (Some (place.new + (at - place.old))) None ≡ Some there = sym (place_before place t ts at size e) ∙ one in
        elim (cases_Bool (leb (at + size) t.start.old)) [
          | inl h ↦
              let own : Some (place.new + (at - place.old)) ≡ Some there = sym (cond-true (leb (at + size) t.start.old) (Some (place.new + (at - place.old))) None h) ∙ found in
              let is : place.new + (at - place.old) ≡ there = cc in
              let fits = leb-true (at + size) t.start.old h in
              elim (cases_Bool (leb t.end.old later)) [
                | inl g ↦
                    let after = least_place t.end ts later count next rest (leb-true t.end.old later g)
                    (sym (cond-true (leb t.end.old later) (place_there t.end ts later count) (cond (leb (later + count) t.start.old) (Some (place.new + (later - place.old))) None) g) ∙ other) in
                    omega (arith, is, fits, low, same, new, after)
                | inr g ↦
                    let last_found : cond (leb (later + count) t.start.old) (Some (place.new + (later - place.old))) None ≡ Some next =
                    sym (place_before place t ts later count g) ∙ other in
                    elim (cases_Bool (leb (later + count) t.start.old)) [
                      | inl k ↦
                          let its : Some (place.new + (later - place.old)) ≡ Some next =
                          sym (cond-true (leb (later + count) t.start.old) (Some (place.new + (later - place.old))) None k) ∙ last_found in
                          let e : place.new + (later - place.old) ≡ next = cc in
                          omega (arith, is, e, order)
                      | inr k ↦ absurd (let none : None ≡ Some next = sym (cond-false (leb (later + count) t.start.old) (Some (place.new + (later - place.old))) None k) ∙ last_found in cc)
                    ]
              ]
          | inr h ↦ absurd (let none : None ≡ Some there = sym (cond-false (leb (at + size) t.start.old) (Some (place.new + (at - place.old))) None h) ∙ found in cc)
        ]
  ]

  module _ (place : Place) (turns : List Turn) (step : AreInStep last place turns) where
    in_order_from : (least at : ℕ) (elements : List Element) → AreFrom at elements → place.old ≤ at
        → ((later count next : ℕ) → at ≤ later → place_there place turns later count ≡ Some next → least ≤ next) → AreInOrder least (places_there place turns elements)
    in_order_from least at [] from low far = tt
    in_order_from least at (e ∷ es) (first, rest) low far =
        in_order_step least (place_there place turns e.at (length e.raw.now)) (places_there place turns es)
        (λ there is. (
          far e.at (length e.raw.now) there (omega (arith, first)) is,
          in_order_from there (at + length e.raw.now) es rest (omega (arith, low))
              (λ later count next order. later_place place turns e.at (length e.raw.now) there later count next step (omega (arith, first, low)) (omega (arith, first, order)) is),
        ))
        (in_order_from least (at + length e.raw.now) es rest (omega (arith, low)) (λ later count next order. far later count next (omega (arith, order))))

pub places_in_order : (last : Place) (turns : List Turn) (elements : List Element) → AreInStep last at_start turns → AreFrom 0 elements → AreInOrder 0 (places_there at_start turns elements)
places_in_order last turns elements step from = in_order_from last at_start turns step 0 0 elements from (omega arith) (λ later count next order is. omega arith)

pub length-places_there : (place : Place) (turns : List Turn) (elements : List Element) → length (places_there place turns elements) ≡ length elements
length-places_there place turns [] = refl
length-places_there place turns (e ∷ es) = ap suc (length-places_there place turns es)

-- ---- where one of two lists ends

pub no_numbers_there : (others es : List Element) (places : List (Option ℕ)) → (es ≡ []) ⊎ (places ≡ []) → numbers_there others es places ≡ []
no_numbers_there others [] places ends = refl
no_numbers_there others (e ∷ es) [] ends = refl
no_numbers_there others (e ∷ es) (place ∷ places) (inl none) = absurd (let n : e ∷ es ≡ [] = none in cc)
no_numbers_there others (e ∷ es) (place ∷ places) (inr none) = absurd (let n : place ∷ places ≡ [] = none in cc)

pub known_at_end : (numbers others : List (Option ℕ)) → (numbers ≡ []) ⊎ (others ≡ []) → all_known numbers others ≡ true
known_at_end [] others ends = refl
known_at_end (n ∷ ns) [] ends = refl
known_at_end (n ∷ ns) (o ∷ os) (inl none) = absurd (let e : n ∷ ns ≡ [] = none in cc)
known_at_end (n ∷ ns) (o ∷ os) (inr none) = absurd (let e : o ∷ os ≡ [] = none in cc)
