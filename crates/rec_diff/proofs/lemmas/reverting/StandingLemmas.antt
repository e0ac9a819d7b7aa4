-- The turns of both changes stand as their hunks do.
use Rattle.std.proofs.Common.{◌≡◌, ◌∙◌, ℕ, ◌+◌, ◌-◌, ◌≤◌, ◌<◌, Bool, true, false, not, cond, eqb, leb, ◌&&◌, ◌||◌, List, [], ◌∷◌, ◌++◌, length, map, take, drop, get_or, Option, Some, None, inl, inr}
use Rattle.std.proofs.Common.{refl, sym, ap, ap₂, subst, append_assoc, length-append, arith}
use Rattle.std.specs.List.{between}
use Rattle.std.proofs.lemmas.Bool.{cases_Bool, cond-true, cond-false, eq-eqb, ne_eqb, leb-true}
use Rattle.std.proofs.lemmas.List.{length-take-le}
use Rattle.std.proofs.lemmas.List.Edits.{length-between}
use Rattle.rec_text.specs.Bytes.{is_nil}
use Rattle.rec_journal.specs.declared.patch.Hunk.{Hunk}
use Rattle.rec_diff.specs.declared.turn.Place.{Place}
use Rattle.rec_diff.specs.declared.turn.Turn.{Turn}
use Rattle.rec_diff.specs.declared.reverting.standing.Ahead.{Ahead}
use Rattle.rec_diff.specs.Changes.{Stretch, stays, turns, turned, before_of, after_of, hunks_at}
use Rattle.rec_diff.specs.Strands.{hunks_back}
use Rattle.rec_diff.specs.proving.Turns.{AreIn, IsIn, Site, site_of, sites}
use Rattle.rec_diff.specs.proving.Weaving.{AreInStep, Passes, at_start, by_order, hunk_back, hunk_on, is_beside, is_turn_beside, moved_hunk, onto, order, past, place_of, stand, turn_back, turn_order}
use Rattle.rec_diff.specs.proving.Weaving.{turns_past, turns_stand}
use Rattle.rec_diff.proofs.lemmas.PlaceLemmas.{next_item}

-- some before others, if there are any
abbrev pub all_onto : {X : Type 0} → List X → Option (List X) → Option (List X)
all_onto xs None = None
all_onto xs (Some ys) = Some (xs ++ ys)

pub all_onto-onto : {X : Type 0} (xs : List X) (x : X) (rest : Option (List X)) → all_onto xs (onto x rest) ≡ all_onto (xs ++ x ∷ []) rest
all_onto-onto xs x None = refl
all_onto-onto xs x (Some ys) = ap Some (sym (append_assoc xs (x ∷ []) ys))

pub all_onto-none : {X : Type 0} (rest : Option (List X)) → all_onto [] rest ≡ rest
all_onto-none None = refl
all_onto-none (Some ys) = refl

-- ---- the hunks of turns

abbrev site_on : Site → Hunk
site_on s = record { at = length s.before; old = s.old; new = s.new }

abbrev site_back : Site → Hunk
site_back s = record { at = length s.after; old = s.new; new = s.old }

sites_on : (f g : List ℕ) (at : ℕ) (parts : List Stretch) → at ≡ length f → map site_on (sites f g parts) ≡ hunks_at at parts
sites_on f g at [] is = refl
sites_on f g at (stays t ∷ parts) is = sites_on (f ++ t) (g ++ t) (at + length t) parts (omega (arith, is, length-append f t))
sites_on f g at (turns old new ∷ parts) is =
    ap₂ (λ (n : ℕ) (hs : List Hunk). record { at = n; old = old; new = new } ∷ hs) (sym is)
    (sites_on (f ++ old) (g ++ new) (at + length old) parts (omega (arith, is, length-append f old)))

sites_back : (f g : List ℕ) (at : ℕ) (parts : List Stretch) → at ≡ length g → map site_back (sites f g parts) ≡ hunks_at at (map turned parts)
sites_back f g at [] is = refl
sites_back f g at (stays t ∷ parts) is = sites_back (f ++ t) (g ++ t) (at + length t) parts (omega (arith, is, length-append g t))
sites_back f g at (turns old new ∷ parts) is =
    ap₂ (λ (n : ℕ) (hs : List Hunk). record { at = n; old = new; new = old } ∷ hs) (sym is)
    (sites_back (f ++ old) (g ++ new) (at + length new) parts (omega (arith, is, length-append g new)))

module _ (before after : List ℕ) where
  turns_on : (old new : ℕ) (ts : List Turn) → AreIn before after old new ts → map site_on (map (site_of before after) ts) ≡ map (hunk_on before after) ts
  turns_on old new [] are = refl
  turns_on old new (t ∷ ts) are =
      let is = are.0 in
      let a = is.order_old in
      let b = is.end_old in
      ap₂ (λ (n : ℕ) (hs : List Hunk). record { at = n; old = between t.start.old t.end.old before; new = between t.start.new t.end.new after } ∷ hs)
      (length-take-le t.start.old before (omega arith)) (turns_on t.end.old t.end.new ts are.1)

  turns_back : (old new : ℕ) (ts : List Turn) → AreIn before after old new ts → map site_back (map (site_of before after) ts) ≡ map (hunk_back before after) ts
  turns_back old new [] are = refl
  turns_back old new (t ∷ ts) are =
      let is = are.0 in
      let a = is.order_new in
      let b = is.end_new in
      ap₂ (λ (n : ℕ) (hs : List Hunk). record { at = n; old = between t.start.new t.end.new after; new = between t.start.old t.end.old before } ∷ hs)
      (length-take-le t.start.new after (omega arith)) (turns_back t.end.old t.end.new ts are.1)

  module _ (ts : List Turn) (parts : List Stretch) (are : AreIn before after 0 0 ts) (found : map (site_of before after) ts ≡ sites [] [] parts) where
    pub hunks_on_are : map (hunk_on before after) ts ≡ hunks_at 0 parts
    hunks_on_are = sym (turns_on 0 0 ts are) ∙ ap (map site_on) found ∙ sites_on [] [] 0 parts refl

    pub hunks_back_are : map (hunk_back before after) ts ≡ hunks_back parts
    hunks_back_are = sym (turns_back 0 0 ts are) ∙ ap (map site_back) found ∙ sites_back [] [] 0 parts refl

-- ---- both texts are in step between turns

abbrev SitesInStep : ℕ → ℕ → ℕ → ℕ → List Site → Type 0
SitesInStep last_old last_new old new [] = (old ≤ last_old) × (new + (last_old - old) ≡ last_new)
SitesInStep last_old last_new old new (s ∷ ss) = (old ≤ length s.before) × (length s.after ≡ new + (length s.before - old))
    × SitesInStep last_old last_new (length s.before + length s.old) (length s.after + length s.new) ss

sites_in_step : (last_old last_new old new : ℕ) (f g : List ℕ) (parts : List Stretch) → old ≤ length f → length g ≡ new + (length f - old)
    → last_old ≡ length f + length (before_of parts) → last_new ≡ length g + length (after_of parts) → SitesInStep last_old last_new old new (sites f g parts)
sites_in_step last_old last_new old new f g [] fits is last_is also = (omega (arith, fits, last_is), omega (arith, fits, is, last_is, also))
sites_in_step last_old last_new old new f g (stays t ∷ parts) fits is last_is also =
    let m = length-append f t in
    let n = length-append g t in
    let p = length-append t (before_of parts) in
    let q = length-append t (after_of parts) in
    sites_in_step last_old last_new old new (f ++ t) (g ++ t) parts (omega (arith, fits, m)) (omega (arith, fits, is, m, n)) (omega (arith, last_is, m, p)) (omega (arith, also, n, q))
sites_in_step last_old last_new old new f g (turns o n ∷ parts) fits is last_is also =
    let a = length-append f o in
    let b = length-append g n in
    let p = length-append o (before_of parts) in
    let q = length-append n (after_of parts) in (
      fits,
      is,
      sites_in_step last_old last_new (length f + length o) (length g + length n) (f ++ o) (g ++ n) parts (omega (arith, a)) (omega (arith, a, b))
          (omega (arith, last_is, a, p)) (omega (arith, also, b, q)),
    )

module _ (before after : List ℕ) (last : Place) where
  turns_in_step : (old new : ℕ) (place : Place) (ts : List Turn) → AreIn before after old new ts
      → SitesInStep last.old last.new place.old place.new (map (site_of before after) ts) → AreInStep last place ts
  turns_in_step old new place [] are steps = steps
  turns_in_step old new place (t ∷ ts) are steps =
      let is = are.0 in
      let a = is.order_old in
      let b = is.end_old in
      let c = is.order_new in
      let d = is.end_new in
      let m : length (take t.start.old before) ≡ t.start.old = length-take-le t.start.old before (omega arith) in
      let n : length (take t.start.new after) ≡ t.start.new = length-take-le t.start.new after (omega arith) in
      let p : length (between t.start.old t.end.old before) ≡ t.end.old - t.start.old = length-between before t.start.old t.end.old b in
      let q : length (between t.start.new t.end.new after) ≡ t.end.new - t.start.new = length-between after t.start.new t.end.new d in
      let first : place.old ≤ length (take t.start.old before) = steps.0 in
      let second : length (take t.start.new after) ≡ place.new + (length (take t.start.old before) - place.old) = steps.1 in
      let end_old : length (take t.start.old before) + length (between t.start.old t.end.old before) ≡ t.end.old = omega (arith, m, p) in
      let end_new : length (take t.start.new after) + length (between t.start.new t.end.new after) ≡ t.end.new = omega (arith, n, q) in (
        omega (arith, m, first),
        omega (arith, m, n, first, second),
        a,
        c,
        turns_in_step t.end.old t.end.new t.end ts are.1
            (subst (λ x. SitesInStep last.old last.new x t.end.new (map (site_of before after) ts)) end_old
            (subst (λ x. SitesInStep last.old last.new (length (take t.start.old before) + length (between t.start.old t.end.old before)) x (map (site_of before after) ts)) end_new steps.2)),
      )

  pub others_in_step : (ts : List Turn) (parts : List Stretch) → AreIn before after 0 0 ts → map (site_of before after) ts ≡ sites [] [] parts
      → last.old ≡ length before → last.new ≡ length after → before_of parts ≡ before → after_of parts ≡ after → AreInStep last at_start ts
  others_in_step ts parts are found old new from to =
      turns_in_step 0 0 at_start ts are
      (subst (SitesInStep last.old last.new 0 0) (sym found)
      (sites_in_step last.old last.new 0 0 [] [] parts (omega arith) refl (let e : length (before_of parts) ≡ length before = ap length from in omega (arith, old, e))
      (let e : length (after_of parts) ≡ length after = ap length to in omega (arith, new, e))))

-- ---- turns are told apart as their hunks are

nil_between : (s e : ℕ) (t : List ℕ) → s ≤ e → e ≤ length t → is_nil (between s e t) ≡ eqb s e
nil_between s e t order fits = by (between s e t) (length-between t s e fits)
  where
    by : (u : List ℕ) → length u ≡ e - s → is_nil u ≡ eqb s e
    by [] count = sym (eq-eqb s e (omega (arith, order, count)))
    by (b ∷ bs) count = sym (ne_eqb s e (λ same. let k : s ≡ e = same in omega (arith, order, count)))

module _ (before after here : List ℕ) where
  module _ (t o : Turn) (old new their_old their_new : ℕ) (t_in : IsIn before after old new t) (o_in : IsIn after here their_old their_new o) where
    start_new_in : t.start.new ≤ t.end.new
    start_new_in = t_in.order_new

    abbrev back : Hunk
    back = hunk_back before after t

    abbrev other : Hunk
    other = hunk_on after here o

    back_ends : back.at + length back.old ≡ t.end.new
    back_ends = let a = t_in.order_new in let b = t_in.end_new in let p = length-between after t.start.new t.end.new b in omega (arith, p)

    other_ends : other.at + length other.old ≡ o.end.old
    other_ends = let a = o_in.order_old in let b = o_in.end_old in let p = length-between after o.start.old o.end.old b in omega (arith, p)

    besides : is_turn_beside t o ≡ is_beside back other
    besides =
        ap₂ (λ x y. x && (not y && (eqb o.start.old t.start.new || eqb o.end.old t.start.new)))
        (sym (nil_between t.start.new t.end.new after t_in.order_new t_in.end_new)) (sym (nil_between o.start.new o.end.new here o_in.order_new o_in.end_new))
        ∙ ap (λ n. is_nil back.old && (not (is_nil other.new) && (eqb o.start.old t.start.new || eqb n t.start.new))) (sym other_ends)

    orders : turn_order t o ≡ order back other
    orders =
        ap (λ x. cond x None (cond (leb o.end.old t.start.new) (Some true) (cond (leb t.end.new o.start.old) (Some false) None))) besides
        ∙ ap₂ (λ m n. cond (is_beside back other) None (cond (leb m t.start.new) (Some true) (cond (leb n o.start.old) (Some false) None))) (sym other_ends) (sym back_ends)

    -- the place after it in the text here
    pub place_after : (place : Place) → o.start.new ≡ place.new + (o.start.old - place.old) → place.new + (other.at - place.old) + length other.new ≡ o.end.new
    place_after place step =
        let a = o_in.order_new in let b = o_in.end_new in let p = length-between here o.start.new o.end.new b in omega (arith, p, step)

  module _ (t : Turn) (old new : ℕ) (t_in : IsIn before after old new t) (last : Place) {X : Type 0} (rest : List Turn → Place → Option X) (hunks_rest : List Hunk → ℕ → ℕ → Option X)
      (goes : (left : List Turn) (place : Place) (o n : ℕ) → AreIn after here o n left → AreInStep last place left
      → rest left place ≡ hunks_rest (map (hunk_on after here) left) place.old place.new) where
    pub past_is : (others : List Turn) (place : Place) (o n : ℕ) → AreIn after here o n others → AreInStep last place others
        → turns_past t rest others place ≡ past (hunk_back before after t) hunks_rest (map (hunk_on after here) others) place.old place.new
    past_is [] place o n are steps = goes [] place o n are steps
    past_is (q ∷ others) place o n are steps =
        let back = hunk_back before after t in
        let other = hunk_on after here q in
        let left = map (hunk_on after here) others in
        let end_old = other_ends t q old new o n t_in are.0 in
        let end_new = place_after t q old new o n t_in are.0 place steps.1 in
        ap₂ (λ x y. by_order x (turns_past t rest others q.end) y) (orders t q old new o n t_in are.0) (goes (q ∷ others) place o n are steps)
        ∙ ap (λ y. by_order (order back other) y (hunks_rest (other ∷ left) place.old place.new))
        (past_is others q.end q.end.old q.end.new are.1 steps.4 ∙ sym (ap₂ (past back hunks_rest left) end_old end_new))

  pub stand_is : (ts : List Turn) (old new : ℕ) (last : Place) (others : List Turn) (place : Place) (o n : ℕ) → AreIn before after old new ts → AreIn after here o n others
      → AreInStep last place others
      → turns_stand before after ts others place ≡ stand (map (hunk_back before after) ts) (map (hunk_on after here) others) place.old place.new
  stand_is [] old new last others place o n are are_others steps = refl
  stand_is (t ∷ ts) old new last others place o n are are_others steps =
      past_is t old new are.0 last (λ left p. onto (turn_back before after t (place_of t p)) (turns_stand before after ts left p))
      (λ left b h. onto (moved_hunk (hunk_back before after t) b h) (stand (map (hunk_back before after) ts) left b h))
      (λ left p m k are_left steps_left. ap (onto (turn_back before after t (place_of t p))) (stand_is ts t.end.old t.end.new last left p m k are.1 are_left steps_left))
      others place o n are_others steps

-- ---- past one turn after another

pub in_step_fits : (last place : Place) (ts : List Turn) → AreInStep last place ts → place.new ≤ last.new
in_step_fits last place [] steps = let a = steps.0 in let b = steps.1 in omega (arith, a, b)
in_step_fits last place (t ∷ ts) steps =
    let rest = in_step_fits last t.end ts steps.4 in
    let a = steps.1 in
    let b = steps.3 in
    omega (arith, rest, a, b)

module _ (turn o : Turn) (others : List Turn) (place : Place) {X : Type 0} (rest : List Turn → Place → Option X) where
  abbrev go : Option Bool → Option X
  go which = by_order which (turns_past turn rest others o.end) (rest (o ∷ others) place)

  pub passes_one : turn_order turn o ≡ Some true → turns_past turn rest (o ∷ others) place ≡ turns_past turn rest others o.end
  passes_one is = ap go is

  pub stops_before : turn_order turn o ≡ Some false → turns_past turn rest (o ∷ others) place ≡ rest (o ∷ others) place
  stops_before is = ap go is

  pub meets_one : turn_order turn o ≡ None → turns_past turn rest (o ∷ others) place ≡ None
  meets_one is = ap go is

turn_order_tells : (turn o : Turn) (before : Bool) → turn_order turn o ≡ Some before → cond before (o.end.old ≤ turn.start.new) (turn.end.new ≤ o.start.old)
turn_order_tells turn o before is = elim (cases_Bool (is_turn_beside turn o)) [
  | inl e ↦ absurd (let none : None ≡ Some before = sym (cond-true (is_turn_beside turn o) _ _ e) ∙ is in cc)
  | inr e ↦ told before (sym (cond-false (is_turn_beside turn o) _ _ e) ∙ is)
]
  where
    told : (before : Bool) → cond (leb o.end.old turn.start.new) (Some true) (cond (leb turn.end.new o.start.old) (Some false) None) ≡ Some before
        → cond before (o.end.old ≤ turn.start.new) (turn.end.new ≤ o.start.old)
    told before is = elim (cases_Bool (leb o.end.old turn.start.new)) [
      | inl e ↦
          let yes : Some true ≡ Some before = sym (cond-true (leb o.end.old turn.start.new) _ _ e) ∙ is in
          let same : true ≡ before = cc in
          subst (λ x. cond x (o.end.old ≤ turn.start.new) (turn.end.new ≤ o.start.old)) same (leb-true o.end.old turn.start.new e)
      | inr e ↦ elim (cases_Bool (leb turn.end.new o.start.old)) [
        | inl k ↦
            let yes : Some false ≡ Some before =
            sym (cond-false (leb o.end.old turn.start.new) _ _ e ∙ cond-true (leb turn.end.new o.start.old) _ _ k) ∙ is in
            let same : false ≡ before = cc in
            subst (λ x. cond x (o.end.old ≤ turn.start.new) (turn.end.new ≤ o.start.old)) same (leb-true turn.end.new o.start.old k)
        | inr k ↦
            absurd (let none : None ≡ Some before = sym (cond-false (leb o.end.old turn.start.new) _ _ e ∙ cond-false (leb turn.end.new o.start.old) _ _ k) ∙ is in cc)
      ]
    ]

pub before_tells : (turn o : Turn) → turn_order turn o ≡ Some true → o.end.old ≤ turn.start.new
before_tells turn o is = turn_order_tells turn o true is

pub after_tells : (turn o : Turn) → turn_order turn o ≡ Some false → turn.end.new ≤ o.start.old
after_tells turn o is = turn_order_tells turn o false is

-- what is known where a turn before these, that aren't passed, ends
pub passes : (last : Place) (turn : Turn) (ahead next : Ahead) → ((rest : List Turn → Place → Option (List Hunk)) → turns_past turn rest ahead.turns.now ahead.place ≡ rest next.turns.now next.place)
    → AreInStep last next.place next.turns.now → next.place.old ≤ turn.start.new → place_of turn next.place ≤ last.new → Passes last turn ahead next
passes last turn ahead next past steps reached fits = record { past = past; in_step = steps; reached = reached; fits = fits }

pub fits_before : (last place : Place) (turn o : Turn) (others : List Turn) → AreInStep last place (o ∷ others) → turn.start.new ≤ turn.end.new → turn.end.new ≤ o.start.old
    → place_of turn place ≤ last.new
fits_before last place turn o others steps order after =
    let rest = in_step_fits last o.end others steps.4 in
    let a = steps.1 in
    let b = steps.3 in
    omega (arith, rest, a, b, order, after)

pub fits_end : (last place : Place) (turn : Turn) → AreInStep last place [] → turn.start.new ≤ turn.end.new → turn.end.new ≤ last.old → place_of turn place ≤ last.new
fits_end last place turn steps order within = let a = steps.0 in let b = steps.1 in omega (arith, a, b, order, within)

pub no_turns : (ts : List Turn) → length ts ≡ 0 → ts ≡ []
no_turns [] none = refl
no_turns (t ∷ ts) none = absurd (omega (arith, none))

-- the turn that comes next is in both texts, and so are the others after it
pub turn_in : (before after : List ℕ) (old new : ℕ) (ts : List Turn) (i : ℕ) (t d : Turn) → i < length ts → t ≡ get_or ts i d → AreIn before after old new (drop i ts)
    → IsIn before after old new t × AreIn before after t.end.old t.end.new (drop (i + 1) ts)
turn_in before after old new ts i t d there is are = subst (AreIn before after old new) (next_item ts i t d there is) are
