-- Hunks that take a change back, and later ones, are told apart exactly where strands are woven of both.
use Rattle.std.proofs.Common.{◌≡◌, ◌≢◌, ◌∙◌, ℕ, ◌+◌, ◌-◌, ◌≤◌, ◌<◌, Bool, true, false, not, cond, eqb, leb, ◌&&◌, ◌||◌, List, [], ◌∷◌, ◌++◌, length, map, drop, Option, Some, None, inl, inr}
use Rattle.std.proofs.Common.{refl, sym, ap, ap₂, subst, append_assoc, append-nil, length-append, length-drop, arith}
use Rattle.std.specs.List.{AllByRecursion}
use Rattle.std.proofs.lemmas.Bool.{cases_Bool, cond-true, cond-false, eq-eqb, ne_eqb, false≢true, le-leb, lt-leb, leb-true}
use Rattle.std.proofs.lemmas.List.{drop_at, drop-append-le}
use Rattle.rec_text.specs.Bytes.{is_nil}
use Rattle.rec_journal.specs.declared.patch.Hunk.{Hunk}
use Rattle.rec_journal.specs.Patch.{SplicesFrom}
use Rattle.rec_diff.specs.Changes.{Stretch, stays, turns, turned, hunks_at}
use Rattle.rec_diff.specs.Strands.{Strand, same, mine, later, woven, mine_part, later_part, DontMeet, AreSettled}
use Rattle.rec_diff.specs.proving.Weaving.{AreSpaced, onto, by_order, is_beside, order, past, moved_hunk, stand}

-- the hunks of strands: those that take the change back, those of the later ones, and those that take it back here
abbrev pub backs_at : ℕ → List Strand → List Hunk
backs_at at strands = hunks_at at (map turned (map (mine_part false) strands))

abbrev pub others_at : ℕ → List Strand → List Hunk
others_at at strands = hunks_at at (map (later_part true) strands)

abbrev pub standing_at : ℕ → List Strand → List Hunk
standing_at at strands = hunks_at at (map turned (map (mine_part true) strands))

-- each hunk is of something
abbrev pub AreSome : List Hunk → Type 0
AreSome hunks = AllByRecursion (λ (h : Hunk). (is_nil h.old && is_nil h.new) ≡ false) hunks

pub spaced_some : (least : ℕ) (hunks : List Hunk) → AreSpaced least hunks → AreSome hunks
spaced_some least [] far = tt
spaced_some least (h ∷ hunks) far = (far.1, spaced_some (h.at + length h.old + 1) hunks far.2)

-- the first hunk isn't before this place
abbrev pub NotBefore : ℕ → List Hunk → Type 0
NotBefore least [] = Unit {0}
NotBefore least (h ∷ hunks) = least ≤ h.at

pub hunks_at_first : (least at : ℕ) (parts : List Stretch) → least ≤ at → NotBefore least (hunks_at at parts)
hunks_at_first least at [] fits = tt
hunks_at_first least at (stays t ∷ parts) fits = hunks_at_first least (at + length t) parts (omega arith)
hunks_at_first least at (turns old new ∷ parts) fits = fits

-- ---- which of two hunks comes first

not_beside : (old new : List ℕ) (at end place : ℕ) → (old ≡ [] → new ≢ [] → (at ≢ place) × (end ≢ place))
    → (is_nil old && (not (is_nil new) && (eqb at place || eqb end place))) ≡ false
not_beside (x ∷ xs) new at end place settled = refl
not_beside [] [] at end place settled = refl
not_beside [] (n ∷ ns) at end place settled =
    let both = settled refl (λ (e : n ∷ ns ≡ []). cc) in
    ap₂ (λ x y. x || y) (ne_eqb at place both.0) (ne_eqb end place both.1)

apart_at : (p q : Bool) → (p || q) ≡ false → (p ≡ false) × (q ≡ false)
apart_at true q h = absurd (false≢true (sym h))
apart_at false q h = (refl, h)

differ : (a b : ℕ) → eqb a b ≡ false → a ≢ b
differ a b h = λ e. false≢true (sym h ∙ eq-eqb a b e)

not_beside_settled : (old new : List ℕ) (at end place : ℕ) → (is_nil old && (not (is_nil new) && (eqb at place || eqb end place))) ≡ false
    → old ≡ [] → new ≢ [] → (at ≢ place) × (end ≢ place)
not_beside_settled (x ∷ xs) new at end place h none some = absurd (let e : x ∷ xs ≡ [] = none in cc)
not_beside_settled [] [] at end place h none some = absurd (some refl)
not_beside_settled [] (n ∷ ns) at end place h none some =
    let both = apart_at (eqb at place) (eqb end place) h in (differ at place both.0, differ end place both.1)

module _ (back other : Hunk) where
  settled_apart : DontMeet back other → is_beside back other ≡ false
  settled_apart settled = not_beside back.old other.new other.at (other.at + length other.old) back.at settled

  apart_settled : is_beside back other ≡ false → DontMeet back other
  apart_settled h = not_beside_settled back.old other.new other.at (other.at + length other.old) back.at h

  comes_before : DontMeet back other → other.at + length other.old ≤ back.at → order back other ≡ Some true
  comes_before settled before =
      cond-false (is_beside back other) _ _ (settled_apart settled)
      ∙ cond-true (leb (other.at + length other.old) back.at) _ _ (le-leb (other.at + length other.old) back.at before)

  comes_after : DontMeet back other → (is_nil other.old && is_nil other.new) ≡ false → back.at + length back.old ≤ other.at → order back other ≡ Some false
  comes_after settled some after =
      cond-false (is_beside back other) _ _ (settled_apart settled)
      ∙ cond-false (leb (other.at + length other.old) back.at) _ _ (isn't_before other.old other.new back.old some settled after)
      ∙ cond-true (leb (back.at + length back.old) other.at) _ _ (le-leb (back.at + length back.old) other.at after)
    where
      isn't_before : (old new out : List ℕ) → (is_nil old && is_nil new) ≡ false
          → (out ≡ [] → new ≢ [] → (other.at ≢ back.at) × (other.at + length old ≢ back.at)) → back.at + length out ≤ other.at
          → leb (other.at + length old) back.at ≡ false
      isn't_before (o ∷ os) new out some settled after = lt-leb (other.at + length (o ∷ os)) back.at (omega arith)
      isn't_before [] [] out some settled after = absurd (false≢true (sym some))
      isn't_before [] (n ∷ ns) (x ∷ xs) some settled after = lt-leb (other.at + 0) back.at (omega arith)
      isn't_before [] (n ∷ ns) [] some settled after =
          let both = settled refl (λ (e : n ∷ ns ≡ []). cc) in
          let no : other.at ≢ back.at = both.0 in
          lt-leb (other.at + 0) back.at (omega (arith, no))

  -- what an order tells
  pub record Tells (before : Bool) : Type 0 where
    pub settled : DontMeet back other
    pub place : cond before (other.at + length other.old ≤ back.at) (back.at + length back.old ≤ other.at)

  order_tells : (before : Bool) → order back other ≡ Some before → Tells before
  order_tells before is = elim (cases_Bool (is_beside back other)) [
    | inl e ↦ absurd (let none : None ≡ Some before = sym (cond-true (is_beside back other) _ _ e) ∙ is in cc)
    | inr e ↦ told before (apart_settled e) (sym (cond-false (is_beside back other) _ _ e) ∙ is)
  ]
    where
      told : (before : Bool) → DontMeet back other
          → cond (leb (other.at + length other.old) back.at) (Some true) (cond (leb (back.at + length back.old) other.at) (Some false) None) ≡ Some before → Tells before
      told before settled is = elim (cases_Bool (leb (other.at + length other.old) back.at)) [
        | inl e ↦
            let yes : Some true ≡ Some before = sym (cond-true (leb (other.at + length other.old) back.at) _ _ e) ∙ is in
            let same : true ≡ before = cc in
            subst Tells same (record { settled = settled; place = leb-true (other.at + length other.old) back.at e })
        | inr e ↦ elim (cases_Bool (leb (back.at + length back.old) other.at)) [
          | inl k ↦
              let yes : Some false ≡ Some before =
              sym (cond-false (leb (other.at + length other.old) back.at) _ _ e ∙ cond-true (leb (back.at + length back.old) other.at) _ _ k) ∙ is in
              let same : false ≡ before = cc in
              subst Tells same (record { settled = settled; place = leb-true (back.at + length back.old) other.at k })
          | inr k ↦
              absurd
              (let none : None ≡ Some before = sym (cond-false (leb (other.at + length other.old) back.at) _ _ e ∙ cond-false (leb (back.at + length back.old) other.at) _ _ k) ∙ is in cc)
        ]
      ]

-- a hunk where it stands, and then the others
abbrev then_stand : Hunk → List Hunk → List Hunk → ℕ → ℕ → Option (List Hunk)
then_stand back backs left b h = onto (moved_hunk back b h) (stand backs left b h)

-- where one of the others comes first, by their order
abbrev stand_by : Hunk → List Hunk → Hunk → List Hunk → ℕ → ℕ → Option Bool → Option (List Hunk)
stand_by back backs o others b h which =
    by_order which (past back (then_stand back backs) others (o.at + length o.old) (h + (o.at - b) + length o.new)) (then_stand back backs (o ∷ others) b h)

-- ---- woven strands are found

pub settled_tail : (backs : List Hunk) (o : Hunk) (others : List Hunk) → AreSettled backs (o ∷ others) → AreSettled backs others
settled_tail [] o others settled = tt
settled_tail (back ∷ backs) o others settled = (settled.0.1, settled_tail backs o others settled.1)

later_first : (backs : List Hunk) (o : Hunk) (others : List Hunk) (b h : ℕ) (found : Option (List Hunk)) → NotBefore (o.at + length o.old) backs → AreSettled backs (o ∷ others)
    → stand backs others (o.at + length o.old) (h + (o.at - b) + length o.new) ≡ found → stand backs (o ∷ others) b h ≡ found
later_first [] o others b h found far settled is = is
later_first (back ∷ backs) o others b h found far settled is =
    ap (stand_by back backs o others b h) (comes_before back o settled.0.0 far) ∙ is

mine_first : (back : Hunk) (rest : List Hunk → ℕ → ℕ → Option (List Hunk)) (others : List Hunk) (b h : ℕ) → NotBefore (back.at + length back.old) others
    → AllByRecursion (DontMeet back) others → AreSome others → past back rest others b h ≡ rest others b h
mine_first back rest [] b h far settled some = refl
mine_first back rest (o ∷ others) b h far settled some =
    ap (λ x. by_order x (past back rest others (o.at + length o.old) (h + (o.at - b) + length o.new)) (rest (o ∷ others) b h)) (comes_after back o settled.0 some.0 far)

pub woven_stand : (strands : List Strand) (at to b h : ℕ) → b ≤ at → to ≡ h + (at - b) → AreSettled (backs_at at strands) (others_at at strands) → AreSome (others_at at strands)
    → stand (backs_at at strands) (others_at at strands) b h ≡ Some (standing_at to strands)
woven_stand [] at to b h fits is settled some = refl
woven_stand (same t ∷ strands) at to b h fits is settled some =
    woven_stand strands (at + length t) (to + length t) b h (omega arith) (omega (arith, is)) settled some
woven_stand (later old new ∷ strands) at to b h fits is settled some =
    let next = at + length old in
    let o : Hunk = record { at = at; old = old; new = new } in
    later_first (backs_at next strands) o (others_at next strands) b h (Some (standing_at (to + length new) strands))
    (hunks_at_first next next (map turned (map (mine_part false) strands)) (omega arith)) settled
    (woven_stand strands next (to + length new) next (h + (at - b) + length new) (omega arith) (omega (arith, is))
    (settled_tail (backs_at next strands) o (others_at next strands) settled) some.1)
woven_stand (mine old new ∷ strands) at to b h fits is settled some =
    let next = at + length new in
    let back : Hunk = record { at = at; old = new; new = old } in
    let rest : List Hunk → ℕ → ℕ → Option (List Hunk) = λ left x y. onto (moved_hunk back x y) (stand (backs_at next strands) left x y) in
    mine_first back rest (others_at next strands) b h (hunks_at_first next next (map (later_part true) strands) (omega arith)) settled.0 some
    ∙ ap₂ (λ (place : ℕ) (found : Option (List Hunk)). onto (record { at = place; old = new; new = old }) found) (sym is)
    (woven_stand strands next (to + length new) b h (omega arith) (omega (arith, is)) settled.1 some)

-- ---- what is found is woven

-- from these places of the text between and the text here on
pub record IsWoven (at to : ℕ) (backs others : List Hunk) (text : List ℕ) (found : List Hunk) : Type 0 where
  pub strands : List Strand
  pub mine_is : backs_at at strands ≡ backs
  pub later_is : others_at at strands ≡ others
  pub text_is : woven true false strands ≡ text
  pub found_is : standing_at to strands ≡ found

nothing_woven : (at to : ℕ) (text : List ℕ) → IsWoven at to [] [] text []
nothing_woven at to text = record { strands = same text ∷ []; mine_is = refl; later_is = refl; text_is = append-nil text; found_is = refl }

put_later : (at to next : ℕ) (backs others : List Hunk) (o : Hunk) (kept rest text : List ℕ) (found : List Hunk) → at + length kept ≡ o.at → text ≡ kept ++ (o.old ++ rest)
    → next ≡ to + length kept + length o.new → IsWoven (o.at + length o.old) next backs others rest found → IsWoven at to backs (o ∷ others) text found
put_later at to next backs others o kept rest text found place text_is next_is w = record {
  strands = same kept ∷ later o.old o.new ∷ w.strands;
  mine_is = ap (λ p. backs_at (p + length o.old) w.strands) place ∙ w.mine_is;
  later_is = ap (λ p. record { at = p; old = o.old; new = o.new } ∷ others_at (p + length o.old) w.strands) place ∙ ap (o ∷◌) w.later_is;
  text_is = ap (λ t. kept ++ (o.old ++ t)) w.text_is ∙ sym text_is;
  found_is = ap (λ p. standing_at p w.strands) (sym next_is) ∙ w.found_is;
}

put_mine : (at to next : ℕ) (backs others : List Hunk) (back moved : Hunk) (kept rest text : List ℕ) (found : List Hunk) → at + length kept ≡ back.at
    → text ≡ kept ++ (back.old ++ rest) → next ≡ to + length kept + length back.old → moved ≡ record { at = to + length kept; old = back.old; new = back.new }
    → IsWoven (back.at + length back.old) next backs others rest found → IsWoven at to (back ∷ backs) others text (moved ∷ found)
put_mine at to next backs others back moved kept rest text found place text_is next_is moved_is w = record {
  strands = same kept ∷ mine back.new back.old ∷ w.strands;
  mine_is = ap (λ p. record { at = p; old = back.old; new = back.new } ∷ backs_at (p + length back.old) w.strands) place ∙ ap (back ∷◌) w.mine_is;
  later_is = ap (λ p. others_at (p + length back.old) w.strands) place ∙ w.later_is;
  text_is = ap (λ t. kept ++ (back.old ++ t)) w.text_is ∙ sym text_is;
  found_is = ap₂ (λ x xs. x ∷ xs) (sym moved_is) (ap (λ p. standing_at p w.strands) (sym next_is) ∙ w.found_is);
}

-- hunks lead on after a text that none of them reaches
pub leads_after : (place : ℕ) (hunks : List Hunk) (first rest text after : List ℕ) → text ≡ first ++ rest → NotBefore (place + length first) hunks → SplicesFrom place hunks text after
    → (later : List ℕ) × SplicesFrom (place + length first) hunks rest later
leads_after place [] first rest text after is far leads = (rest, refl)
leads_after place (h ∷ hunks) first rest text after is far (kept, rest_text, rest_after, at, text_is, after_is, more) =
    let count : length first ≤ length kept = omega (arith, at, far) in
    let whole : first ++ rest ≡ kept ++ (h.old ++ rest_text) = sym is ∙ text_is in
    let rest_is : rest ≡ drop (length first) kept ++ (h.old ++ rest_text) =
    sym (drop_at first rest (length first) refl) ∙ ap (drop (length first)) whole ∙ drop-append-le (length first) kept (h.old ++ rest_text) count in (
      drop (length first) kept ++ (h.new ++ rest_after),
      (drop (length first) kept, rest_text, rest_after, omega (arith, at, count, length-drop (length first) kept), rest_is, refl, more),
    )

-- what is found of these hunks is woven, whatever the others
abbrev IsSoundWith : List Hunk → List Hunk → Type 0
IsSoundWith backs others = (at to b h : ℕ) (text before here : List ℕ) → b ≤ at → to ≡ h + (at - b) → SplicesFrom at backs text before → SplicesFrom at others text here
    → (found : List Hunk) → stand backs others b h ≡ Some found → IsWoven at to backs others text found

abbrev IsSound : List Hunk → Type 0
IsSound backs = (others : List Hunk) → IsSoundWith backs others

later_alone : IsSound []
later_alone [] at to b h text before here fits to_is back_leads leads found is =
    let none : [] ≡ found = cc in subst (IsWoven at to [] [] text) none (nothing_woven at to text)
later_alone (o ∷ others) at to b h text before here fits to_is back_leads (kept, rest, rest_here, place, text_is, here_is, more) found is =
    let next = to + length kept + length o.new in
    put_later at to next [] others o kept rest text found place text_is refl
    (later_alone others (o.at + length o.old) next (o.at + length o.old) next rest rest rest_here (omega arith) (omega arith) refl more found is)

onto_some : {X : Type 0} (x : X) (rest : Option (List X)) (found : List X) → onto x rest ≡ Some found → (xs : List X) × (rest ≡ Some xs) × (found ≡ x ∷ xs)
onto_some x None found is = absurd cc
onto_some x (Some xs) found is = (xs, refl, let e : Some (x ∷ xs) ≡ Some found = is in cc)

module _ (back : Hunk) (backs : List Hunk) (sound : IsSound backs) where
  mine_next : (others : List Hunk) (at to b h : ℕ) (text before here : List ℕ) → b ≤ at → to ≡ h + (at - b) → SplicesFrom at (back ∷ backs) text before → SplicesFrom at others text here
      → NotBefore (back.at + length back.old) others → (found : List Hunk) → then_stand back backs others b h ≡ Some found → IsWoven at to (back ∷ backs) others text found
  mine_next others at to b h text before here fits to_is (kept, rest, rest_before, place, text_is, before_is, more) leads far found is =
      let some = onto_some (moved_hunk back b h) (stand backs others b h) found is in
      let next = to + length kept + length back.old in
      let count : at + length (kept ++ back.old) ≡ back.at + length back.old = omega (arith, place, length-append kept back.old) in
      let whole : text ≡ (kept ++ back.old) ++ rest = text_is ∙ sym (append_assoc kept back.old rest) in
      let there = leads_after at others (kept ++ back.old) rest text here whole (subst (λ n. NotBefore n others) (sym count) far) leads in
      let lead : SplicesFrom (back.at + length back.old) others rest there.0 = subst (λ n. SplicesFrom n others rest there.0) count there.1 in
      let stands : h + (back.at - b) ≡ to + length kept = omega (arith, place, to_is, fits) in
      let w = sound others (back.at + length back.old) next b h rest rest_before there.0 (omega (arith, place)) (omega (arith, place, to_is, fits)) more lead some.0 some.1 in
      subst (IsWoven at to (back ∷ backs) others text) (sym some.2)
      (put_mine at to next backs others back (moved_hunk back b h) kept rest text some.0 place text_is refl (ap (λ p. record { at = p; old = back.old; new = back.new }) stands) w)

  goes_past_one : (o : Hunk) (others : List Hunk) → IsSoundWith (back ∷ backs) others → IsSoundWith (back ∷ backs) (o ∷ others)
  goes_past_one o others rest_sound at to b h text before here fits to_is back_leads leads found is =
      by_cases (order back o) refl
    where
      by_cases : (which : Option Bool) → order back o ≡ which → IsWoven at to (back ∷ backs) (o ∷ others) text found
      by_cases None e = absurd (let none : None ≡ Some found = sym (ap (stand_by back backs o others b h) e) ∙ is in cc)
      by_cases (Some true) e =
          let tells = order_tells back o true e in
          let kept = leads.0 in
          let rest = leads.1 in
          let place = leads.3 in
          let next = to + length kept + length o.new in
          let count : at + length (kept ++ o.old) ≡ o.at + length o.old = omega (arith, place, length-append kept o.old) in
          let whole : text ≡ (kept ++ o.old) ++ rest = leads.4 ∙ sym (append_assoc kept o.old rest) in
          let far : at + length (kept ++ o.old) ≤ back.at = omega (arith, count, tells.place) in
          let there = leads_after at (back ∷ backs) (kept ++ o.old) rest text before whole far back_leads in
          let lead : SplicesFrom (o.at + length o.old) (back ∷ backs) rest there.0 = subst (λ n. SplicesFrom n (back ∷ backs) rest there.0) count there.1 in
          let found_is : past back (then_stand back backs) others (o.at + length o.old) (h + (o.at - b) + length o.new) ≡ Some found =
          sym (ap (stand_by back backs o others b h) e) ∙ is in
          put_later at to next (back ∷ backs) others o kept rest text found place leads.4 refl
          (rest_sound (o.at + length o.old) next (o.at + length o.old) (h + (o.at - b) + length o.new) rest there.0 leads.2 (omega arith) (omega (arith, place, to_is, fits)) lead leads.6
          found found_is)
      by_cases (Some false) e =
          let tells = order_tells back o false e in
          mine_next (o ∷ others) at to b h text before here fits to_is back_leads leads tells.place found
          (sym (ap (stand_by back backs o others b h) e) ∙ is)

  goes_past : IsSound (back ∷ backs)
  goes_past [] = λ at to b h text before here fits to_is back_leads leads found is. mine_next [] at to b h text before here fits to_is back_leads leads tt found is
  goes_past (o ∷ others) = goes_past_one o others (goes_past others)

pub stand_woven : (backs : List Hunk) → IsSound backs
stand_woven [] = later_alone
stand_woven (back ∷ backs) = goes_past back backs (stand_woven backs)

-- ---- what is found is settled

settled_none : (backs : List Hunk) → AreSettled backs []
settled_none [] = tt
settled_none (back ∷ backs) = (tt, settled_none backs)

settled_cons : (backs : List Hunk) (o : Hunk) (others : List Hunk) → AllByRecursion (λ back. DontMeet back o) backs → AreSettled backs others → AreSettled backs (o ∷ others)
settled_cons [] o others first rest = tt
settled_cons (back ∷ backs) o others first rest = ((first.0, rest.0), settled_cons backs o others first.1 rest.1)

far_after : (least : ℕ) (backs : List Hunk) (o : Hunk) → AreSpaced least backs → o.at + length o.old < least → AllByRecursion (λ back. DontMeet back o) backs
far_after least [] o far before = tt
far_after least (back ∷ backs) o far before =
    let place : least ≤ back.at = far.0 in (
      λ none some. (λ e. let k : o.at ≡ back.at = e in omega (arith, place, before), λ e. let k : o.at + length o.old ≡ back.at = e in omega (arith, place, before)),
      far_after (back.at + length back.old + 1) backs o far.2 (omega (arith, place, before)),
    )

far_before : (least : ℕ) (others : List Hunk) (back : Hunk) → AreSpaced least others → back.at < least → AllByRecursion (DontMeet back) others
far_before least [] back far before = tt
far_before least (o ∷ others) back far before =
    let place : least ≤ o.at = far.0 in (
      λ none some. (λ e. let k : o.at ≡ back.at = e in omega (arith, place, before), λ e. let k : o.at + length o.old ≡ back.at = e in omega (arith, place, before)),
      far_before (o.at + length o.old + 1) others back far.2 (omega (arith, place, before)),
    )

abbrev SettlesWith : List Hunk → List Hunk → Type 0
SettlesWith backs others = (b h least : ℕ) → AreSpaced least others → (found : List Hunk) → stand backs others b h ≡ Some found → AreSettled backs others

abbrev Settles : List Hunk → Type 0
Settles backs = (others : List Hunk) → SettlesWith backs others

module _ (back : Hunk) (backs : List Hunk) (far : AreSpaced (back.at + length back.old + 1) backs) (settles : Settles backs) where
  rest_settles : (others : List Hunk) (b h least : ℕ) → AreSpaced least others → (found : List Hunk) → then_stand back backs others b h ≡ Some found → AreSettled backs others
  rest_settles others b h least spaced found is =
      let some = onto_some (moved_hunk back b h) (stand backs others b h) found is in settles others b h least spaced some.0 some.1

  settles_past_one : (o : Hunk) (others : List Hunk) → SettlesWith (back ∷ backs) others → SettlesWith (back ∷ backs) (o ∷ others)
  settles_past_one o others rest_settled b h least spaced found is = by_cases (order back o) refl
    where
      by_cases : (which : Option Bool) → order back o ≡ which → AreSettled (back ∷ backs) (o ∷ others)
      by_cases None e = absurd (let none : None ≡ Some found = sym (ap (stand_by back backs o others b h) e) ∙ is in cc)
      by_cases (Some true) e =
          let tells = order_tells back o true e in
          let place : o.at + length o.old ≤ back.at = tells.place in
          let rest = rest_settled (o.at + length o.old) (h + (o.at - b) + length o.new) (o.at + length o.old + 1) spaced.2 found
          (sym (ap (stand_by back backs o others b h) e) ∙ is) in
          ((tells.settled, rest.0), settled_cons backs o others (far_after (back.at + length back.old + 1) backs o far (omega (arith, place))) rest.1)
      by_cases (Some false) e =
          let tells = order_tells back o false e in
          let place : back.at + length back.old ≤ o.at = tells.place in (
            (tells.settled, far_before (o.at + length o.old + 1) others back spaced.2 (omega (arith, place))),
            rest_settles (o ∷ others) b h least spaced found (sym (ap (stand_by back backs o others b h) e) ∙ is),
          )

  settles_past : Settles (back ∷ backs)
  settles_past [] = λ b h least spaced found is. settled_none (back ∷ backs)
  settles_past (o ∷ others) = settles_past_one o others (settles_past others)

pub stand_settled : (backs : List Hunk) (least : ℕ) → AreSpaced least backs → Settles backs
stand_settled [] least far = λ others b h other spaced found is. tt
stand_settled (back ∷ backs) least far = settles_past back backs far.2 (stand_settled backs (back.at + length back.old + 1) far.2)
