-- How definitions are resolved: what is right so far, and what a way from one to another tells.
use Rattle.std.proofs.Common.{◌≡◌, ◌∙◌, ◌⊎◌, inl, inr, ℕ, zero, suc, ◌+◌, ◌<◌, ◌≤◌, Bool, true, false, ◌||◌, cond, eqb, eq-eqb, List, [], ◌∷◌, ◌++◌, length, length-append, map, set, get_or, Option}
use Rattle.std.proofs.Common.{Some, None, refl, ap, sym, subst, arith}
use Rattle.std.specs.Prelude.{if◌then◌else◌}
use Rattle.std.proofs.lemmas.Bool.{cases_Bool, cases_eq, cases_lt, eqb-true, ne_eqb, false≢true}
use Rattle.std.proofs.lemmas.List.{length-set}
use Rattle.std.proofs.lemmas.List.Folds.{list_any_at}
use Rattle.std.proofs.lemmas.Option.{slice_get-get_or, slice_get-map, slice_get_past, slice_get_within, same_Some, none-some}
use Rattle.std.specs.Borrow.{Bor}
use Rattle.std.specs.List.{slice_get}
use Rattle.std.specs.Option.{option_map, option_and_then}
use Rattle.std.specs.Str.{bytes_eq}
use Rattle.regex.specs.Patterns.{Re}
use Rattle.rec_check.specs.declared.field_types.field_type.FieldType.{FieldType as StoredType}
use Rattle.rec_check.specs.declared.field_types.resolution.Meaning.{Meaning}
use Rattle.rec_check.specs.declared.field_types.resolution.Meaning.TheVariants.{SameAs, Settled}
use Rattle.rec_check.specs.Meanings.{IsMeaning, meaning_in}
use Rattle.rec_check.specs.proving.Resolved.{AreAtWork, AreLastPlaces, AreRight, AreSettledAt, ArePlacesWithin, IsAhead, IsRight, StaySettled, is_at, meant, next_in, open_at, settled_at, type_in}
use Rattle.rec_check.proofs.lemmas.field_types.LastLemmas.{FindLast-nil, FindLast-more, slice_get-end, slice_get-prefix}
use Rattle.rec_check.specs.Resolving.{is_known_kind, last_definition, LeadsTo}
use Rattle.rec_check.specs.Types.{FieldType, Definition}
use Rattle.rec_check.proofs.lemmas.field_types.MeaningLemmas.{one_meaning, same_steps, meaning_in-resolves, resolves-meaning_in}

abbrev MeantType : Type 0
MeantType = FieldType Re

abbrev BorrowedType : Type 0
BorrowedType = Option (Bor StoredType)

-- ---- elements at places

module _ {X : Type 0} where
  slice_get_some : (xs : List X) (i : ℕ) → i < length xs → (x : X) × (slice_get xs i ≡ Some x)
  slice_get_some [] i within = absurd (omega arith)
  slice_get_some (x ∷ xs) zero within = (x, refl)
  slice_get_some (x ∷ xs) (suc i) within = slice_get_some xs i (omega arith)

  slice_get-set_same : (xs : List X) (i : ℕ) (y : X) → i < length xs → slice_get (set xs i y) i ≡ Some y
  slice_get-set_same [] i y within = absurd (omega arith)
  slice_get-set_same (x ∷ xs) zero y within = refl
  slice_get-set_same (x ∷ xs) (suc i) y within = slice_get-set_same xs i y (omega arith)

  slice_get-set_other : (xs : List X) (i j : ℕ) (y : X) → (j ≡ i → ⊥) → slice_get (set xs i y) j ≡ slice_get xs j
  slice_get-set_other [] i j y apart = refl
  slice_get-set_other (x ∷ xs) zero zero y apart = absurd (apart refl)
  slice_get-set_other (x ∷ xs) zero (suc j) y apart = refl
  slice_get-set_other (x ∷ xs) (suc i) zero y apart = refl
  slice_get-set_other (x ∷ xs) (suc i) (suc j) y apart = slice_get-set_other xs i j y (λ same. apart (ap suc same))

-- ---- lists of places

is_at-push : (places : List ℕ) (last place : ℕ) → is_at (places ++ last ∷ []) place ≡ (is_at places place || eqb last place)
is_at-push [] last place = elim (cases_Bool (eqb last place)) [ inl same ↦ rw same refl | inr other ↦ rw other refl ]
is_at-push (first ∷ places) last place = elim (cases_Bool (eqb first place)) [ inl same ↦ rw same refl | inr other ↦ rw other (is_at-push places last place) ]

is_at-before : (places : List ℕ) (last place : ℕ) → is_at places place ≡ true → is_at (places ++ last ∷ []) place ≡ true
is_at-before places last place among = is_at-push places last place ∙ ap (λ b. b || eqb last place) among

or_true : (b : Bool) → (b || true) ≡ true
or_true true = refl
or_true false = refl

is_at-last : (places : List ℕ) (last : ℕ) → is_at (places ++ last ∷ []) last ≡ true
is_at-last places last = is_at-push places last last ∙ ap (λ b. is_at places last || b) (eq-eqb last last refl) ∙ or_true (is_at places last)

is_at-either : (places : List ℕ) (last place : ℕ) → is_at (places ++ last ∷ []) place ≡ true → (is_at places place ≡ true) ⊎ (last ≡ place)
is_at-either places last place among = elim (cases_Bool (is_at places place)) [
  | inl before ↦ inl before
  | inr not_before ↦ inr (eqb-true last place (sym (is_at-push places last place ∙ ap (λ b. b || eqb last place) not_before) ∙ among))
]

-- ---- the last definitions

pub AreLastPlaces-nil : (place : List ℕ → Option ℕ) → ((name : List ℕ) → place name ≡ None) → AreLastPlaces [] place
AreLastPlaces-nil place nowhere = FindLast-nil (λ definition name. bytes_eq definition.name name) place nowhere

pub AreLastPlaces-more : (definitions more : List Definition) (last : Definition) (own : List ℕ) (place next : List ℕ → Option ℕ) (at : ℕ) → AreLastPlaces definitions place
    → more ≡ definitions ++ last ∷ []
    → at ≡ length definitions → own ≡ last.name → ((name : List ℕ) → next name ≡ cond (bytes_eq own name) (Some at) (place name)) → AreLastPlaces more next
AreLastPlaces-more definitions more last own place next at are more_is at_is own_is put =
    FindLast-more (λ definition name. bytes_eq definition.name name) definitions more last place next at are more_is at_is
    (λ name. put name ∙ ap (λ n. cond (bytes_eq n name) (Some at) (place name)) own_is)

-- ---- one step

module _ (definitions : List Definition) where
  module _ (kind : List ℕ) (own : MeantType) (next : Definition) (unknown : is_known_kind kind ≡ false) (last : last_definition definitions kind ≡ Some next) where
    nearer_by_one : (value_type : MeantType) (steps : List Definition) → LeadsTo definitions kind own steps value_type
        → (rest : List Definition) × (length rest < length steps) × LeadsTo definitions next.kind next.value_type rest value_type
    nearer_by_one value_type [] leads = absurd (false≢true (sym unknown ∙ leads.0))
    nearer_by_one value_type (step ∷ steps) leads =
        (steps, omega arith, subst (λ (d : Definition). LeadsTo definitions d.kind d.value_type steps value_type) (same_Some _ _ (sym leads.1 ∙ last)) leads.2)

    step_meaning : (answer : Option MeantType) → IsMeaning definitions next.kind next.value_type answer → IsMeaning definitions kind own answer
    step_meaning (Some value_type) resolves = (next ∷ resolves.0, (unknown, last, resolves.1))
    step_meaning None none = λ value_type resolves. let near = nearer_by_one value_type resolves.0 resolves.1 in none value_type (near.0, near.2)

    pub meaning_in-step : meaning_in definitions kind own ≡ meaning_in definitions next.kind next.value_type
    meaning_in-step =
        let there : Option MeantType = meaning_in definitions next.kind next.value_type in
        sym ((one_meaning definitions kind own there).0 (step_meaning there ((one_meaning definitions next.kind next.value_type there).1 refl)))

  pub meaning_in-known : (kind : List ℕ) (own : MeantType) → is_known_kind kind ≡ true → meaning_in definitions kind own ≡ Some own
  meaning_in-known kind own known = meaning_in-resolves definitions kind own own ([], (known, refl))

  no_steps : (kind : List ℕ) (own value_type : MeantType) (steps : List Definition) → is_known_kind kind ≡ false → last_definition definitions kind ≡ None
      → LeadsTo definitions kind own steps value_type → ⊥
  no_steps kind own value_type [] unknown none leads = false≢true (sym unknown ∙ leads.0)
  no_steps kind own value_type (step ∷ steps) unknown none leads = none-some step (sym none ∙ leads.1)

  pub meaning_in-undefined : (kind : List ℕ) (own : MeantType) → is_known_kind kind ≡ false → last_definition definitions kind ≡ None → None ≡ meaning_in definitions kind own
  meaning_in-undefined kind own unknown none = (one_meaning definitions kind own None).0 (λ value_type resolves. no_steps kind own value_type resolves.0 unknown none resolves.1)

  -- ---- many steps

  IsAhead-step : (first second : Definition) → is_known_kind first.kind ≡ false → last_definition definitions first.kind ≡ Some second → IsAhead definitions first second
  IsAhead-step first second unknown last = record {
    same = meaning_in-step first.kind first.value_type second unknown last;
    nearer = nearer_by_one first.kind first.value_type second unknown last;
  }

  IsAhead-more : (first second third : Definition) → IsAhead definitions first second → IsAhead definitions second third → IsAhead definitions first third
  IsAhead-more first second third one two = record {
    same = one.same ∙ two.same;
    nearer = λ value_type steps leads.
        let near = one.nearer value_type steps leads in
        let nearer = two.nearer value_type near.0 near.2 in
        (nearer.0, omega (arith, near.1, nearer.1), nearer.2);
  }

  ahead_of_itself : (one : Definition) (found : Option MeantType) → IsAhead definitions one one → meaning_in definitions one.kind one.value_type ≡ found → None ≡ found
  ahead_of_itself one None ahead is = refl
  ahead_of_itself one (Some value_type) ahead is =
      let resolves = resolves-meaning_in definitions one.kind one.value_type value_type is in
      let near = ahead.nearer value_type resolves.0 resolves.1 in
      let same : length near.0 ≡ length resolves.0 = ap length (same_steps definitions one.kind one.value_type one.value_type value_type value_type near.0 resolves.0 near.2 resolves.1) in
      absurd (omega (arith, near.1))

  -- ---- what a definition alone says

  module _ (place : List ℕ → Option ℕ) (are : AreLastPlaces definitions place) (definition : Definition) where
    pub IsRight-known : is_known_kind definition.kind ≡ true → Some definition.value_type ≡ meaning_in definitions definition.kind definition.value_type
    IsRight-known known = sym (meaning_in-known definition.kind definition.value_type known)

    pub IsRight-undefined : is_known_kind definition.kind ≡ false → place definition.kind ≡ None → IsRight definitions definition (Settled None)
    IsRight-undefined unknown nowhere = meaning_in-undefined definition.kind definition.value_type unknown (sym (are.finds definition.kind) ∙ ap (option_and_then (slice_get definitions)) nowhere)

    pub IsRight-defined : (at : ℕ) → is_known_kind definition.kind ≡ false → place definition.kind ≡ Some at → IsRight definitions definition (SameAs at)
    IsRight-defined at unknown is =
        let next = slice_get_some definitions at (are.below definition.kind at is) in
        (unknown, (next.0, next.1, sym (are.finds definition.kind) ∙ ap (option_and_then (slice_get definitions)) is ∙ next.1))

  -- ---- each definition

  -- right for the definitions so far
  pub record AreRightSoFar (count : ℕ) (meanings : List Meaning) : Type 0 where
    pub size : length meanings ≡ count
    pub below : count ≤ length definitions
    pub right : (place : ℕ) (definition : Definition) (meaning : Meaning) → slice_get definitions place ≡ Some definition → slice_get meanings place ≡ Some meaning
        → IsRight definitions definition meaning

  pub AreRightSoFar-nil : (meanings : List Meaning) → meanings ≡ [] → AreRightSoFar 0 meanings
  AreRightSoFar-nil meanings none = record {
    size = ap length none;
    below = omega arith;
    right = λ place definition meaning at is. absurd (none-some meaning (sym (ap (λ l. slice_get l place) none) ∙ is));
  }

  pub AreRightSoFar-more : (count : ℕ) (meanings more : List Meaning) (own : Definition) (last : Meaning) → AreRightSoFar count meanings → slice_get definitions count ≡ Some own
      → IsRight definitions own last
      → more ≡ meanings ++ last ∷ [] → AreRightSoFar (count + 1) more
  AreRightSoFar-more count meanings more own last so_far at_own right more_is =
      let within : count < length definitions = slice_get_within definitions count own at_own in
      let size : length more ≡ length meanings + 1 = ap length more_is ∙ length-append meanings (last ∷ []) in
      record {
        size = omega (arith, so_far.size);
        below = omega arith;
        right = λ place definition meaning at is. elim (cases_lt place (length meanings)) [
          | inl before ↦ so_far.right place definition meaning at (sym (ap (λ l. slice_get l place) more_is ∙ slice_get-prefix meanings last place before) ∙ is)
          | inr following ↦
              let below : place < length more = slice_get_within more place meaning is in
              let here : place ≡ length meanings = omega arith in
              let there : place ≡ count = here ∙ so_far.size in
              let the_meaning : last ≡ meaning = same_Some _ _ (sym (ap (λ l. slice_get l place) more_is ∙ ap (slice_get (meanings ++ last ∷ [])) here ∙ slice_get-end meanings last) ∙ is) in
              let the_definition : own ≡ definition = same_Some _ _ (sym (ap (slice_get definitions) there ∙ at_own) ∙ at) in
              subst (λ (d : Definition). IsRight definitions d meaning) the_definition (subst (λ (m : Meaning). IsRight definitions own m) the_meaning right)
        ];
      }

  pub AreRightSoFar-all : (count : ℕ) (meanings : List Meaning) → AreRightSoFar count meanings → length definitions ≤ count → AreRight definitions meanings
  AreRightSoFar-all count meanings so_far all = record { size = omega (arith, so_far.size, so_far.below); right = so_far.right }

  -- ---- on the way

  pub AreAtWork-nil : (meanings : List Meaning) (passed : List ℕ) (at : ℕ) → AreRight definitions meanings → passed ≡ [] → AreAtWork definitions passed at meanings
  AreAtWork-nil meanings passed at are none = record {
    size = are.size;
    right = λ place definition meaning found is. inl (are.right place definition meaning found is);
    ahead = λ place among. absurd (false≢true (sym (ap (λ l. is_at l place) none) ∙ among));
  }

  open_meaning : (found : Option Meaning) (next : ℕ) → option_and_then next_in found ≡ Some next → found ≡ Some (SameAs next)
  open_meaning None next is = absurd (none-some next is)
  open_meaning (Some (SameAs place)) next is = ap (λ n. Some (SameAs n)) (same_Some _ _ is)
  open_meaning (Some (Settled value_type)) next is = absurd (none-some next is)

  not_settled : (next : ℕ) (value_type : BorrowedType) → SameAs next ≡ Settled value_type → ⊥
  not_settled next value_type same = none-some next (sym (ap next_in same))

  module _ (passed : List ℕ) (at next : ℕ) (meanings : List Meaning) (work : AreAtWork definitions passed at meanings) (is : open_at meanings at ≡ Some next) where
    own_meaning : slice_get meanings at ≡ Some (SameAs next)
    own_meaning = open_meaning (slice_get meanings at) next is

    own_within : at < length meanings
    own_within = slice_get_within meanings at (SameAs next) own_meaning

    own_definition : (own : Definition) × (slice_get definitions at ≡ Some own)
    own_definition = slice_get_some definitions at (let size = work.size in let within = own_within in omega arith)

    own_step : IsRight definitions own_definition.0 (SameAs next)
    own_step = elim (work.right at own_definition.0 (SameAs next) own_definition.1 own_meaning) [ inl right ↦ right | inr back ↦ absurd (not_settled next None back.1) ]

    own_ahead : IsAhead definitions own_definition.0 own_step.1.0
    own_ahead = IsAhead-step own_definition.0 own_step.1.0 own_step.0 own_step.1.2

    ahead_then : (place : ℕ) → is_at (passed ++ at ∷ []) place ≡ true
        → (first : Definition) × (slice_get definitions place ≡ Some first) × ((second : Definition) × (slice_get definitions next ≡ Some second) × IsAhead definitions first second)
    ahead_then place among = elim (is_at-either passed at place among) [
      | inl before ↦
          let way = work.ahead place before in
          let same : way.2.0 ≡ own_definition.0 = same_Some _ _ (sym way.2.1 ∙ own_definition.1) in
          (way.0, way.1, (own_step.1.0, own_step.1.1, IsAhead-more way.0 own_definition.0 own_step.1.0 (subst (λ (d : Definition). IsAhead definitions way.0 d) same way.2.2) own_ahead))
      | inr here ↦ (own_definition.0, ap (slice_get definitions) (sym here) ∙ own_definition.1, (own_step.1.0, own_step.1.1, own_ahead))
    ]

    right_then : (place : ℕ) (definition : Definition) (meaning : Meaning) → slice_get definitions place ≡ Some definition → slice_get (set meanings at (Settled None)) place ≡ Some meaning
        → IsRight definitions definition meaning ⊎ ((is_at (passed ++ at ∷ []) place ≡ true) × (meaning ≡ Settled None))
    right_then place definition meaning found stands = elim (cases_eq place at) [
      | inl here ↦ inr (
        ap (is_at (passed ++ at ∷ [])) here ∙ is_at-last passed at,
        same_Some _ _ (sym stands ∙ ap (slice_get (set meanings at (Settled None))) here ∙ slice_get-set_same meanings at (Settled None) own_within),
      )
      | inr apart ↦ elim (work.right place definition meaning found (sym (slice_get-set_other meanings at place (Settled None) apart) ∙ stands)) [
        | inl right ↦ inl right
        | inr none ↦ inr (is_at-before passed at place none.0, none.1)
      ]
    ]

    AreAtWork-step : AreAtWork definitions (passed ++ at ∷ []) next (set meanings at (Settled None))
    AreAtWork-step = record { size = length-set meanings at (Settled None) ∙ work.size; right = right_then; ahead = ahead_then }

  pub AreAtWork-more : (passed more : List ℕ) (at next : ℕ) (meanings later : List Meaning) → open_at meanings at ≡ Some next → more ≡ passed ++ at ∷ [] → later ≡ set meanings at (Settled None)
      → AreAtWork definitions passed at meanings → AreAtWork definitions more next later
  AreAtWork-more passed more at next meanings later is more_is later_is work =
      subst (λ l. AreAtWork definitions l next later) (sym more_is) (subst (λ l. AreAtWork definitions (passed ++ at ∷ []) next l) (sym later_is) (AreAtWork-step passed at next meanings work is))

  -- ---- at the end of the way

  module _ (meanings : List Meaning) (at : ℕ) (closed : open_at meanings at ≡ None) where
    settled_type : (meaning : Meaning) → slice_get meanings at ≡ Some meaning → Settled (settled_at meanings at) ≡ meaning
    settled_type (SameAs next) is = absurd (none-some next (sym closed ∙ ap (option_and_then next_in) is))
    settled_type (Settled value_type) is = ap (λ found. Settled (option_and_then type_in found)) is

  module _ (passed : List ℕ) (at : ℕ) (meanings new : List Meaning) (work : AreAtWork definitions passed at meanings) (closed : open_at meanings at ≡ None)
      (settled : AreSettledAt passed (settled_at meanings at) meanings new) where
    end_right : (second : Definition) → slice_get definitions at ≡ Some second → meant (settled_at meanings at) ≡ meaning_in definitions second.kind second.value_type
    end_right second found =
        let own = slice_get_some meanings at (let size = work.size in let within = slice_get_within definitions at second found in omega arith) in
        let same : Settled (settled_at meanings at) ≡ own.0 = settled_type meanings at closed own.0 own.1 in
        elim (work.right at second own.0 found own.1) [
          | inl right ↦ subst (λ (m : Meaning). IsRight definitions second m) (sym same) right
          | inr back ↦
              let way = work.ahead at back.0 in
              let first : way.0 ≡ second = same_Some _ _ (sym way.1 ∙ found) in
              let last : way.2.0 ≡ second = same_Some _ _ (sym way.2.1 ∙ found) in
              let round : IsAhead definitions second second = subst (λ (d : Definition). IsAhead definitions d second) first (subst (λ (d : Definition). IsAhead definitions way.0 d) last way.2.2) in
              ap (λ m. meant (type_in m)) (same ∙ back.1) ∙ ahead_of_itself second (meaning_in definitions second.kind second.value_type) round refl
        ]

    right_at_end : (place : ℕ) (definition : Definition) (meaning : Meaning) → slice_get definitions place ≡ Some definition → slice_get new place ≡ Some meaning
        → IsRight definitions definition meaning
    right_at_end place definition meaning found stands =
        let within : place < length meanings = (let size = work.size in let below = slice_get_within definitions place definition found in omega arith) in
        elim (cases_Bool (is_at passed place)) [
          | inl among ↦
              let way = work.ahead place among in
              let first : way.0 ≡ definition = same_Some _ _ (sym way.1 ∙ found) in
              let now : Settled (settled_at meanings at) ≡ meaning = same_Some _ _ (sym (settled.each place within
              ∙ ap (λ b. cond b (Some (Settled (settled_at meanings at))) (slice_get meanings place)) among) ∙ stands) in
              subst (λ (m : Meaning). IsRight definitions definition m) now (end_right way.2.0 way.2.1 ∙ sym way.2.2.same ∙ ap (λ d. meaning_in definitions d.kind d.value_type) first)
          | inr other ↦ elim (work.right place definition meaning found (sym (settled.each place within ∙ ap (λ b. cond b (Some (Settled (settled_at meanings at))) (slice_get meanings place)) other)
              ∙ stands)) [
                | inl right ↦ right
                | inr back ↦ absurd (false≢true (sym other ∙ back.0))
              ]
        ]

    pub AreRight-settled : AreRight definitions new
    AreRight-settled = record { size = settled.size ∙ work.size; right = right_at_end }

  -- ---- the answer

  module _ (place : List ℕ → Option ℕ) (meanings : List Meaning) (are : AreLastPlaces definitions place) (right : AreRight definitions meanings) (closed : (at : ℕ) → open_at meanings at ≡ None) where
    found_meaning : (kind : List ℕ) (own : MeantType) (found : Option ℕ) → is_known_kind kind ≡ false → place kind ≡ found
        → option_and_then (λ at. meant (settled_at meanings at)) found ≡ meaning_in definitions kind own
    found_meaning kind own None unknown is = meaning_in-undefined kind own unknown (sym (are.finds kind) ∙ ap (option_and_then (slice_get definitions)) is)
    found_meaning kind own (Some at) unknown is =
        let within : at < length definitions = are.below kind at is in
        let next = slice_get_some definitions at within in
        let known = slice_get_some meanings at (let size = right.size in omega arith) in
        let own_right : IsRight definitions next.0 (Settled (settled_at meanings at)) =
        subst (λ (m : Meaning). IsRight definitions next.0 m) (sym (settled_type meanings at (closed at) known.0 known.1)) (right.right at next.0 known.0 next.1 known.1) in
        own_right ∙ sym (meaning_in-step kind own next.0 unknown (sym (are.finds kind) ∙ ap (option_and_then (slice_get definitions)) is ∙ next.1))

    pub meaning_by-is : (kind : List ℕ) (own : MeantType) → (if is_known_kind kind then Some own else option_and_then (λ at. meant (settled_at meanings at)) (place kind))
        ≡ meaning_in definitions kind own
    meaning_by-is kind own = elim (cases_Bool (is_known_kind kind)) [
      | inl known ↦ rw known (sym (meaning_in-known kind own known))
      | inr unknown ↦ rw unknown (found_meaning kind own (place kind) unknown refl)
    ]

-- ---- what stays settled

open_at-own : (meanings : List Meaning) (at : ℕ) (value_type : BorrowedType) → at < length meanings → open_at (set meanings at (Settled value_type)) at ≡ None
open_at-own meanings at value_type within = ap (option_and_then next_in) (slice_get-set_same meanings at (Settled value_type) within)

open_at-set : (meanings : List Meaning) (at place : ℕ) (value_type : BorrowedType) → at < length meanings → open_at meanings place ≡ None → open_at (set meanings at (Settled value_type)) place ≡ None
open_at-set meanings at place value_type within closed = elim (cases_eq place at) [
  | inl here ↦ ap (open_at (set meanings at (Settled value_type))) here ∙ open_at-own meanings at value_type within
  | inr apart ↦ ap (option_and_then next_in) (slice_get-set_other meanings at place (Settled value_type) apart) ∙ closed
]

pub ArePlacesWithin-nil : (meanings : List Meaning) (passed : List ℕ) → passed ≡ [] → ArePlacesWithin passed meanings
ArePlacesWithin-nil meanings passed none = λ place among. absurd (false≢true (sym (ap (λ l. is_at l place) none) ∙ among))

pub settled_start : (meanings : List Meaning) (at start : ℕ) → open_at meanings at ≡ None → (at ≡ start) ⊎ (open_at meanings start ≡ None) → open_at meanings start ≡ None
settled_start meanings at start closed either = elim either [ inl here ↦ ap (open_at meanings) (sym here) ∙ closed | inr own ↦ own ]

module _ (meanings later : List Meaning) (at next : ℕ) (is : open_at meanings at ≡ Some next) (later_is : later ≡ set meanings at (Settled None)) where
  own_place : at < length meanings
  own_place = slice_get_within meanings at (SameAs next) (open_meaning [] (slice_get meanings at) next is)

  pub StaySettled-more : (old : List Meaning) → StaySettled old meanings → StaySettled old later
  StaySettled-more old stay = λ place closed. ap (λ l. open_at l place) later_is ∙ open_at-set meanings at place None own_place (stay place closed)

  pub start_settled : (start : ℕ) → (at ≡ start) ⊎ (open_at meanings start ≡ None) → open_at later start ≡ None
  start_settled start either = ap (λ l. open_at l start) later_is ∙ elim either [
    | inl here ↦ ap (open_at (set meanings at (Settled None))) (sym here) ∙ open_at-own meanings at None own_place
    | inr closed ↦ open_at-set meanings at start None own_place closed
  ]

  pub ArePlacesWithin-more : (passed more : List ℕ) → more ≡ passed ++ at ∷ [] → ArePlacesWithin passed meanings → ArePlacesWithin more later
  ArePlacesWithin-more passed more more_is within = λ place among.
      let size : length later ≡ length meanings = ap length later_is ∙ length-set meanings at (Settled None) in
      let own = own_place in
      elim (is_at-either passed at place (sym (ap (λ l. is_at l place) more_is) ∙ among)) [
        | inl before ↦ (let below = within place before in omega arith)
        | inr here ↦ omega arith
      ]

abbrev pub is_open : Meaning → Bool
is_open (SameAs next) = true
is_open (Settled value_type) = false

abbrev pub count_open : List Meaning → ℕ
count_open [] = 0
count_open (meaning ∷ meanings) = cond (is_open meaning) (1 + count_open meanings) (count_open meanings)

count_open-set : (meanings : List Meaning) (at next : ℕ) → slice_get meanings at ≡ Some (SameAs next) → count_open (set meanings at (Settled None)) < count_open meanings
count_open-set [] at next is = absurd (none-some (SameAs next) is)
count_open-set (SameAs place ∷ meanings) zero next is =
    let before : count_open (SameAs place ∷ meanings) ≡ 1 + count_open meanings = refl in
    let after : count_open (set (SameAs place ∷ meanings) zero (Settled None)) ≡ count_open meanings = refl in
    omega arith
count_open-set (Settled value_type ∷ meanings) zero next is = absurd (none-some next (ap next_in (same_Some _ _ is)))
count_open-set (SameAs place ∷ meanings) (suc at) next is =
    let fewer = count_open-set meanings at next is in
    let before : count_open (SameAs place ∷ meanings) ≡ 1 + count_open meanings = refl in
    let after : count_open (set (SameAs place ∷ meanings) (suc at) (Settled None)) ≡ 1 + count_open (set meanings at (Settled None)) = refl in
    omega arith
count_open-set (Settled value_type ∷ meanings) (suc at) next is = count_open-set meanings at next is

pub count_open-less : (meanings later : List Meaning) (at next : ℕ) → open_at meanings at ≡ Some next → later ≡ set meanings at (Settled None) → count_open later < count_open meanings
count_open-less meanings later at next is later_is = rw later_is (count_open-set meanings at next (open_meaning [] (slice_get meanings at) next is))

-- ---- settling at some places

or_false : (b : Bool) → (b || false) ≡ b
or_false true = refl
or_false false = refl

is_at-other : (places : List ℕ) (last place : ℕ) → (place ≡ last → ⊥) → is_at (places ++ last ∷ []) place ≡ is_at places place
is_at-other places last place apart = is_at-push places last place ∙ ap (λ b. is_at places place || b) (ne_eqb last place (λ same. apart (sym same))) ∙ or_false (is_at places place)

pub AreSettledAt-nil : (value_type : BorrowedType) (meanings : List Meaning) → AreSettledAt [] value_type meanings meanings
AreSettledAt-nil value_type meanings = record { size = refl; each = λ place within. refl }

pub AreSettledAt-more : (places more : List ℕ) (value_type : BorrowedType) (old meanings later : List Meaning) (at : ℕ) → at < length old → AreSettledAt places value_type old meanings
    → more ≡ places ++ at ∷ [] → later ≡ set meanings at (Settled value_type) → AreSettledAt more value_type old later
AreSettledAt-more places more value_type old meanings later at within so_far more_is later_is =
    subst (λ l. AreSettledAt l value_type old later) (sym more_is) (subst (λ l. AreSettledAt (places ++ at ∷ []) value_type old l) (sym later_is) (record {
      size = length-set meanings at (Settled value_type) ∙ so_far.size;
      each = λ place below. elim (cases_eq place at) [
        | inl here ↦ rw here (rw (is_at-last places at) (slice_get-set_same meanings at (Settled value_type) (let size = so_far.size in omega arith)))
        | inr apart ↦ slice_get-set_other meanings at place (Settled value_type) apart ∙ so_far.each place below
            ∙ ap (λ b. cond b (Some (Settled value_type)) (slice_get old place)) (sym (is_at-other places at place apart))
      ];
    }))

pub ArePlacesWithin-at : (places : List ℕ) (meanings : List Meaning) (i d : ℕ) → ArePlacesWithin places meanings → i < length places → get_or places i d < length meanings
ArePlacesWithin-at places meanings i d within below = within (get_or places i d) (list_any_at (λ one. eqb one (get_or places i d)) places i d below (eq-eqb _ _ refl))

pub StaySettled-settled : (places : List ℕ) (value_type : BorrowedType) (old meanings new : List Meaning) → StaySettled old meanings → AreSettledAt places value_type meanings new → StaySettled old new
StaySettled-settled places value_type old meanings new stay settled = λ place closed. elim (cases_lt place (length meanings)) [
  | inl within ↦ ap (option_and_then next_in) (settled.each place within) ∙ elim (cases_Bool (is_at places place)) [
    | inl among ↦ rw among refl
    | inr other ↦ rw other (stay place closed)
  ]
  | inr past ↦ ap (option_and_then next_in) (slice_get_past new place (let size = settled.size in omega arith))
]

pub closed_past : (meanings : List Meaning) (count : ℕ) → ((place : ℕ) → place < count → open_at meanings place ≡ None) → length meanings ≤ count → (place : ℕ) → open_at meanings place ≡ None
closed_past meanings count closed all place = elim (cases_lt place count) [
  | inl below ↦ closed place below
  | inr past ↦ ap (option_and_then next_in) (slice_get_past meanings place (omega arith))
]

pub closed_more : (old new : List Meaning) (start : ℕ) → ((place : ℕ) → place < start → open_at old place ≡ None) → StaySettled old new → open_at new start ≡ None → (place : ℕ) → place < start + 1
    → open_at new place ≡ None
closed_more old new start closed stay own place below = elim (cases_lt place start) [
  | inl before ↦ stay place (closed place before)
  | inr following ↦ ap (open_at new) (let here : place ≡ start = omega arith in here) ∙ own
]

pub slice_get-map_at : {X Y : Type 0} (f : X → Y) (xs : List X) (i : ℕ) (d : X) → i < length xs → d ≡ get_or xs i d → slice_get (map f xs) i ≡ Some (f d)
slice_get-map_at f xs i d within is = slice_get-map f xs i ∙ ap (option_map f) (slice_get-get_or xs i d within ∙ ap Some (sym is))

-- ---- one way, whose places are handed on as a slice

pub ArePlacesWithin-as : (passed places : List ℕ) (meanings : List Meaning) → ArePlacesWithin passed meanings → places ≡ passed → ArePlacesWithin places meanings
ArePlacesWithin-as passed places meanings within same = subst (λ l. ArePlacesWithin l meanings) (sym same) within

pub AreRight-end : (definitions : List Definition) (passed places : List ℕ) (at : ℕ) (meanings new : List Meaning) (value_type : BorrowedType) → AreAtWork definitions passed at meanings
    → open_at meanings at ≡ None
    → value_type ≡ settled_at meanings at → places ≡ passed → AreSettledAt places value_type meanings new → AreRight definitions new
AreRight-end definitions passed places at meanings new value_type work closed type_is same settled =
    AreRight-settled definitions passed at meanings new work closed (subst (λ l. AreSettledAt l (settled_at meanings at) meanings new) same
    (subst (λ (t : BorrowedType). AreSettledAt places t meanings new) type_is settled))

pub StaySettled-end : (places : List ℕ) (value_type : BorrowedType) (old meanings new : List Meaning) → StaySettled old meanings → AreSettledAt places value_type meanings new → StaySettled old new
StaySettled-end places value_type old meanings new stay settled = StaySettled-settled places value_type old meanings new stay settled

pub start_end : (start : ℕ) (places : List ℕ) (value_type : BorrowedType) (meanings new : List Meaning) → open_at meanings start ≡ None → AreSettledAt places value_type meanings new
    → open_at new start ≡ None
start_end start places value_type meanings new closed settled = StaySettled-settled places value_type meanings meanings new (λ place is. is) settled start closed
