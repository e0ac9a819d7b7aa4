-- The places of names that pass a test, in a list where each name stands once, and the names at these places.
use Rattle.std.proofs.Common.{◌≡◌, ◌∙◌, inl, inr, ℕ, zero, suc, ◌+◌, ◌<◌, Bool, true, false, ◌||◌, ◌&&◌, not, cond, List, [], ◌∷◌, ◌++◌, drop, filter, get_or, length, position, take, Option, Some}
use Rattle.std.proofs.Common.{None, refl, ap, ap₂, sym, arith, append_assoc}
use Rattle.std.proofs.lemmas.Bool.{cases_Bool, false≢true, or_left, or_parts, or_right}
use Rattle.std.proofs.lemmas.List.{append-nil, length-map, length-take-le, map_more, map_push}
use Rattle.std.proofs.lemmas.List.Elements.{filter_map-append}
use Rattle.std.proofs.lemmas.List.Folds.{list_any_at}
use Rattle.std.proofs.lemmas.List.Quantifiers.{position-Some}
use Rattle.std.proofs.lemmas.Option.{get_or_from_slice_get, slice_get-map, slice_get_within}
use Rattle.std.proofs.Math.Bool.{or-false}
use Rattle.std.specs.BTreeMap.{is_at}
use Rattle.std.specs.BTreeSet.{insert_key}
use Rattle.std.specs.Borrow.{Bor}
use Rattle.std.specs.Cmp.{nat_cmp_is}
use Rattle.std.specs.List.{cons_option, enumerate_from, filter_map, list_any, slice_get}
use Rattle.std.specs.Option.{option_map}
use Rattle.std.specs.Ordering.{nat_cmp}
use Rattle.std.specs.Str.{bytes_eq}
use Rattle.std.specs.declared.cmp.Ordering.TheVariants.{Less, Equal, Greater}
use Rattle.rec_text.proofs.lemmas.ListLemmas.{same_bytes, bytes_eq-self}
use Rattle.rec_text.specs.Bytes.{texts, is_among}
use Rattle.rec_check.specs.proving.NamesSeen.{places_from, places_of}
use Rattle.rec_check.specs.Words.{distinct}
use Rattle.rec_check.proofs.lemmas.field_types.FittingLemmas.{enumerate_from-append}
use Rattle.rec_check.proofs.lemmas.checks.NameLemmas.{filter-distinct, distinct-distinct}
use Rattle.rec_check.proofs.lemmas.TypeLemmas.{list_any-position}

pub no_option : {X : Type 0} (option : Option X) → ((x : X) → option ≡ Some x → ⊥) → option ≡ None
no_option None none = refl
no_option (Some x) none = absurd (none x refl)

-- ---- names that stand once

not_filtered : (name : List ℕ) (names : List (List ℕ)) → is_among (filter (λ other. not (bytes_eq name other)) names) name ≡ false
not_filtered name [] = refl
not_filtered name (first ∷ names) = elim (cases_Bool (bytes_eq name first)) [
  | inl same ↦ rw same (not_filtered name names)
  | inr other ↦ rw (other, other) (not_filtered name names)
]

once_after : (name : List ℕ) (names : List (List ℕ)) → distinct (name ∷ names) ≡ name ∷ names → (is_among names name ≡ false) × (distinct names ≡ names)
once_after name names once =
    let others : List ℕ → Bool = λ other. not (bytes_eq name other) in
    let left : filter others (distinct names) ≡ names = ap (drop 1) once in
    let kept : names ≡ distinct (filter others names) = sym left ∙ filter-distinct others names in
    (ap (λ l. is_among l name) (sym left) ∙ not_filtered name (distinct names), ap distinct kept ∙ distinct-distinct (filter others names) ∙ sym kept)

-- a name that stands nowhere is none of them
pub apart : (name : List ℕ) (names : List (List ℕ)) → position (bytes_eq name) names ≡ None → (one : List ℕ) → is_among names one ≡ true → bytes_eq name one ≡ false
apart name names none one among = elim (cases_Bool (bytes_eq name one)) [
  | inl same ↦ absurd (false≢true (sym (list_any-position (bytes_eq name) names none) ∙ ap (is_among names) (same_bytes name one same) ∙ among))
  | inr other ↦ other
]

-- ---- places of names that pass a test

pub places_agree : (at : ℕ) (p q : List ℕ → Bool) (names : List (List ℕ)) → ((name : List ℕ) → is_among names name ≡ true → p name ≡ q name) → places_from at p names ≡ places_from at q names
places_agree at p q [] agree = refl
places_agree at p q (name ∷ names) agree =
    let first : is_among (name ∷ names) name ≡ true = or_left (bytes_eq name name) (is_among names name) (bytes_eq-self name) in
    ap₂ (λ b l. cond b (at ∷ l) l) (agree name first) (places_agree (at + 1) p q names (λ other among. agree other (or_right (bytes_eq other name) (is_among names other) among)))

pub no_places : (test : List ℕ → Bool) → ((name : List ℕ) → test name ≡ false) → (at : ℕ) (names : List (List ℕ)) → [] ≡ places_from at test names
no_places test none at [] = refl
no_places test none at (name ∷ names) = rw (none name) (no_places test none (at + 1) names)

-- a place is among these
abbrev holds : List ℕ → ℕ → Bool
holds places place = list_any (is_at (nat_cmp place)) places

-- one more name passes the test
abbrev or_is : (List ℕ → Bool) → List ℕ → List ℕ → Bool
or_is test name other = test other || bytes_eq name other

module _ (test : List ℕ → Bool) where
  places_without : (at : ℕ) (name : List ℕ) (names : List (List ℕ)) → is_among names name ≡ false → places_from at (or_is test name) names ≡ places_from at test names
  places_without at name [] none = refl
  places_without at name (first ∷ names) none =
      let parts = or_parts (bytes_eq name first) (is_among names name) none in
      ap₂ (λ b l. cond b (at ∷ l) l) (ap (λ b. test first || b) parts.0 ∙ or-false (test first)) (places_without (at + 1) name names parts.1)

  insert_first : (at low : ℕ) (names : List (List ℕ)) → low < at → insert_key nat_cmp (places_from at test names) low ≡ low ∷ places_from at test names
  insert_first at low [] below = refl
  insert_first at low (name ∷ names) below = elim (cases_Bool (test name)) [
    | inl passes ↦ let less : nat_cmp low at ≡ Less = sym (nat_cmp_is low at Less below) in rw (passes, less) refl
    | inr fails ↦ rw fails (insert_first (at + 1) low names (omega arith))
  ]

  insert_place : (at i : ℕ) (name : List ℕ) (names : List (List ℕ)) → distinct names ≡ names → i < length names → bytes_eq name (get_or names i []) ≡ true
      → insert_key nat_cmp (places_from at test names) (at + i) ≡ places_from at (or_is test name) names
  insert_place at i name [] once within is = absurd (omega (arith, within))
  insert_place at zero name (first ∷ names) once within is =
      let here : at + 0 ≡ at = omega arith in
      let rest : places_from (at + 1) (or_is test name) names ≡ places_from (at + 1) test names =
      places_without (at + 1) name names (ap (is_among names) (same_bytes name first is) ∙ (once_after first names once).0) in
      let equal : nat_cmp at at ≡ Equal = sym (nat_cmp_is at at Equal refl) in
      ap (insert_key nat_cmp (places_from at test (first ∷ names))) here ∙ elim (cases_Bool (test first)) [
        | inl passes ↦ rw (passes, equal) (ap (λ l. at ∷ l) (sym rest))
        | inr fails ↦ rw (fails, is) (insert_first (at + 1) at names (omega arith) ∙ ap (λ l. at ∷ l) (sym rest))
      ]
  insert_place at (suc i) name (first ∷ names) once within is =
      let following = once_after first names once in
      let inside : i < length names = omega (arith, within) in
      let other : bytes_eq name first ≡ false = elim (cases_Bool (bytes_eq name first)) [
        | inl same ↦ absurd (false≢true (sym following.0 ∙ ap (is_among names) (sym (same_bytes name first same)) ∙ list_any_at (bytes_eq name) names i [] inside is))
        | inr other ↦ other
      ] in
      let there : at + suc i ≡ at + 1 + i = omega arith in
      let rest : insert_key nat_cmp (places_from (at + 1) test names) (at + suc i) ≡ places_from (at + 1) (or_is test name) names =
      ap (insert_key nat_cmp (places_from (at + 1) test names)) there ∙ insert_place (at + 1) i name names following.1 inside is in
      let greater : nat_cmp (at + suc i) at ≡ Greater = sym (nat_cmp_is (at + suc i) at Greater (omega arith)) in
      elim (cases_Bool (test first)) [
        | inl passes ↦ rw (passes, greater) (ap (λ l. at ∷ l) rest)
        | inr fails ↦ rw (fails, other) rest
      ]

  -- no place stands before the first
  holds_past : (at low : ℕ) (names : List (List ℕ)) → low < at → holds (places_from at test names) low ≡ false
  holds_past at low [] below = refl
  holds_past at low (name ∷ names) below = elim (cases_Bool (test name)) [
    | inl passes ↦ let less : nat_cmp low at ≡ Less = sym (nat_cmp_is low at Less below) in rw (passes, less) (holds_past (at + 1) low names (omega arith))
    | inr fails ↦ rw fails (holds_past (at + 1) low names (omega arith))
  ]

  holds_from : (at i : ℕ) (names : List (List ℕ)) → i < length names → holds (places_from at test names) (at + i) ≡ test (get_or names i [])
  holds_from at i [] within = absurd (omega (arith, within))
  holds_from at zero (name ∷ names) within =
      let here : at + 0 ≡ at = omega arith in
      let equal : nat_cmp at at ≡ Equal = sym (nat_cmp_is at at Equal refl) in
      ap (holds (places_from at test (name ∷ names))) here ∙ elim (cases_Bool (test name)) [
        | inl passes ↦ rw (passes, equal) refl
        | inr fails ↦ rw fails (holds_past (at + 1) at names (omega arith))
      ]
  holds_from at (suc i) (name ∷ names) within =
      let there : at + suc i ≡ at + 1 + i = omega arith in
      let greater : nat_cmp (at + suc i) at ≡ Greater = sym (nat_cmp_is (at + suc i) at Greater (omega arith)) in
      let rest : holds (places_from (at + 1) test names) (at + suc i) ≡ test (get_or names i []) =
      ap (holds (places_from (at + 1) test names)) there ∙ holds_from (at + 1) i names (omega (arith, within)) in
      elim (cases_Bool (test name)) [
        | inl passes ↦ rw (passes, greater) rest
        | inr fails ↦ rw fails rest
      ]

  -- a place is among them where the name that stands there passes
  pub holds_place : (names : List (List ℕ)) (i : ℕ) → i < length names → holds (places_of test names) i ≡ test (get_or names i [])
  holds_place names i within =
      let same : 0 + i ≡ i = omega arith in
      ap (holds (places_of test names)) (sym same) ∙ holds_from 0 i names within

-- a test that one more name passes, or none
abbrev pub Grows : (List ℕ → Bool) → Bool → List ℕ → (List ℕ → Bool) → Type 0
Grows test more name next = (other : List ℕ) → next other ≡ (test other || (more && bytes_eq name other))

pub places_kept : (test next : List ℕ → Bool) (more : Bool) (name : List ℕ) (names : List (List ℕ)) → Grows test more name next → more ≡ false → places_of test names ≡ places_of next names
places_kept test next more name names grows none =
    places_agree 0 test next names (λ other among. sym (grows other ∙ ap (λ b. test other || (b && bytes_eq name other)) none ∙ or-false (test other)))

pub places_next : (test next : List ℕ → Bool) (more : Bool) (name : List ℕ) (names : List (List ℕ)) (i : ℕ) → Grows test more name next → distinct names ≡ names
    → position (bytes_eq name) names ≡ Some i
    → cond more (insert_key nat_cmp (places_of test names) i) (places_of test names) ≡ places_of next names
places_next test next true name names i grows once at =
    let same : 0 + i ≡ i = omega arith in
    let there = position-Some (bytes_eq name) names i [] at in
    ap (insert_key nat_cmp (places_of test names)) (sym same) ∙ insert_place test 0 i name names once there.0 there.1
    ∙ places_agree 0 (or_is test name) next names (λ other among. sym (grows other))
places_next test next false name names i grows once at = places_kept test next false name names grows refl

-- ---- the names at places, and those beside them

-- a name, where its place is none of these
abbrev pub beside : List ℕ → ℕ × List ℕ → Option (List ℕ)
beside places (place, name) = cond (holds places place) None (Some name)

-- the names of a list from a place on
abbrev StandFrom : List (List ℕ) → ℕ → List (List ℕ) → Type 0
StandFrom all at names = (k : ℕ) → slice_get all (at + k) ≡ slice_get names k

module _ (test : List ℕ → Bool) (all : List (List ℕ)) where
  first_stands : (at : ℕ) (name : List ℕ) (names : List (List ℕ)) → StandFrom all at (name ∷ names) → slice_get all at ≡ Some name
  first_stands at name names stand = let none : at ≡ at + 0 = omega arith in ap (slice_get all) none ∙ stand 0

  others_stand : (at : ℕ) (name : List ℕ) (names : List (List ℕ)) → StandFrom all at (name ∷ names) → StandFrom all (at + 1) names
  others_stand at name names stand k = let next : at + 1 + k ≡ at + suc k = omega arith in ap (slice_get all) next ∙ stand (suc k)

  names_from : (at : ℕ) (names : List (List ℕ)) → StandFrom all at names → filter_map (slice_get all) (places_from at test names) ≡ filter test names
  names_from at [] stand = refl
  names_from at (name ∷ names) stand =
      let rest = names_from (at + 1) names (others_stand at name names stand) in
      elim (cases_Bool (test name)) [
        | inl passes ↦ rw passes (ap₂ cons_option (first_stands at name names stand) rest)
        | inr fails ↦ rw fails rest
      ]

  besides_from : (at : ℕ) (names : List (List ℕ)) → StandFrom all at names → filter_map (beside (places_of test all)) (enumerate_from at names) ≡ filter (λ name. not (test name)) names
  besides_from at [] stand = refl
  besides_from at (name ∷ names) stand =
      let here = first_stands at name names stand in
      let held : holds (places_of test all) at ≡ test name = holds_place test all at (slice_get_within all at name here) ∙ ap test (get_or_from_slice_get all at name [] here) in
      ap₂ (λ b l. cons_option (cond b None (Some name)) l) held (besides_from (at + 1) names (others_stand at name names stand))
      ∙ elim (cases_Bool (test name)) [ inl passes ↦ rw passes refl | inr fails ↦ rw fails refl ]

  all_stand : StandFrom all 0 all
  all_stand k = let same : 0 + k ≡ k = omega arith in ap (slice_get all) same

  pub names_at : filter_map (slice_get all) (places_of test all) ≡ filter test all
  names_at = names_from 0 all all_stand

  pub names_besides : filter_map (beside (places_of test all)) (enumerate_from 0 all) ≡ filter (λ name. not (test name)) all
  names_besides = besides_from 0 all all_stand

-- as a loop takes the places
module _ (names : List (List ℕ)) (all found : List (Bor (List ℕ))) (place : ℕ) (left next : List ℕ) (whole : List (List ℕ)) (are : texts all ≡ names) (taken : left ≡ place ∷ next)
    (so_far : whole ≡ texts found ++ filter_map (slice_get names) left) where
  stands : slice_get names place ≡ option_map (λ one. one.now) (slice_get all place)
  stands = ap (λ l. slice_get l place) (sym are) ∙ slice_get-map (λ one. one.now) all place

  with_next : whole ≡ texts found ++ cons_option (option_map (λ one. one.now) (slice_get all place)) (filter_map (slice_get names) next)
  with_next = so_far ∙ ap (λ l. texts found ++ filter_map (slice_get names) l) taken ∙ ap (λ o. texts found ++ cons_option o (filter_map (slice_get names) next)) stands

  pub name_more : (name : Bor (List ℕ)) (new : List (Bor (List ℕ))) → slice_get all place ≡ Some name → new ≡ found ++ name ∷ [] → whole ≡ texts new ++ filter_map (slice_get names) next
  name_more name new there added =
      with_next ∙ ap (λ o. texts found ++ cons_option (option_map (λ one. one.now) o) (filter_map (slice_get names) next)) there
      ∙ sym (append_assoc (texts found) (name.now ∷ []) (filter_map (slice_get names) next))
      ∙ ap (λ l. l ++ filter_map (slice_get names) next) (sym (ap texts added ∙ map_push (λ one. one.now) found name))

-- as a loop takes the names
module _ (places : List ℕ) (all found : List (Bor (List ℕ))) (i : ℕ) (d : Bor (List ℕ)) (within : i < length all) where
  abbrev besides : ℕ → List (List ℕ)
  besides n = filter_map (beside places) (enumerate_from 0 (texts (take n all)))

  abbrev own : Bor (List ℕ)
  own = get_or all i d

  besides_next : besides (i + 1) ≡ besides i ++ cond (holds places i) [] (own.now ∷ [])
  besides_next =
      let prefix : List (List ℕ) = texts (take i all) in
      let size : 0 + length prefix ≡ i = omega (arith, length-map (take i all) (λ one. one.now), length-take-le i all (omega arith)) in
      ap (λ l. filter_map (beside places) (enumerate_from 0 l)) (map_more (λ one. one.now) all i d within)
      ∙ ap (filter_map (beside places)) (enumerate_from-append 0 prefix (own.now ∷ []) ∙ ap (λ k. enumerate_from 0 prefix ++ (k, own.now) ∷ []) size)
      ∙ filter_map-append (beside places) (enumerate_from 0 prefix) ((i, own.now) ∷ [])
      ∙ ap (λ l. besides i ++ l) (elim (cases_Bool (holds places i)) [ inl held ↦ rw held refl | inr none ↦ rw none refl ])

  module _ (so_far : texts found ≡ besides i) where
    pub beside_passed : holds places i ≡ true → texts found ≡ besides (i + 1)
    beside_passed held = so_far ∙ sym (besides_next ∙ ap (λ b. besides i ++ cond b [] (own.now ∷ [])) held ∙ append-nil (besides i))

    pub beside_added : (new : List (Bor (List ℕ))) → holds places i ≡ false → new ≡ found ++ own ∷ [] → texts new ≡ besides (i + 1)
    beside_added new none added =
        ap texts added ∙ map_push (λ one. one.now) found own ∙ ap (λ l. l ++ own.now ∷ []) so_far ∙ sym (besides_next ∙ ap (λ b. besides i ++ cond b [] (own.now ∷ [])) none)
