-- The types of sets, and what is found among them.
use Rattle.std.proofs.Common.{◌≡◌, ◌∙◌, ℕ, ◌+◌, Bool, true, false, not, cond, ◌||◌, List, [], ◌∷◌, ◌++◌, length, map, position, Option, Some, None, ltb, refl, ap, ap₂, sym, inl, inr, suc, arith}
use Rattle.std.proofs.lemmas.Bool.{cases_Bool, cases_lt, lt-ltb, le-ltb}
use Rattle.std.proofs.lemmas.List.{length-map, map-append}
use Rattle.std.proofs.lemmas.Option.{none-some}
use Rattle.std.specs.List.{list_any, prefix_len, position_or_len, filter_map, cons_option}
use Rattle.std.specs.Option.{option_map, option_map_or}
use Rattle.std.specs.Str.{bytes_eq}
use Rattle.rec_text.proofs.lemmas.ListLemmas.{bytes_eq-sym}
use Rattle.rec_check.specs.declared.set.Set_.{Set_}
use Rattle.rec_check.specs.Sets.{is_of_type}
use Rattle.rec_check.specs.proving.Steps.{record_types, with_member, with_record, HaveTypes}

module _ {X Y : Type 0} (test : Y → Bool) (f : X → Y) where
  position_or_len-map : (xs : List X) → position_or_len test (map f xs) ≡ position_or_len (λ x. test (f x)) xs
  position_or_len-map [] = refl
  position_or_len-map (x ∷ xs) = ap (λ n. cond (not (test (f x))) (1 + n) 0) (position_or_len-map xs)

  pub position-map : (xs : List X) → position test (map f xs) ≡ position (λ x. test (f x)) xs
  position-map xs = ap₂ (λ n size. cond (ltb n size) (Some n) None) (position_or_len-map xs) (length-map xs f)

-- ---- the types of the sets after the untyped one

filter_map-map : {X Y : Type 0} (f : X → Option Y) (xs : List X) → filter_map f xs ≡ filter_map (λ y. y) (map f xs)
filter_map-map f [] = refl
filter_map-map f (x ∷ xs) = ap (cons_option (f x)) (filter_map-map f xs)

filter_map-Some : {X : Type 0} (xs : List X) → filter_map (λ x. x) (map Some xs) ≡ xs
filter_map-Some [] = refl
filter_map-Some (x ∷ xs) = ap (λ ys. x ∷ ys) (filter_map-Some xs)

map-with_member : (sets : List Set_) (index : ℕ) → map (λ s. s.kind) (with_member sets index) ≡ map (λ s. s.kind) sets
map-with_member [] index = refl
map-with_member (s ∷ []) index = refl
map-with_member (s ∷ next ∷ sets) index = ap (λ types. s.kind ∷ types) (map-with_member (next ∷ sets) index)

prefix_len-alike : {X : Type 0} (p q : X → Bool) → ((x : X) → p x ≡ q x) → (xs : List X) → prefix_len p xs ≡ prefix_len q xs
prefix_len-alike p q alike [] = refl
prefix_len-alike p q alike (x ∷ xs) = ap₂ (λ b n. cond b (1 + n) 0) (alike x) (prefix_len-alike p q alike xs)

position-alike : {X : Type 0} (p q : X → Bool) → ((x : X) → p x ≡ q x) → (xs : List X) → position p xs ≡ position q xs
position-alike p q alike xs = ap (λ n. cond (ltb n (length xs)) (Some n) None) (prefix_len-alike (λ x. not (p x)) (λ x. not (q x)) (λ x. ap not (alike x)) xs)

place_after : (n size : ℕ) → ◌≡◌ {A = Option ℕ} (cond (ltb (1 + n) (suc size)) (Some (1 + n)) None) (option_map (λ place. place + 1) (cond (ltb n size) (Some n) None))
place_after n size = elim (cases_lt n size) [
  | inl less ↦
      let next : 1 + n ≡ n + 1 = omega arith in
      ap (λ b. cond b (Some (1 + n)) None) (lt-ltb (1 + n) (suc size) (omega arith)) ∙ ap Some next ∙ sym (ap (λ b. option_map (λ place. place + 1) (cond b (Some n) None)) (lt-ltb n size less))
  | inr past ↦
      ap (λ b. cond b (Some (1 + n)) None) (le-ltb (1 + n) (suc size) (omega arith)) ∙ sym (ap (λ b. option_map (λ place. place + 1) (cond b (Some n) None)) (le-ltb n size past))
]

pub no_place : (place : Option ℕ) → option_map (λ n. n + 1) place ≡ None → place ≡ None
no_place None none = refl
no_place (Some n) none = absurd (none-some (n + 1) (sym none))

-- after one that doesn't pass
pub position-following : {X : Type 0} (test : X → Bool) (x : X) (xs : List X) → test x ≡ false → position test (x ∷ xs) ≡ option_map (λ place. place + 1) (position test xs)
position-following test x xs other =
    let size : prefix_len (λ y. not (test y)) (x ∷ xs) ≡ 1 + prefix_len (λ y. not (test y)) xs = ap (λ b. cond (not b) (1 + prefix_len (λ y. not (test y)) xs) 0) other in
    ap (λ n. cond (ltb n (length (x ∷ xs))) (Some n) None) size ∙ place_after (prefix_len (λ y. not (test y)) xs) (length xs)

-- the first that passes is met at once
pub position-here : {X : Type 0} (test : X → Bool) (x : X) (xs : List X) → test x ≡ true → position test (x ∷ xs) ≡ Some 0
position-here test x xs passes =
    let none : prefix_len (λ y. not (test y)) (x ∷ xs) ≡ 0 = ap (λ b. cond (not b) (1 + prefix_len (λ y. not (test y)) xs) 0) passes in
    ap (λ n. cond (ltb n (length (x ∷ xs))) (Some n) None) none ∙ ap (λ b. cond b (Some 0) None) (lt-ltb 0 (length (x ∷ xs)) (omega arith))

-- where there is no place, none passes
pub list_any-position : {X : Type 0} (test : X → Bool) (xs : List X) → position test xs ≡ None → list_any test xs ≡ false
list_any-position test [] none = refl
list_any-position test (x ∷ xs) none = elim (cases_Bool (test x)) [
  | inl passes ↦ let no : Some 0 ≡ None = sym (position-here test x xs passes) ∙ none in absurd (none-some 0 (sym no))
  | inr other ↦
      let rest : position test xs ≡ None = no_place (position test xs) (sym (position-following test x xs other) ∙ none) in
      ap₂ ◌||◌ other (list_any-position test xs rest)
]

module _ (sets : List Set_) (types : List (List ℕ)) (have : HaveTypes sets types) where
  pub record_types-HaveTypes : record_types sets ≡ types
  record_types-HaveTypes = filter_map-map (λ s. s.kind) sets ∙ ap (filter_map (λ record_type. record_type)) have ∙ filter_map-Some types

  abbrev some : List ℕ → Option (List ℕ)
  some record_type = Some record_type

  pub length-HaveTypes : length sets ≡ length types + 1
  length-HaveTypes = omega (arith, length-map sets (λ s. s.kind), length-map types some, ap length have)

  -- one record more
  pub HaveTypes-none : (index : ℕ) → HaveTypes (with_record sets index None) types
  HaveTypes-none index = map-with_member sets index ∙ have

  pub HaveTypes-some : (index : ℕ) (record_type : List ℕ) → HaveTypes (with_record sets index (Some record_type)) (types ++ record_type ∷ [])
  HaveTypes-some index record_type =
      map-append (λ s. s.kind) sets _ ∙ ap (λ ks. ks ++ Some record_type ∷ []) have ∙ ap (λ ks. None ∷ ks) (sym (map-append Some types (record_type ∷ [])))

  -- the set of a type
  pub position-HaveTypes : (record_type : List ℕ) → position (is_of_type record_type) sets ≡ option_map (λ place. place + 1) (position (bytes_eq record_type) types)
  position-HaveTypes record_type =
      let test : Option (List ℕ) → Bool = λ own. option_map_or (λ name. bytes_eq name record_type) own false in
      sym (position-map test (λ s. s.kind) sets) ∙ ap (position test) have ∙ position-following test None (map Some types) refl
      ∙ ap (option_map (λ place. place + 1)) (position-map test some types ∙ position-alike (λ name. bytes_eq name record_type) (bytes_eq record_type) (λ name. bytes_eq-sym name record_type) types)
