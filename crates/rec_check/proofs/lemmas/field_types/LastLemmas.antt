-- The last element of a list that passes a test, and where it stands.
use Rattle.std.proofs.Common.{◌≡◌, ◌∙◌, ℕ, suc, zero, ◌<◌, Bool, true, false, cond, List, [], ◌∷◌, ◌++◌, length, Option, Some, None, refl, ap, sym, subst, inl, inr, arith}
use Rattle.std.proofs.lemmas.Bool.{cases_Bool}
use Rattle.std.proofs.lemmas.List.{length-append}
use Rattle.std.proofs.lemmas.Option.{same_Some, none-some}
use Rattle.std.specs.Prelude.{⊤, if◌then◌else◌}
use Rattle.std.specs.List.{AllZip, slice_get}
use Rattle.std.specs.Option.{option_and_then, option_map}
use Rattle.rec_check.specs.proving.Fitting.{FindLast}
use Rattle.rec_check.specs.Words.{last_that}

-- ---- elements at places

module _ {X : Type 0} where
  pub slice_get-prefix : (xs : List X) (y : X) (i : ℕ) → i < length xs → slice_get (xs ++ y ∷ []) i ≡ slice_get xs i
  slice_get-prefix [] y i within = absurd (omega arith)
  slice_get-prefix (x ∷ xs) y zero within = refl
  slice_get-prefix (x ∷ xs) y (suc i) within = slice_get-prefix xs y i (omega arith)

  pub slice_get-end : (xs : List X) (y : X) → slice_get (xs ++ y ∷ []) (length xs) ≡ Some y
  slice_get-end [] y = refl
  slice_get-end (x ∷ xs) y = slice_get-end xs y

-- ---- one element more

module _ {X : Type 0} (has : X → List ℕ → Bool) where
  abbrev last_with : List ℕ → List X → Option X
  last_with name xs = last_that (λ x. has x name) xs

  abbrev or_first : X → List ℕ → Option X → Option X
  or_first first name later = elim later [ Some x ↦ Some x | None ↦ if has first name then Some first else None ]

  last_that-push : (xs : List X) (last : X) (name : List ℕ) → last_with name (xs ++ last ∷ []) ≡ cond (has last name) (Some last) (last_with name xs)
  last_that-push [] last name = refl
  last_that-push (first ∷ xs) last name = ap (or_first first name) (last_that-push xs last name) ∙ elim (cases_Bool (has last name)) [
    | inl same ↦ rw same refl
    | inr other ↦ rw other refl
  ]

  pub FindLast-nil : (place : List ℕ → Option ℕ) → ((name : List ℕ) → place name ≡ None) → FindLast has [] place
  FindLast-nil place nowhere = record {
    finds = λ name. ap (option_and_then (slice_get [])) (nowhere name);
    below = λ name at is. absurd (none-some at (sym (nowhere name) ∙ is));
  }

  prefix_found : (xs : List X) (last : X) (place : Option ℕ) → ((at : ℕ) → place ≡ Some at → at < length xs)
      → option_and_then (slice_get (xs ++ last ∷ [])) place ≡ option_and_then (slice_get xs) place
  prefix_found xs last None below = refl
  prefix_found xs last (Some at) below = slice_get-prefix xs last at (below at refl)

  module _ (xs : List X) (last : X) (place next : List ℕ → Option ℕ) (are : FindLast has xs place)
      (put : (name : List ℕ) → next name ≡ cond (has last name) (Some (length xs)) (place name)) where
    FindLast-push : FindLast has (xs ++ last ∷ []) next
    FindLast-push = record {
      finds = λ name. ap (option_and_then (slice_get (xs ++ last ∷ []))) (put name) ∙ elim (cases_Bool (has last name)) [
        | inl same ↦ rw (same, last_that-push xs last name, same) (slice_get-end xs last)
        | inr other ↦ rw (other, last_that-push xs last name, other) (prefix_found xs last (place name) (are.below name) ∙ are.finds name)
      ];
      below = λ name at is. elim (cases_Bool (has last name)) [
        | inl same ↦
            let here : length xs ≡ at = same_Some _ _ (sym (put name ∙ ap (λ b. cond b (Some (length xs)) (place name)) same) ∙ is) in
            omega (arith, length-append xs (last ∷ []))
        | inr other ↦
            let before : at < length xs = are.below name at (sym (put name ∙ ap (λ b. cond b (Some (length xs)) (place name)) other) ∙ is) in
            omega (arith, length-append xs (last ∷ []))
      ];
    }

  pub FindLast-more : (xs more : List X) (last : X) (place next : List ℕ → Option ℕ) (at : ℕ) → FindLast has xs place → more ≡ xs ++ last ∷ []
      → at ≡ length xs → ((name : List ℕ) → next name ≡ cond (has last name) (Some at) (place name)) → FindLast has more next
  FindLast-more xs more last place next at are more_is at_is put =
      subst (λ l. FindLast has l next) (sym more_is) (FindLast-push xs last place next are (λ name. put name ∙ ap (λ n. cond (has last name) (Some n) (place name)) at_is))

-- ---- the last elements of two lists

-- neither is there, or the relation holds of the two
abbrev pub IfBoth : {X : Type 0} → (X → X → Type 0) → Option X → Option X → Type 0
IfBoth R None None = ⊤
IfBoth R (Some one) (Some other) = R one other
IfBoth R _ _ = ⊥

module _ {X : Type 0} (R : X → X → Type 0) where
  pub IfBoth-if : (b : Bool) (one other : X) (own second : Option X) → R one other → IfBoth R own second → IfBoth R (if b then Some one else own) (if b then Some other else second)
  IfBoth-if true one other own second same too = same
  IfBoth-if false one other own second same too = too

  IfBoth-later : (one other own second : Option X) → IfBoth R one other → IfBoth R own second
      → IfBoth R (elim one [ Some x ↦ Some x | None ↦ own ]) (elim other [ Some x ↦ Some x | None ↦ second ])
  IfBoth-later None None own second same too = too
  IfBoth-later None (Some other) own second same too = absurd same
  IfBoth-later (Some one) None own second same too = absurd same
  IfBoth-later (Some one) (Some other) own second same too = same

  pub IfBoth-last : (test : X → Bool) → ((x y : X) → R x y → test x ≡ test y) → (xs ys : List X) → AllZip R xs ys → IfBoth R (last_that test xs) (last_that test ys)
  IfBoth-last test alike [] [] same = tt
  IfBoth-last test alike [] (y ∷ ys) same = absurd same
  IfBoth-last test alike (x ∷ xs) [] same = absurd same
  IfBoth-last test alike (x ∷ xs) (y ∷ ys) same =
      let P : Bool → Type 0 = λ b. IfBoth R (if test x then Some x else None) (if b then Some y else None) in
      IfBoth-later (last_that test xs) (last_that test ys) _ _ (IfBoth-last test alike xs ys same.1)
      (subst P (alike x y same.0) (IfBoth-if (test x) x y None None same.0 tt))

pub IfBoth-map : {X Y : Type 0} (R : X → X → Type 0) (S : Y → Y → Type 0) (f g : X → Y) → ((x y : X) → R x y → S (f x) (g y)) → (one other : Option X)
    → IfBoth R one other → IfBoth S (option_map f one) (option_map g other)
IfBoth-map R S f g holds None None same = tt
IfBoth-map R S f g holds None (Some other) same = absurd same
IfBoth-map R S f g holds (Some one) None same = absurd same
IfBoth-map R S f g holds (Some one) (Some other) same = holds one other same
