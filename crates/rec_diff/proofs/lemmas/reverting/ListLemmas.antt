-- Elements of lists, by their numbers; and the first one that has P.
use Rattle.std.proofs.Common.{◌≡◌, ◌∙◌, ℕ, zero, suc, ◌+◌, ◌-◌, ◌≤◌, ◌<◌, List, [], ◌∷◌, ◌++◌, ◌≢◌, ◌⊎◌, Bool, true, cond, filter, length, set, take, Option, Some, None, Result, Ok, Err, IfOk}
use Rattle.std.proofs.Common.{MatchOption, slice_get, Any, inl, inr, refl, sym, ap, subst, zero-add, arith}
use Rattle.std.specs.List.{AllByRecursion, AllZip}
use Rattle.std.proofs.lemmas.Bool.{cases_Bool, cond-true, cond-false}
use Rattle.std.proofs.lemmas.List.{length-take}
use Rattle.std.proofs.lemmas.Option.{get_or_from_slice_get, none-some, same_Some, slice_get-get_or, slice_get_within}
use Rattle.rec_text.proofs.lemmas.ListLemmas.{slice_get-take}
use Rattle.rec_diff.specs.Making.{IsFirst}

-- ---- elements of lists put together, and of their beginnings

pub slice_get-append_left : {X : Type 0} (xs ys : List X) (i : ℕ) → i < length xs → slice_get (xs ++ ys) i ≡ slice_get xs i
slice_get-append_left [] ys i within = absurd (omega (arith, within))
slice_get-append_left (x ∷ xs) ys zero within = refl
slice_get-append_left (x ∷ xs) ys (suc i) within = slice_get-append_left xs ys i (omega (arith, within))

pub slice_get-append_right : {X : Type 0} (xs ys : List X) (i : ℕ) → slice_get (xs ++ ys) (length xs + i) ≡ slice_get ys i
slice_get-append_right [] ys i = ap (slice_get ys) (zero-add i)
slice_get-append_right (x ∷ xs) ys i =
    ap (slice_get (x ∷ (xs ++ ys))) (let e : suc (length xs) + i ≡ suc (length xs + i) = omega arith in e) ∙ slice_get-append_right xs ys i

pub slice_get-past_left : {X : Type 0} (xs ys : List X) (i : ℕ) → length xs ≤ i → slice_get (xs ++ ys) i ≡ slice_get ys (i - length xs)
slice_get-past_left xs ys i past =
    ap (slice_get (xs ++ ys)) (let e : i ≡ length xs + (i - length xs) = omega (arith, past) in e) ∙ slice_get-append_right xs ys (i - length xs)

pub slice_get-push : {X : Type 0} (xs : List X) (x : X) → slice_get (xs ++ x ∷ []) (length xs) ≡ Some x
slice_get-push xs x = ap (slice_get (xs ++ x ∷ [])) (let e : length xs ≡ length xs + 0 = omega arith in e) ∙ slice_get-append_right xs (x ∷ []) 0

pub get_within_take : {X : Type 0} (n i : ℕ) (xs : List X) (x : X) → slice_get (take n xs) i ≡ Some x → (i < n) × (slice_get xs i ≡ Some x)
get_within_take n i xs x at =
    let within = slice_get_within (take n xs) i x at in
    let low : i < n = omega (arith, within, length-take n xs) in
    (low, sym (slice_get-take n i xs low) ∙ at)

module _ {X : Type 0} where
  -- ---- some element

  pub at_any : (P : X → Type 0) (xs : List X) (k : ℕ) (x : X) → slice_get xs k ≡ Some x → P x → Any P xs
  at_any P xs k x at is = (k, x, slice_get_within xs k x at, get_or_from_slice_get xs k x x at, is)

  pub any_at : (P : X → Type 0) (xs : List X) → Any P xs → (k : ℕ) × (x : X) × (slice_get xs k ≡ Some x) × P x
  any_at P xs (k, x, within, is, holds) = (k, x, slice_get-get_or xs k x within ∙ ap Some is, holds)

  -- one that it is
  pub is_at : (xs : List X) (k : ℕ) (x : X) → slice_get xs k ≡ Some x → Any (◌≡◌ x) xs
  is_at xs k x at = at_any (◌≡◌ x) xs k x at refl

  pub at_is : (xs : List X) (x : X) → Any (◌≡◌ x) xs → (k : ℕ) × (slice_get xs k ≡ Some x)
  at_is xs x any = let (k, y, at, is) = any_at (◌≡◌ x) xs any in (k, at ∙ ap Some (sym is))

  pub any_map : (P Q : X → Type 0) (xs : List X) → ((x : X) → P x → Q x) → Any P xs → Any Q xs
  any_map P Q xs each (k, x, within, is, holds) = (k, x, within, is, each x holds)

  pub one_at : (xs : List X) (k : ℕ) (x y : X) → slice_get xs k ≡ Some x → slice_get xs k ≡ Some y → x ≡ y
  one_at xs k x y one other = same_Some x y (sym one ∙ other)

  pub there : (xs : List X) (k : ℕ) → k < length xs → (x : X) × (slice_get xs k ≡ Some x)
  there [] k within = absurd (omega (arith, within))
  there (x ∷ xs) zero within = (x, refl)
  there (x ∷ xs) (suc k) within = there xs k (omega (arith, within))

  -- ---- all

  pub all_at : (P : X → Type 0) (xs : List X) (k : ℕ) (x : X) → AllByRecursion P xs → slice_get xs k ≡ Some x → P x
  all_at P [] k x all at = absurd (none-some x at)
  all_at P (y ∷ xs) zero x all at = subst P (same_Some y x at) all.0
  all_at P (y ∷ xs) (suc k) x all at = all_at P xs k x all.1 at

  pub all_from : (P : X → Type 0) (xs : List X) → ((k : ℕ) (x : X) → slice_get xs k ≡ Some x → P x) → AllByRecursion P xs
  all_from P [] each = tt
  all_from P (x ∷ xs) each = (each zero x refl, all_from P xs (λ k y at. each (suc k) y at))

  pub all_map : (P Q : X → Type 0) (xs : List X) → ((x : X) → P x → Q x) → AllByRecursion P xs → AllByRecursion Q xs
  all_map P Q [] each all = tt
  all_map P Q (x ∷ xs) each all = (each x all.0, all_map P Q xs each all.1)

  -- ---- elements that are written, taken, put last

  pub set_at : (xs : List X) (k : ℕ) (x v : X) → slice_get xs k ≡ Some x → slice_get (set xs k v) k ≡ Some v
  set_at [] k x v at = absurd (none-some x at)
  set_at (y ∷ xs) zero x v at = refl
  set_at (y ∷ xs) (suc k) x v at = set_at xs k x v at

  pub set_other : (xs : List X) (k j : ℕ) (v : X) → (k ≡ j → ⊥) → slice_get (set xs k v) j ≡ slice_get xs j
  set_other [] k j v other = refl
  set_other (y ∷ xs) zero zero v other = absurd (other refl)
  set_other (y ∷ xs) zero (suc j) v other = refl
  set_other (y ∷ xs) (suc k) zero v other = refl
  set_other (y ∷ xs) (suc k) (suc j) v other = set_other xs k j v (λ e. other (ap suc e))

  pub at_push : (xs : List X) (k : ℕ) (x : X) → k ≡ length xs → slice_get (xs ++ x ∷ []) k ≡ Some x
  at_push xs k x is = ap (slice_get (xs ++ x ∷ [])) is ∙ slice_get-push xs x

  pub before_push : (xs : List X) (k : ℕ) (x : X) → k < length xs → slice_get (xs ++ x ∷ []) k ≡ slice_get xs k
  before_push xs k x within = slice_get-append_left xs (x ∷ []) k within

  pub past_take : (xs : List X) (n k : ℕ) → n ≤ k → slice_get (take n xs) k ≡ None
  past_take xs zero k high = refl
  past_take [] (suc n) k high = refl
  past_take (y ∷ xs) (suc n) zero high = absurd (omega (arith, high))
  past_take (y ∷ xs) (suc n) (suc k) high = past_take xs n k (omega (arith, high))

  -- ---- those that pass a test

  module _ (test : X → Bool) where
    at_kept : (y : X) (xs : List X) (k : ℕ) (x : X) → slice_get (cond (test y) (y ∷ filter test xs) (filter test xs)) k ≡ Some x
        → ((test y ≡ true) × (x ≡ y)) ⊎ ((j : ℕ) × (slice_get (filter test xs) j ≡ Some x))
    at_kept y xs k x at = elim (cases_Bool (test y)) [
      | inl e ↦ first k (sym (ap (λ l. slice_get l k) (cond-true (test y) (y ∷ filter test xs) (filter test xs) e)) ∙ at) e
      | inr e ↦ inr (k, sym (ap (λ l. slice_get l k) (cond-false (test y) (y ∷ filter test xs) (filter test xs) e)) ∙ at)
    ]
      where
        first : (k : ℕ) → slice_get (y ∷ filter test xs) k ≡ Some x → test y ≡ true → ((test y ≡ true) × (x ≡ y)) ⊎ ((j : ℕ) × (slice_get (filter test xs) j ≡ Some x))
        first zero at e = inl (e, sym (same_Some y x at))
        first (suc k) at e = inr (k, at)

    -- one that is kept is one of all, and passes
    pub kept_at : (xs : List X) (k : ℕ) (x : X) → slice_get (filter test xs) k ≡ Some x → (i : ℕ) × (slice_get xs i ≡ Some x) × (test x ≡ true)
    kept_at [] k x at = absurd (none-some x at)
    kept_at (y ∷ xs) k x at = elim (at_kept y xs k x at) [
      | inl (e, is) ↦ (zero, ap Some (sym is), subst (λ z. test z ≡ true) (sym is) e)
      | inr (j, there) ↦ let (i, its, passes) = kept_at xs j x there in (suc i, its, passes)
    ]

    pub at_kept_too : (xs : List X) (i : ℕ) (x : X) → slice_get xs i ≡ Some x → test x ≡ true → (k : ℕ) × (slice_get (filter test xs) k ≡ Some x)
    at_kept_too [] i x at passes = absurd (none-some x at)
    at_kept_too (y ∷ xs) zero x at passes =
        let is : y ≡ x = same_Some y x at in
        (zero, ap (λ l. slice_get l zero) (cond-true (test y) (y ∷ filter test xs) (filter test xs) (subst (λ z. test z ≡ true) (sym is) passes)) ∙ at)
    at_kept_too (y ∷ xs) (suc i) x at passes = let (k, there) = at_kept_too xs i x at passes in elim (cases_Bool (test y)) [
      | inl e ↦ (suc k, ap (λ l. slice_get l (suc k)) (cond-true (test y) (y ∷ filter test xs) (filter test xs) e) ∙ there)
      | inr e ↦ (k, ap (λ l. slice_get l k) (cond-false (test y) (y ∷ filter test xs) (filter test xs) e) ∙ there)
    ]

  pub some_of : (xs : List X) → (xs ≢ []) → (k : ℕ) × (x : X) × (slice_get xs k ≡ Some x)
  some_of [] some = absurd (some refl)
  some_of (x ∷ xs) some = (zero, x, refl)

  pub at_some : (xs : List X) (k : ℕ) (x : X) → slice_get xs k ≡ Some x → xs ≢ []
  at_some xs k x at = λ none. none-some x (sym (ap (λ l. slice_get l k) none) ∙ at)

  -- ---- the first

  pub first_from : (P : X → Type 0) (xs : List X) (k : ℕ) (x : X) → slice_get xs k ≡ Some x → P x → ((i : ℕ) (y : X) → i < k → slice_get xs i ≡ Some y → P y → ⊥) → IsFirst P xs x
  first_from P [] k x at is none = absurd (none-some x at)
  first_from P (y ∷ xs) zero x at is none = record { before = []; rest = xs; cut = ap (λ z. z ∷ xs) (same_Some y x at); others = tt; is = is }
  first_from P (y ∷ xs) (suc k) x at is none =
      let first : IsFirst P xs x = first_from P xs k x at is (λ i z low. none (suc i) z (omega (arith, low))) in
      record { before = y ∷ first.before; rest = first.rest; cut = ap (y ∷◌) first.cut; others = (none zero y (omega arith) refl, first.others); is = is }

  pub at_first : (P : X → Type 0) (xs : List X) (x : X) → IsFirst P xs x → (k : ℕ) × (slice_get xs k ≡ Some x)
  at_first P xs x first = let (k, at) = here first.before first.rest in (k, ap (λ l. slice_get l k) first.cut ∙ at)
    where
      here : (before rest : List X) → (k : ℕ) × (slice_get (before ++ x ∷ rest) k ≡ Some x)
      here [] rest = (zero, refl)
      here (y ∷ before) rest = let (k, at) = here before rest in (suc k, at)

  one_first_of : (P : X → Type 0) (x y : X) (before others rest other_rest : List X) → before ++ x ∷ rest ≡ others ++ y ∷ other_rest → AllByRecursion (λ z. P z → ⊥) before
      → AllByRecursion (λ z. P z → ⊥) others → P x → P y → x ≡ y
  one_first_of P x y [] [] rest other_rest same none nor is is_too = cc
  one_first_of P x y [] (z ∷ others) rest other_rest same none nor is is_too = let e : x ≡ z = cc in absurd (nor.0 (subst P e is))
  one_first_of P x y (z ∷ before) [] rest other_rest same none nor is is_too = let e : y ≡ z = cc in absurd (none.0 (subst P e is_too))
  one_first_of P x y (z ∷ before) (w ∷ others) rest other_rest same none nor is is_too =
      let e : before ++ x ∷ rest ≡ others ++ y ∷ other_rest = cc in one_first_of P x y before others rest other_rest e none.1 nor.1 is is_too

  pub one_first : (P : X → Type 0) (xs : List X) (x y : X) → IsFirst P xs x → IsFirst P xs y → x ≡ y
  one_first P xs x y first other = one_first_of P x y first.before other.before first.rest other.rest (sym first.cut ∙ other.cut) first.others other.others first.is other.is

module _ {X Y : Type 0} (R : X → Y → Type 0) where
  pub zip_at : (xs : List X) (ys : List Y) (k : ℕ) (x : X) → AllZip R xs ys → slice_get xs k ≡ Some x → (y : Y) × (slice_get ys k ≡ Some y) × R x y
  zip_at [] ys k x all at = absurd (none-some x at)
  zip_at (z ∷ xs) [] k x all at = absurd all
  zip_at (z ∷ xs) (y ∷ ys) zero x all at = (y, refl, subst (λ w. R w y) (same_Some z x at) all.0)
  zip_at (z ∷ xs) (y ∷ ys) (suc k) x all at = zip_at xs ys k x all.1 at

  pub zip_back : (xs : List X) (ys : List Y) (k : ℕ) (y : Y) → AllZip R xs ys → slice_get ys k ≡ Some y → (x : X) × (slice_get xs k ≡ Some x) × R x y
  zip_back xs [] k y all at = absurd (none-some y at)
  zip_back [] (z ∷ ys) k y all at = absurd all
  zip_back (x ∷ xs) (z ∷ ys) zero y all at = (x, refl, subst (R x) (same_Some z y at) all.0)
  zip_back (x ∷ xs) (z ∷ ys) (suc k) y all at = zip_back xs ys k y all.1 at

  pub zip_both : (xs : List X) (ys : List Y) (k : ℕ) (x : X) (y : Y) → AllZip R xs ys → slice_get xs k ≡ Some x → slice_get ys k ≡ Some y → R x y
  zip_both xs ys k x y all at at_too = let (z, its, holds) = zip_at xs ys k x all at in subst (R x) (one_at ys k z y its at_too) holds

  pub zip_from : (xs : List X) (ys : List Y) → length xs ≡ length ys → ((k : ℕ) (x : X) (y : Y) → slice_get xs k ≡ Some x → slice_get ys k ≡ Some y → R x y) → AllZip R xs ys
  zip_from [] [] same each = tt
  zip_from [] (y ∷ ys) same each = absurd (omega (arith, same))
  zip_from (x ∷ xs) [] same each = absurd (omega (arith, same))
  zip_from (x ∷ xs) (y ∷ ys) same each = (each zero x y refl refl, zip_from xs ys (omega (arith, same)) (λ k z w one other. each (suc k) z w one other))

  pub zip_length : (xs : List X) (ys : List Y) → AllZip R xs ys → length xs ≡ length ys
  zip_length [] [] all = refl
  zip_length [] (y ∷ ys) all = absurd all
  zip_length (x ∷ xs) [] all = absurd all
  zip_length (x ∷ xs) (y ∷ ys) all = ap suc (zip_length xs ys all.1)

  pub zip_none : (xs : List X) (ys : List Y) (k : ℕ) → AllZip R xs ys → slice_get xs k ≡ None → slice_get ys k ≡ None
  zip_none [] [] k all at = refl
  zip_none [] (b ∷ ys) k all at = absurd all
  zip_none (a ∷ xs) [] k all at = absurd all
  zip_none (a ∷ xs) (b ∷ ys) zero all at = absurd (none-some a (sym at))
  zip_none (a ∷ xs) (b ∷ ys) (suc k) all at = zip_none xs ys k all.1 at

  pub zip_push : (xs : List X) (ys : List Y) (x : X) (y : Y) → AllZip R xs ys → R x y → AllZip R (xs ++ x ∷ []) (ys ++ y ∷ [])
  zip_push [] [] x y all is = (is, tt)
  zip_push [] (z ∷ ys) x y all is = absurd all
  zip_push (z ∷ xs) [] x y all is = absurd all
  zip_push (z ∷ xs) (w ∷ ys) x y all is = (all.0, zip_push xs ys x y all.1 is)

  pub zip_map : (S : X → Y → Type 0) → ((x : X) (y : Y) → R x y → S x y) → (xs : List X) (ys : List Y) → AllZip R xs ys → AllZip S xs ys
  zip_map S each [] [] all = tt
  zip_map S each [] (y ∷ ys) all = absurd all
  zip_map S each (x ∷ xs) [] all = absurd all
  zip_map S each (x ∷ xs) (y ∷ ys) all = (each x y all.0, zip_map S each xs ys all.1)

-- what is told of an answer
pub ok_map : {A E : Type 0} (r : Result A E) (P Q : A → Type 0) → IfOk r P → ((x : A) → P x → Q x) → IfOk r Q
ok_map (Ok x) P Q told on = on x told
ok_map (Err e) P Q told on = tt

pub ok_both : {A E : Type 0} (r : Result A E) (P Q R : A → Type 0) → IfOk r P → IfOk r Q → ((x : A) → P x → Q x → R x) → IfOk r R
ok_both (Ok x) P Q R told told_too on = on x told told_too
ok_both (Err e) P Q R told told_too on = tt

pub match_map : {A : Type 0} (o : Option A) (P R : Type 0) (Q S : A → Type 0) → MatchOption o P Q → (P → R) → ((x : A) → Q x → S x) → MatchOption o R S
match_map None P R Q S told none some = none told
match_map (Some x) P R Q S told none some = some x told
