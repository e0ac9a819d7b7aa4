-- Functions changed at one argument.
use Rattle.std.proofs.Common.{◌≡◌, ◌≢◌, ℕ, Bool, true, false, List, refl}
use Rattle.std.specs.Prelude.{bytes_eq, ◌==◌}
use Rattle.std.proofs.lemmas.Bool.{cond-true, cond-false, cond_both, eq-eqb, ne_eqb}
use Rattle.std.proofs.lemmas.Slice.Eq.{bytes_eq-Decides}
use Rattle.rec_disk.specs.Disk.{put, set}

pub set_same : {X : Type 0} (f : ℕ → X) (n m : ℕ) (x : X) → m ≡ n → set f n x m ≡ x
set_same f n m x e = cond-true (m == n) x (f m) (eq-eqb m n e)

pub set_other : {X : Type 0} (f : ℕ → X) (n m : ℕ) (x : X) → m ≢ n → set f n x m ≡ f m
set_other f n m x ne = cond-false (m == n) x (f m) (ne_eqb m n ne)

-- what holds of the new value and of the old one
pub set_kept : {X : Type 0} (f : ℕ → X) (n m : ℕ) (x : X) {y : X} → x ≡ y → f m ≡ y → set f n x m ≡ y
set_kept f n m x {y} new old = cond_both (m == n) x (f m) (λ z. z ≡ y) (λ _. new) (λ _. old)

pub eq_bytes : (p q : List ℕ) → p ≡ q → bytes_eq p q ≡ true
eq_bytes p q e = (bytes_eq-Decides p q).1 e

not_true : (b : Bool) → (b ≡ true → ⊥) → b ≡ false
not_true true isnt = absurd (isnt refl)
not_true false isnt = refl

pub ne_bytes : (p q : List ℕ) → p ≢ q → bytes_eq p q ≡ false
ne_bytes p q ne = not_true (bytes_eq p q) (λ e. ne ((bytes_eq-Decides p q).0 e))

pub put_same : {X : Type 0} (f : List ℕ → X) (p q : List ℕ) (x : X) → q ≡ p → put f p x q ≡ x
put_same f p q x e = cond-true (bytes_eq q p) x (f q) (eq_bytes q p e)

pub put_other : {X : Type 0} (f : List ℕ → X) (p q : List ℕ) (x : X) → q ≢ p → put f p x q ≡ f q
put_other f p q x ne = cond-false (bytes_eq q p) x (f q) (ne_bytes q p ne)
