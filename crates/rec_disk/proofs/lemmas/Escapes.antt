-- What is told of characters and of digits.
use Rattle.std.proofs.Common.{◌≡◌, ℕ, ◌+◌, ◌/◌, ◌%◌, ◌<◌, ◌≤◌, Bool, true, false, cond, List, [], ◌∷◌, ◌++◌, codes, refl, ap, ap₂, ◌∙◌, append-nil, arith}
use Rattle.std.specs.Char.{encode_utf8, is_control}
use Rattle.std.specs.Fmt.{decimal}
use Rattle.std.proofs.lemmas.Bool.{le-ltb, lt-ltb}
use Rattle.std.proofs.lemmas.Bool.Decides.{nat_tests}
use Rattle.std.proofs.lemmas.Fmt.{decimal_digit}
use Rattle.rec_disk.specs.Escapes.{escaped_character, octal}

-- a digit below 8
pub decimal_octal : (n : ℕ) → decimal (n % 8) ≡ (48 + n % 8) ∷ []
decimal_octal n = decimal_digit (n % 8) (omega arith)

control_below : (c : ℕ) → is_control c ≡ true → c < 160
control_below c e = grind (arith, nat_tests)

second_of : (x y : Bool) (a b c : List ℕ) → x ≡ false → y ≡ true → cond x a (cond y b c) ≡ b
second_of x y a b c e f = rw (e, f) refl

two_bytes : (c : ℕ) → 128 ≤ c → c < 160 → encode_utf8 c ≡ 194 ∷ c ∷ []
unfolding encode_utf8
two_bytes c low high =
    let first : 192 + c / 64 ≡ 194 = omega arith in
    let next : 128 + c % 64 ≡ c = omega arith in
    second_of _ _ _ _ _ (le-ltb c 128 low) (lt-ltb c 2048 (omega arith)) ∙ ap₂ (λ x y. x ∷ y ∷ []) first next

pub escaped_beyond : (c : ℕ) → is_control c ≡ true → 128 ≤ c → escaped_character c ≡ codes "\\302" ++ octal c
escaped_beyond c e large = rw (e, two_bytes c large (control_below c e)) (ap (λ l. octal 194 ++ l) (append-nil (octal c)))
