-- A place in the first row of a hunk tells how many lines stand before it.
use Rattle.std.proofs.Common.{◌≡◌, ◌∙◌, ℕ, ◌+◌, ◌-◌, ◌%◌, ◌<◌, ◌≤◌, ◌^◌, cond, eqb, List, [], ◌∷◌}
use Rattle.std.proofs.Common.{◌++◌, length, drop, refl, sym, ap, subst, inl, inr, append_assoc, length-append, arith}
use Rattle.std.specs.Prelude.{◌≢◌, decimal}
use Rattle.std.specs.Str.Parse.{digits_value}
use Rattle.std.proofs.lemmas.Bool.{cases_Bool, cond-true, cond-false, eq-eqb, eqb-true, ne_eqb}
use Rattle.std.proofs.lemmas.Fmt.{decimal_by_steps, decimal_is_IsNumeral}
use Rattle.std.proofs.lemmas.List.{drop_at}
use Rattle.rec_text.specs.Bytes.{is_nil}
use Rattle.rec_diff.specs.Lines.{lines, line_count}
use Rattle.rec_diff.specs.Diff.{span}
use Rattle.rec_diff.specs.Patched.{before_byte, after_byte, number_before, lines_before, after_place}
use Rattle.rec_diff.proofs.lemmas.LineLemmas.{length-lines}
use Rattle.rec_diff.proofs.lemmas.RestLemmas.{some_count}
use Rattle.rec_diff.proofs.lemmas.ShareLemmas.{text_of, text_of-lines}

-- these bytes have none of a kind
abbrev HasNone : ℕ → List ℕ → Type 0
HasNone byte [] = Unit {0}
HasNone byte (b ∷ bs) = (b ≢ byte) × HasNone byte bs

HasNone-append : (byte : ℕ) (s t : List ℕ) → HasNone byte s → HasNone byte t → HasNone byte (s ++ t)
HasNone-append byte [] t p q = q
HasNone-append byte (b ∷ bs) t p q = (p.0, HasNone-append byte bs t p.1 q)

HasNone-decimal : (byte n : ℕ) → byte < 48 → n < 2 ^ 64 → HasNone byte (decimal n)
HasNone-decimal byte n low fits =
    decimal_by_steps (λ _ ds. HasNone byte ds) (λ d small. (λ e. omega (arith, low), tt))
    (λ m ds large p. HasNone-append byte ds ((48 + m % 10) ∷ []) p (λ e. omega (arith, low), tt)) n fits

before_byte-first : (byte : ℕ) (s t : List ℕ) → HasNone byte s → before_byte byte (s ++ byte ∷ t) ≡ s
before_byte-first byte [] t none = cond-true (eqb byte byte) _ _ (eq-eqb byte byte refl)
before_byte-first byte (b ∷ bs) t none = cond-false (eqb b byte) _ _ (ne_eqb b byte none.0) ∙ ap (b ∷◌) (before_byte-first byte bs t none.1)

after_byte-first : (byte : ℕ) (s t : List ℕ) → HasNone byte s → after_byte byte (s ++ byte ∷ t) ≡ t
after_byte-first byte s t none =
    ap (λ ds. drop (length ds + 1) (s ++ byte ∷ t)) (before_byte-first byte s t none)
    ∙ ap (drop (length s + 1)) (sym (append_assoc s (byte ∷ []) t))
    ∙ drop_at (s ++ byte ∷ []) t (length s + 1) (length-append s (byte ∷ []))

number_before-decimal : (byte n : ℕ) (t : List ℕ) → byte < 48 → n < 2 ^ 64 → number_before byte (decimal n ++ byte ∷ t) ≡ n
number_before-decimal byte n t low fits =
    ap (digits_value 10) (before_byte-first byte (decimal n) t (HasNone-decimal byte n low fits)) ∙ (decimal_is_IsNumeral n fits).1

no_lines : (ls : List (List ℕ)) → length ls ≡ 0 → text_of ls ≡ []
no_lines [] none = refl
no_lines (l ∷ ls) none = absurd (omega (arith, none))

some_lines : (b : ℕ) (bs : List ℕ) → 1 ≤ line_count (b ∷ bs)
some_lines b bs = elim (cases_Bool (eqb (line_count (b ∷ bs)) 0)) [
  | inl e ↦
      let none : length (lines (b ∷ bs)) ≡ 0 = length-lines (b ∷ bs) ∙ eqb-true (line_count (b ∷ bs)) 0 e in
      let gone : length (b ∷ bs) ≡ 0 = ap length (sym (text_of-lines (b ∷ bs)) ∙ no_lines (lines (b ∷ bs)) none) in
      absurd (omega (arith, gone))
  | inr e ↦ let some = some_count (line_count (b ∷ bs)) e in omega (arith, some)
]

-- a place tells how many lines stand before it
module _ (passed : ℕ) (part rest : List ℕ) (fits : passed + 1 < 2 ^ 64) (few : line_count part < 2 ^ 64) where
  abbrev first : ℕ
  first = passed + cond (is_nil part) 0 1

  pub first_fits : first < 2 ^ 64
  first_fits = elim (cases_Bool (is_nil part)) [
    | inl e ↦ subst (λ b. passed + cond b 0 1 < 2 ^ 64) (sym e) (omega (arith, fits))
    | inr e ↦ subst (λ b. passed + cond b 0 1 < 2 ^ 64) (sym e) fits
  ]

  place_text : span passed part ++ 32 ∷ rest ≡ decimal first ++ 44 ∷ (decimal (line_count part) ++ 32 ∷ rest)
  place_text = append_assoc (decimal first) (44 ∷ decimal (line_count part)) (32 ∷ rest)

  count_at : number_before 32 (after_byte 44 (span passed part ++ 32 ∷ rest)) ≡ line_count part
  count_at =
      ap (λ t. number_before 32 (after_byte 44 t)) place_text
      ∙ ap (number_before 32) (after_byte-first 44 (decimal first) (decimal (line_count part) ++ 32 ∷ rest) (HasNone-decimal 44 first (omega arith) first_fits))
      ∙ number_before-decimal 32 (line_count part) rest (omega arith) few

  first_at : number_before 44 (span passed part ++ 32 ∷ rest) ≡ first
  first_at = ap (number_before 44) place_text ∙ number_before-decimal 44 first (decimal (line_count part) ++ 32 ∷ rest) (omega arith) first_fits

  pub after_place-span : after_place (span passed part ++ 32 ∷ rest) ≡ rest
  after_place-span =
      ap (λ t. after_byte 32 (after_byte 44 t)) place_text
      ∙ ap (after_byte 32) (after_byte-first 44 (decimal first) (decimal (line_count part) ++ 32 ∷ rest) (HasNone-decimal 44 first (omega arith) first_fits))
      ∙ after_byte-first 32 (decimal (line_count part)) rest (HasNone-decimal 32 (line_count part) (omega arith) few)

  by_count : (p : List ℕ) (k n : ℕ) → k ≡ line_count p → n ≡ passed + cond (is_nil p) 0 1 → cond (eqb k 0) n (n - 1) ≡ passed
  by_count [] k n count is = ap (λ j. cond (eqb j 0) n (n - 1)) count ∙ is ∙ (let e : passed + 0 ≡ passed = omega arith in e)
  by_count (b ∷ bs) k n count is =
      let some = some_lines b bs in
      cond-false (eqb k 0) n (n - 1) (ne_eqb k 0 (λ none. omega (arith, some, count, none))) ∙ (let e : n - 1 ≡ passed = omega (arith, is) in e)

  pub lines_before-span : lines_before (span passed part ++ 32 ∷ rest) ≡ passed
  lines_before-span = by_count part _ _ count_at first_at
