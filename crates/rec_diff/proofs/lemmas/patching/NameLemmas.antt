-- The two lines of the name.
use Rattle.std.proofs.Common.{◌≡◌, ◌∙◌, ℕ, ◌+◌, ◌/◌, ◌%◌, cond, eqb, Bool, true, false, ◌||◌, not, List, [], ◌∷◌}
use Rattle.std.proofs.Common.{◌++◌, drop, refl, sym, ap, subst, inl, inr, append_assoc, arith}
use Rattle.std.specs.Prelude.{◌≢◌, codes}
use Rattle.std.specs.List.{flat_map, list_any}
use Rattle.std.proofs.lemmas.Bool.{cases_Bool, cond-true, cond-false, false≢true}
use Rattle.rec_text.specs.Bytes.{begins}
use Rattle.rec_text.specs.Lines.{HasNoNewline}
use Rattle.rec_diff.specs.Lines.{lines}
use Rattle.rec_diff.specs.Diff.{is_plain_byte, quoted_byte, is_odd, label, names}
use Rattle.rec_diff.proofs.lemmas.LineLemmas.{lines_line}
use Rattle.rec_diff.proofs.lemmas.patching.NoNewlineLemmas.{HasNoNewline-append, plain_first, HasNoNewline-cond}

or_parts : (x y : Bool) → (x || y) ≡ false → (x ≡ false) × (y ≡ false)
or_parts true y e = absurd (false≢true (sym e))
or_parts false y e = (refl, e)

not_false : (x : Bool) → not x ≡ false → x ≡ true
not_false true e = refl
not_false false e = absurd (false≢true (sym e))

plain_byte : (b : ℕ) → is_plain_byte b ≡ true → b ≢ 10
plain_byte b plain = λ is. false≢true (subst (λ x. is_plain_byte x ≡ true) is plain)

-- what stands for a byte that isn't plain
abbrev special : ℕ → List ℕ
special b = cond (eqb b 34 || eqb b 92) (92 ∷ b ∷ []) (92 ∷ (48 + (b / 64)) ∷ (48 + ((b / 8) % 8)) ∷ (48 + (b % 8)) ∷ [])

digit_plain : (x : ℕ) (bs : List ℕ) → HasNoNewline bs → HasNoNewline ((48 + x) ∷ bs)
digit_plain x bs rest = ((λ e. omega (arith, e)), rest)

HasNoNewline-special : (b : ℕ) → HasNoNewline (special b)
HasNoNewline-special b = elim (cases_Bool (eqb b 34 || eqb b 92)) [
  | inl f ↦ subst HasNoNewline (sym (cond-true (eqb b 34 || eqb b 92) _ _ f)) (plain_first 92 (b ∷ []) refl ((λ is. false≢true (subst (λ x. (eqb x 34 || eqb x 92) ≡ true) is f)), tt))
  | inr f ↦
      let octal : HasNoNewline (92 ∷ (48 + (b / 64)) ∷ (48 + ((b / 8) % 8)) ∷ (48 + (b % 8)) ∷ []) =
      plain_first 92 ((48 + (b / 64)) ∷ (48 + ((b / 8) % 8)) ∷ (48 + (b % 8)) ∷ []) refl
      (digit_plain (b / 64) ((48 + ((b / 8) % 8)) ∷ (48 + (b % 8)) ∷ []) (digit_plain ((b / 8) % 8) ((48 + (b % 8)) ∷ []) (digit_plain (b % 8) [] tt))) in
      subst HasNoNewline (sym (cond-false (eqb b 34 || eqb b 92) (92 ∷ b ∷ []) (92 ∷ (48 + (b / 64)) ∷ (48 + ((b / 8) % 8)) ∷ (48 + (b % 8)) ∷ []) f)) octal
]

HasNoNewline-quoted_byte : (b : ℕ) → HasNoNewline (quoted_byte b)
HasNoNewline-quoted_byte b = elim (cases_Bool (is_plain_byte b)) [
  | inl e ↦ subst HasNoNewline (sym (cond-true (is_plain_byte b) (b ∷ []) (special b) e)) (plain_byte b e, tt)
  | inr e ↦ subst HasNoNewline (sym (cond-false (is_plain_byte b) (b ∷ []) (special b) e)) (HasNoNewline-special b)
]

HasNoNewline-quoted : (name : List ℕ) → HasNoNewline (flat_map quoted_byte name)
HasNoNewline-quoted [] = tt
HasNoNewline-quoted (b ∷ bs) = HasNoNewline-append (quoted_byte b) (flat_map quoted_byte bs) (HasNoNewline-quoted_byte b) (HasNoNewline-quoted bs)

HasNoNewline-plain : (name : List ℕ) → list_any (λ b. not (is_plain_byte b)) name ≡ false → HasNoNewline name
HasNoNewline-plain [] plain = tt
HasNoNewline-plain (b ∷ bs) plain =
    let parts = or_parts (not (is_plain_byte b)) (list_any (λ x. not (is_plain_byte x)) bs) plain in
    (plain_byte b (not_false (is_plain_byte b) parts.0), HasNoNewline-plain bs parts.1)

HasNoNewline-label : (name : List ℕ) → HasNoNewline (label name)
HasNoNewline-label name = elim (cases_Bool (is_odd name)) [
  | inl e ↦
      subst HasNoNewline (sym (cond-true (is_odd name) _ _ e))
      (plain_first 34 _ refl (HasNoNewline-append (flat_map quoted_byte name) (34 ∷ []) (HasNoNewline-quoted name) (plain_first 34 [] refl tt)))
  | inr e ↦
      subst HasNoNewline (sym (cond-false (is_odd name) _ _ e))
      (HasNoNewline-append name _ (HasNoNewline-plain name (or_parts (begins (λ b. eqb b 32) name) _ e).1)
      (HasNoNewline-cond (list_any (λ b. eqb b 32) name) (9 ∷ []) [] (plain_first 9 [] refl tt) tt))
]

-- a mark three times, and a name after a space
marks_plain : (b : ℕ) (name : List ℕ) → eqb b 10 ≡ false → HasNoNewline name → HasNoNewline (b ∷ b ∷ b ∷ 32 ∷ name)
marks_plain b name plain rest =
    plain_first b (b ∷ b ∷ 32 ∷ name) plain (plain_first b (b ∷ 32 ∷ name) plain (plain_first b (32 ∷ name) plain (plain_first 32 name refl rest)))

-- the two lines of the name
pub names_lines : (name rest : List ℕ) → drop 2 (lines (names name ++ rest)) ≡ lines rest
names_lines name rest =
    let one = codes "--- " ++ label name in
    let two = codes "+++ " ++ label name in
    let plain = HasNoNewline-label name in
    let parts : names name ++ rest ≡ one ++ 10 ∷ (two ++ 10 ∷ rest) =
    append_assoc one (10 ∷ (two ++ 10 ∷ [])) rest ∙ ap (λ t. one ++ 10 ∷ t) (append_assoc two (10 ∷ []) rest) in
    ap (λ t. drop 2 (lines t)) parts
    ∙ ap (drop 2)
    (lines_line one (two ++ 10 ∷ rest) (marks_plain 45 (label name) refl plain)
    ∙ ap (λ ls. (one ++ 10 ∷ []) ∷ ls) (lines_line two rest (marks_plain 43 (label name) refl plain)))
