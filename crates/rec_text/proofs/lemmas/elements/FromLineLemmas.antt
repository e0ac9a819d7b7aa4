-- What stands from a line of a text on.
use Rattle.std.proofs.Common.{◌≡◌, ℕ, List, [], ◌∷◌, ◌++◌, zero, suc, refl, ap, ◌∙◌}
use Rattle.std.proofs.lemmas.Bool.{ne_eqb}
use Rattle.rec_text.specs.Lines.{HasNoNewline, BeginsWithLine, first_line, after_line, after_lines}

pub first_line-whole : (text : List ℕ) → HasNoNewline text → first_line text ≡ text
first_line-whole [] none = refl
first_line-whole (b ∷ bs) none = rw (ne_eqb b 10 none.0) (ap (b ∷◌) (first_line-whole bs none.1))

first_line-append : (line rest : List ℕ) → HasNoNewline line → first_line (line ++ 10 ∷ rest) ≡ line
first_line-append [] rest none = refl
first_line-append (b ∷ bs) rest none = rw (ne_eqb b 10 none.0) (ap (b ∷◌) (first_line-append bs rest none.1))

pub first_line-cut : (text line rest : List ℕ) → BeginsWithLine text line rest → first_line text ≡ line
first_line-cut text line rest cut = ap first_line cut.whole ∙ first_line-append line rest cut.first

after_line-none : (text : List ℕ) → HasNoNewline text → after_line text ≡ []
after_line-none [] none = refl
after_line-none (b ∷ bs) none = rw (ne_eqb b 10 none.0) (after_line-none bs none.1)

after_line-append : (line rest : List ℕ) → HasNoNewline line → after_line (line ++ 10 ∷ rest) ≡ rest
after_line-append [] rest none = refl
after_line-append (b ∷ bs) rest none = rw (ne_eqb b 10 none.0) (after_line-append bs rest none.1)

after_lines-empty : (n : ℕ) → after_lines n [] ≡ []
after_lines-empty zero = refl
after_lines-empty (suc n) = after_lines-empty n

pub after_lines-cut : (n m : ℕ) (text line rest : List ℕ) → n ≡ suc m → BeginsWithLine text line rest → after_lines n text ≡ after_lines m rest
after_lines-cut n m text line rest more cut =
    ap (λ k. after_lines k text) more ∙ ap (after_lines m) (ap after_line cut.whole ∙ after_line-append line rest cut.first)

pub after_lines-end : (n m : ℕ) (text : List ℕ) → n ≡ suc m → HasNoNewline text → after_lines n text ≡ []
after_lines-end n m text more none =
    ap (λ k. after_lines k text) more ∙ ap (after_lines m) (after_line-none text none) ∙ after_lines-empty m
