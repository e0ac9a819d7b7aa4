-- A text with `#` before each physical line, as it is written.
use Rattle.std.proofs.Common.{◌≡◌, ◌∙◌, ℕ, ◌<◌, List, [], ◌∷◌, ◌++◌, length, map, refl, ap, sym, arith, append_assoc, append-nil}
use Rattle.std.proofs.lemmas.Bool.{cond-false, ne_eqb}
use Rattle.rec_text.specs.Elements.{text_of}
use Rattle.rec_edit.specs.Rules.{physical_lines, comments_of}
use Rattle.rec_text.specs.declared.element.Kind.TheVariants.{Comment}
use Rattle.rec_text.specs.Lines.{HasNoNewline, BeginsWithLine}
use Rattle.rec_text.specs.Values.{on_first}

-- ---- physical lines, and the comments that they become

physical_lines-line : (line following : List ℕ) → HasNoNewline line → physical_lines (line ++ 10 ∷ following) ≡ (line ++ 10 ∷ []) ∷ physical_lines following
physical_lines-line [] following unbroken = refl
physical_lines-line (b ∷ line) following unbroken =
    cond-false _ _ _ (ne_eqb b 10 unbroken.0) ∙ ap (on_first b) (physical_lines-line line following unbroken.1)

physical_lines-last : (b : ℕ) (line : List ℕ) → HasNoNewline (b ∷ line) → physical_lines (b ∷ line) ≡ (b ∷ line) ∷ []
physical_lines-last b [] unbroken = cond-false _ _ _ (ne_eqb b 10 unbroken.0)
physical_lines-last b (c ∷ line) unbroken =
    cond-false _ _ _ (ne_eqb b 10 unbroken.0) ∙ ap (on_first b) (physical_lines-last c line unbroken.1)

text_of-comments_line : (line following : List ℕ) → HasNoNewline line → text_of (comments_of (line ++ 10 ∷ following)) ≡ 35 ∷ (line ++ 10 ∷ text_of (comments_of following))
text_of-comments_line line following unbroken =
    ap (λ lines. text_of (map (λ l. record { kind = Comment; bytes = 35 ∷ l }) lines)) (physical_lines-line line following unbroken)
    ∙ ap (λ t. 35 ∷ t) (append_assoc line (10 ∷ []) (text_of (comments_of following)))

-- a line is appended, with `#` before it
pub comment_next : {rest line following : List ℕ} (whole out marked lined ended : List ℕ) → out ++ text_of (comments_of rest) ≡ whole → BeginsWithLine rest line following
    → marked ≡ out ++ 35 ∷ [] → lined ≡ marked ++ line → ended ≡ lined ++ 10 ∷ [] → ended ++ text_of (comments_of following) ≡ whole
comment_next {rest} {line} {following} whole out marked lined ended so_far begins mark text newline =
    let first : text_of (comments_of rest) ≡ 35 ∷ (line ++ 10 ∷ text_of (comments_of following)) =
    ap (λ t. text_of (comments_of t)) begins.whole ∙ text_of-comments_line line following begins.first in
    let appended : ended ++ text_of (comments_of following) ≡ out ++ 35 ∷ (line ++ 10 ∷ text_of (comments_of following)) =
    rw (newline, text, mark) (simp append_assoc) in
    appended ∙ ap (λ t. out ++ t) (sym first) ∙ so_far

-- the last line lacks its newline
pub comment_last : (whole out rest : List ℕ) → out ++ text_of (comments_of rest) ≡ whole → HasNoNewline rest → 0 < length rest → (out ++ 35 ∷ []) ++ rest ≡ whole
comment_last whole out [] so_far unbroken some = absurd (omega arith)
comment_last whole out (b ∷ rest) so_far unbroken some =
    append_assoc out (35 ∷ []) (b ∷ rest)
    ∙ ap (λ t. out ++ 35 ∷ t) (sym (append-nil (b ∷ rest)))
    ∙ ap (λ lines. out ++ text_of (map (λ l. record { kind = Comment; bytes = 35 ∷ l }) lines)) (sym (physical_lines-last b rest unbroken)) ∙ so_far

-- nothing stands after the last newline
pub comment_none : (whole out rest : List ℕ) → out ++ text_of (comments_of rest) ≡ whole → length rest ≡ 0 → out ≡ whole
comment_none whole out [] so_far none = sym (append-nil out) ∙ so_far
comment_none whole out (b ∷ rest) so_far none = absurd (omega arith)
