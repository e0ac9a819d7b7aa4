-- The first row of a hunk, and the numbers of lines at which it begins.
use Rattle.std.proofs.Common.{◌≡◌, ◌∙◌, ℕ, ◌+◌, ◌<◌, ◌^◌, cond, eqb, ◌&&◌, List, [], ◌∷◌}
use Rattle.std.proofs.Common.{◌++◌, drop, refl, sym, ap, ap₂, subst, inl, inr, append_assoc}
use Rattle.std.specs.Prelude.{codes, decimal, reverse}
use Rattle.std.specs.Option.{is_some}
use Rattle.std.proofs.lemmas.Bool.{cases_Bool, cond-true, cond-false}
use Rattle.rec_text.specs.Bytes.{is_nil}
use Rattle.rec_text.specs.Elements.{colon_of}
use Rattle.rec_text.specs.Lines.{HasNoNewline}
use Rattle.rec_journal.proofs.lemmas.events.UniqueLemmas.{HasNoNewline-decimal}
use Rattle.rec_diff.specs.Changes.{Stretch, stays, turns}
use Rattle.rec_diff.specs.Lines.{lines, line_count}
use Rattle.rec_diff.specs.Diff.{begins_blank, found_at, found_in, first_field, after_space, heading, heading_of, span, head}
use Rattle.rec_diff.specs.Patched.{lines_before, after_skip, patched}
use Rattle.rec_diff.proofs.lemmas.LineLemmas.{lines_line}
use Rattle.rec_diff.proofs.lemmas.patching.NumberLemmas.{first_fits, after_place-span, lines_before-span}
use Rattle.rec_diff.proofs.lemmas.patching.NoNewlineLemmas.{HasNoNewline-append, plain_first, HasNoNewline-reverse, HasNoNewline-cond}

HasNoNewline-found_at : (found line : List ℕ) → HasNoNewline found → HasNoNewline line → HasNoNewline (found_at found line)
HasNoNewline-found_at found line p q =
    HasNoNewline-cond (begins_blank line) [] (cond (is_nil found && is_some (colon_of line)) line found) tt (HasNoNewline-cond (is_nil found && is_some (colon_of line)) line found q p)

HasNoNewline-found_in : (found line text : List ℕ) → HasNoNewline found → HasNoNewline line → HasNoNewline (found_in found line text)
HasNoNewline-found_in found line [] p q = p
HasNoNewline-found_in found line (b ∷ bs) p q = elim (cases_Bool (eqb b 10)) [
  | inl e ↦
      subst HasNoNewline (sym (cond-true (eqb b 10) _ _ e))
      (HasNoNewline-found_in (found_at found (reverse line)) [] bs (HasNoNewline-found_at found (reverse line) p (HasNoNewline-reverse line q)) tt)
  | inr e ↦ subst HasNoNewline (sym (cond-false (eqb b 10) _ _ e)) (HasNoNewline-found_in found (b ∷ line) bs p (plain_first b line e q))
]

HasNoNewline-after_space : (s : List ℕ) → HasNoNewline s → HasNoNewline (after_space s)
HasNoNewline-after_space [] p = tt
HasNoNewline-after_space (b ∷ bs) p = plain_first 32 (b ∷ bs) refl p

HasNoNewline-heading : (before shown : List ℕ) → HasNoNewline (heading before shown)
HasNoNewline-heading before shown =
    HasNoNewline-cond (begins_blank shown) [] (after_space (first_field before)) tt (HasNoNewline-after_space (first_field before) (HasNoNewline-found_in [] [] before tt tt))

pub HasNoNewline-heading_of : (before : List ℕ) (ps : List Stretch) → HasNoNewline (heading_of before ps)
HasNoNewline-heading_of before [] = tt
HasNoNewline-heading_of before (stays t ∷ ps) = HasNoNewline-heading_of (before ++ t) ps
HasNoNewline-heading_of before (turns o n ∷ ps) = HasNoNewline-heading before (cond (is_nil o) n o)

HasNoNewline-span : (passed : ℕ) (part : List ℕ) → passed + 1 < 2 ^ 64 → line_count part < 2 ^ 64 → HasNoNewline (span passed part)
HasNoNewline-span passed part fits few =
    HasNoNewline-append (decimal (passed + cond (is_nil part) 0 1)) (44 ∷ decimal (line_count part))
    (HasNoNewline-decimal (passed + cond (is_nil part) 0 1) (first_fits passed part [] fits few)) (plain_first 44 (decimal (line_count part)) refl (HasNoNewline-decimal (line_count part) few))

-- the head without its newline
abbrev open_head : ℕ → ℕ → List ℕ → List ℕ → List ℕ → List ℕ
open_head p m old new name = codes "@@ -" ++ (span p old ++ (codes " +" ++ (span m new ++ (codes " @@" ++ name))))

head-open : (p m : ℕ) (old new name : List ℕ) → head p m old new name ≡ open_head p m old new name ++ 10 ∷ []
head-open p m old new name =
    ap (λ t. codes "@@ -" ++ t)
    (ap (λ t. span p old ++ (codes " +" ++ t)) (sym (append_assoc (span m new) (codes " @@" ++ name) (10 ∷ [])))
    ∙ sym (append_assoc (span p old) (codes " +" ++ (span m new ++ (codes " @@" ++ name))) (10 ∷ [])))

module _ (p m : ℕ) (old new name : List ℕ) (fits_old : p + 1 < 2 ^ 64) (fits_new : m + 1 < 2 ^ 64) (few_old : line_count old < 2 ^ 64) (few_new : line_count new < 2 ^ 64)
    (plain : HasNoNewline name) where
  open_plain : HasNoNewline (open_head p m old new name)
  open_plain =
      let last : HasNoNewline (codes " @@" ++ name) =
      HasNoNewline-append (codes " @@") name (plain_first 32 (64 ∷ 64 ∷ []) refl (plain_first 64 (64 ∷ []) refl (plain_first 64 [] refl tt))) plain in
      let later = codes " +" ++ (span m new ++ (codes " @@" ++ name)) in
      let next : HasNoNewline later =
      HasNoNewline-append (codes " +") (span m new ++ (codes " @@" ++ name)) (plain_first 32 (43 ∷ []) refl (plain_first 43 [] refl tt))
      (HasNoNewline-append (span m new) (codes " @@" ++ name) (HasNoNewline-span m new fits_new few_new) last) in
      HasNoNewline-append (codes "@@ -") (span p old ++ later)
      (plain_first 64 (64 ∷ 32 ∷ 45 ∷ []) refl (plain_first 64 (32 ∷ 45 ∷ []) refl (plain_first 32 (45 ∷ []) refl (plain_first 45 [] refl tt))))
      (HasNoNewline-append (span p old) later (HasNoNewline-span p old fits_old few_old) next)

  pub lines-head : (rest : List ℕ) → lines (head p m old new name ++ rest) ≡ head p m old new name ∷ lines rest
  lines-head rest =
      ap (λ t. lines (t ++ rest)) (head-open p m old new name) ∙ ap lines (append_assoc (open_head p m old new name) (10 ∷ []) rest)
      ∙ lines_line (open_head p m old new name) rest open_plain ∙ ap (λ t. t ∷ lines rest) (sym (head-open p m old new name))

  -- a hunk begins at these numbers of lines
  pub head_leads : (passed made : ℕ) (rows left : List (List ℕ))
      → patched passed made (head p m old new name ∷ rows) left ≡ after_skip p m passed made left (λ rest. patched p m rows rest)
  head_leads passed made rows left =
      let later = 43 ∷ (span m new ++ 32 ∷ 64 ∷ 64 ∷ (name ++ 10 ∷ [])) in
      let text = span p old ++ 32 ∷ later in
      ap₂ (λ o n. after_skip o n passed made left (λ rest. patched o n rows rest))
      (lines_before-span p old later fits_old few_old)
      (ap (λ t. lines_before (drop 1 t)) (after_place-span p old later fits_old few_old) ∙ lines_before-span m new (64 ∷ 64 ∷ (name ++ 10 ∷ [])) fits_new few_new)
