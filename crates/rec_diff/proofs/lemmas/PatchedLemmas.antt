-- A printed diff leads from the text before to the text after.
use Rattle.std.proofs.Common.{◌≡◌, ◌⊎◌, ◌∙◌, ℕ, ◌<◌, ◌^◌, List, [], ◌∷◌}
use Rattle.std.proofs.Common.{◌++◌, length, drop, refl, sym, ap, subst, inl, inr, append-nil, arith}
use Rattle.std.specs.Prelude.{◌≢◌, Some, map}
use Rattle.std.specs.List.{flat_map}
use Rattle.std.proofs.lemmas.List.Folds.{flat_map-map}
use Rattle.rec_diff.specs.Changes.{Stretch, old_of, new_of, joined}
use Rattle.rec_diff.specs.Lines.{lines}
use Rattle.rec_diff.specs.WholeLines.{AreLines, LeadsByLines, lined_from, trimmed}
use Rattle.rec_diff.specs.Diff.{hunks}
use Rattle.rec_diff.specs.Diff.{views_of, named}
use Rattle.rec_diff.specs.Patched.{patched, DiffsLead, OneTextAfter}
use Rattle.rec_diff.proofs.lemmas.CutPlaceLemmas.{AreTidy, AreTidy-joined}
use Rattle.rec_diff.proofs.lemmas.LineLemmas.{lines-append}
use Rattle.rec_diff.proofs.lemmas.ShareLemmas.{text_of, text_of-lines}
use Rattle.rec_diff.proofs.lemmas.WholeLineLemmas.{changes_lead_by_lines}
use Rattle.rec_diff.proofs.lemmas.patching.HunkLemmas.{old_view, new_view, old_text, new_text, old_view_lines, new_view_lines, hunks_lead}
use Rattle.rec_diff.proofs.lemmas.patching.ViewLemmas.{text-views, lines-views, EndLines-views, AreSome-views}
use Rattle.rec_diff.proofs.lemmas.patching.CountLemmas.{counted}
use Rattle.rec_diff.proofs.lemmas.patching.NameLemmas.{names_lines}

lines_all : (ts : List (List ℕ)) → AreLines ts → lines (flat_map (λ t. t) ts) ≡ flat_map lines ts
lines_all [] are = refl
lines_all (t ∷ ts) are = elim (nothing_or (flat_map (λ u. u) ts)) [
  | inl none ↦ ap (λ u. lines (t ++ u)) none ∙ ap lines (append-nil t) ∙ sym (append-nil (lines t)) ∙ ap (lines t ++◌) (sym (sym (lines_all ts are.1) ∙ ap lines none))
  | inr some ↦ lines-append t (flat_map (λ u. u) ts) (are.0 some) ∙ ap (lines t ++◌) (lines_all ts are.1)
]
  where
    nothing_or : (t : List ℕ) → (t ≡ []) ⊎ (t ≢ [])
    nothing_or [] = inl refl
    nothing_or (b ∷ bs) = inr λ none. cc

lines_side : (g : Stretch → List ℕ) (ps : List Stretch) (text : List ℕ) → AreLines (map g ps) → flat_map g ps ≡ text → flat_map (λ p. lines (g p)) ps ≡ lines text
lines_side g ps text are is = sym (flat_map-map lines g ps) ∙ sym (lines_all (map g ps) are) ∙ ap lines (flat_map-map (λ t. t) g ps ∙ is)

views_lead : (context : ℕ) (ps : List Stretch) (before after : List ℕ) → LeadsByLines before after ps → AreTidy ps → length before < 2 ^ 63 → length after < 2 ^ 63
    → patched 0 0 (lines (hunks [] [] [] (views_of 0 context ps))) (lines before) ≡ Some (lines after)
views_lead context ps before after lead tidy fits_old fits_new =
    let vs = views_of 0 context ps in
    let old_is : old_text vs ≡ before = text-views old_view old_of (λ p. refl) (λ t. refl) (λ t. refl) 0 context ps ∙ lead.from in
    let new_is : new_text vs ≡ after = text-views new_view new_of (λ p. refl) (λ t. refl) (λ t. refl) 0 context ps ∙ lead.to in
    let old_lines_are : old_view_lines vs ≡ lines before =
    lines-views old_view old_of (λ p. refl) (λ t. refl) (λ t. refl) 0 context ps ∙ lines_side old_of ps before lead.old_lines lead.from in
    let new_lines_are : new_view_lines vs ≡ lines after =
    lines-views new_view new_of (λ p. refl) (λ t. refl) (λ t. refl) 0 context ps ∙ lines_side new_of ps after lead.new_lines lead.to in
    let old_long : length (old_text vs) ≡ length before = ap length old_is in
    let new_long : length (new_text vs) ≡ length after = ap length new_is in
    ap (patched 0 0 (lines (hunks [] [] [] vs))) (sym old_lines_are)
    ∙ hunks_lead vs [] [] [] 0 0 [] (omega arith) (omega arith) (omega (arith, fits_old, old_long)) (omega (arith, fits_new, new_long))
    (counted vs [] (λ bytes. refl) (λ bytes. refl) (EndLines-views old_view old_of (λ p. refl) (λ t. refl) (λ t. refl) 0 context ps lead.old_lines)
    (EndLines-views new_view new_of (λ p. refl) (λ t. refl) (λ t. refl) 0 context ps lead.new_lines) (AreSome-views 0 context ps tidy))
    ∙ ap Some new_lines_are

pub diffs_lead : DiffsLead
diffs_lead style patch before after printed fits_old fits_new (parts, is, printed_is) =
    let lead = changes_lead_by_lines patch before after parts is in
    let tidy : AreTidy parts = subst AreTidy (sym is.lined) (AreTidy-joined (flat_map trimmed (joined (lined_from is.cut [] [])))) in
    let text = hunks [] [] [] (views_of 0 style.context parts) in
    let made = views_lead style.context parts before after lead tidy fits_old fits_new in
    ap (λ t. patched 0 0 (drop 2 (lines t)) (lines before)) printed_is ∙ named_lines style.name text (lines before) ∙ made
  where
    named_lines : (name text : List ℕ) (left : List (List ℕ)) → patched 0 0 (drop 2 (lines (named name text))) left ≡ patched 0 0 (lines text) left
    named_lines name [] left = refl
    named_lines name (b ∷ bs) left = ap (λ rows. patched 0 0 rows left) (names_lines name (b ∷ bs))

pub one_text_after : OneTextAfter
one_text_after style other patch also before one two printed fits fits_one fits_two is too =
    let same : Some (lines one) ≡ Some (lines two) = sym (diffs_lead style patch before one printed fits fits_one is) ∙ diffs_lead other also before two printed fits fits_two too in
    let lines_same : lines one ≡ lines two = cc in
    sym (text_of-lines one) ∙ ap text_of lines_same ∙ text_of-lines two
