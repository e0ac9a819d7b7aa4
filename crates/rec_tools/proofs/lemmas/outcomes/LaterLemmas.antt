-- Edits that were made one after another.
use Rattle.std.proofs.Common.{◌≡◌, ℕ, ◌^◌, ◌<◌, List, ◌∷◌, length, sym, subst}
use Rattle.std.specs.Borrow.{Bor}
use Rattle.rec_journal.specs.declared.event.EditStep.{EditStep}
use Rattle.rec_journal.specs.EditTexts.{LeadOn}
use Rattle.rec_journal.specs.Revisions.{LeadsBy, step_lists}
use Rattle.rec_tools.specs.proving.Reverting.{AreInARow}

module _ (edits : List (Bor (List EditStep))) (row : AreInARow edits) (edit : Bor (List EditStep)) (later : List (Bor (List EditStep))) (split : edits ≡ edit ∷ later) where
  all : AreInARow (edit ∷ later)
  all = subst AreInARow split row

  -- the first leads from a text that fits into memory
  pub first_leads : (before after : List ℕ) × (length before < 2 ^ 64) × LeadsBy edit.now before after
  first_leads = (all.0, all.3.0, all.2, all.3.1)

  pub rest_in_a_row : AreInARow later
  rest_in_a_row = (all.3.0, all.1, all.3.2, all.3.3)

-- an edit, and later ones that lead on from its text after
pub row_of : (edits : List (Bor (List EditStep))) (steps : List EditStep) (later : List (List EditStep)) (before after file : List ℕ) → step_lists edits ≡ steps ∷ later
    → length before < 2 ^ 64 → length after < 2 ^ 64 → LeadsBy steps before after → LeadOn later after file → AreInARow edits
row_of edits steps later before after file are fits fits_after leads on =
    (before, file, fits, subst (λ (l : List (List EditStep)). LeadOn l before file) (sym are) (after, leads, fits_after, on))
