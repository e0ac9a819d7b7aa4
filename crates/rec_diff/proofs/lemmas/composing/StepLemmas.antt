-- The deeds of one step, and those of earlier and later ones.
use Rattle.std.proofs.Common.{sym, ap, ◌≡◌, ◌∙◌, ℕ, ◌<◌, ◌≤◌, List, [], ◌∷◌, ◌++◌, length, get_or, arith}
use Rattle.std.proofs.lemmas.List.{map-append}
use Rattle.std.specs.Borrow.{Bor}
use Rattle.rec_journal.specs.declared.event.EditStep.{EditStep}
use Rattle.rec_journal.specs.Revisions.{LeadsBy}
use Rattle.rec_diff.specs.Composing.{deeds_of, then_others, all_deeds, patches_of}
use Rattle.rec_diff.specs.proving.Runs.{steps_at, old_count}
use Rattle.rec_diff.proofs.lemmas.composing.DeedLemmas.{then_others-nil, all_deeds-append}
use Rattle.rec_diff.proofs.lemmas.composing.LeadingLemmas.{steps_do, old_count-le}

single : (steps : List (Bor EditStep)) (step : Bor EditStep) → 1 ≤ length steps → length steps < 2 → step ≡ get_or steps 0 step → steps ≡ step ∷ []
single [] step some few is = absurd (omega arith)
single (first ∷ []) step some few is = ap (λ s. s ∷ []) (sym is)
single (first ∷ second ∷ steps) step some few is = absurd (omega arith)

pub deeds_of-step : (steps : List (Bor EditStep)) (step : Bor EditStep) → 1 ≤ length steps → length steps < 2 → step ≡ get_or steps 0 step
    → deeds_of step.now.patch ≡ all_deeds (patches_of (steps_at steps))
deeds_of-step steps step some few is =
    sym (ap (λ s. all_deeds (patches_of (steps_at s))) (single steps step some few is) ∙ then_others-nil (deeds_of step.now.patch))

pub deeds_of-halves : (steps earlier later : List (Bor EditStep)) → steps ≡ earlier ++ later
    → then_others (all_deeds (patches_of (steps_at earlier))) (all_deeds (patches_of (steps_at later))) ≡ all_deeds (patches_of (steps_at steps))
deeds_of-halves steps earlier later is =
    sym (ap (λ s. all_deeds (patches_of (steps_at s))) is
    ∙ ap (λ s. all_deeds (patches_of s)) (map-append (λ (step : Bor EditStep). step.now) earlier later)
    ∙ ap all_deeds (map-append (λ (step : EditStep). step.patch) (steps_at earlier) (steps_at later))
    ∙ all_deeds-append (patches_of (steps_at earlier)) (patches_of (steps_at later)))

-- steps go over no more bytes than the text has from which they lead
pub old_count-steps : (steps : List EditStep) (before after : List ℕ) → LeadsBy steps before after → old_count (all_deeds (patches_of steps)) ≤ length before
old_count-steps steps before after leads = old_count-le (all_deeds (patches_of steps)) before after (steps_do steps before after leads)
