use Rattle.std.proofs.Common.{◌≡◌, ◌∙◌, ◌++◌, List, [], ◌∷◌, Bor, ap, subst, sym}
use Rattle.rec_journal.specs.declared.event.EditStep.{EditStep}
use Rattle.rec_journal.specs.Revisions.{LeadsBy, joined_steps, step_lists}
use Rattle.rec_diff.proofs.lemmas.reverting.FoundLemmas.{lead_both}
use Rattle.rec_diff.proofs.reverting.edits.Edits.all_turns.Goals as goal

pub turns_by-requires : goal.turns_by-requires
turns_by-requires c =
    let edits = c.args.self in
    let later = edits.later.now in
    let are : c.deref.result.now ≡ edits.steps ∷ later =
    c.deref.ensures.value ∙ c.in_ok-extend_from_slice.ensures.items
    ∙ ap (λ (es : List (Bor (List EditStep))). es ++ later) (c.in_ok-push.ensures.items ∙ ap (λ (es : List (Bor (List EditStep))). es ++ edits.steps ∷ []) c.new-all.ensures.items) in
    subst (λ es. LeadsBy (joined_steps (step_lists es)) edits.before.now edits.here.now) (sym are)
    (lead_both edits.steps.now (joined_steps (step_lists later)) edits.before.now edits.after.now edits.here.now c.requires.own c.requires.later)
