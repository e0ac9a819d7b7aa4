use Rattle.std.proofs.Common.{◌∙◌, ap, ap₂}
use Rattle.rec_text.proofs.lemmas.ErrorLemmas.{kept_error}
use Rattle.rec_journal.specs.EditTexts.{WithTexts}
use Rattle.rec_journal.specs.Revisions.{single_step}
use Rattle.rec_journal.specs.declared.history.steps.Step.{Step}
use Rattle.rec_tools.specs.Reverting.{last_tool}
use Rattle.rec_tools.proofs.lemmas.outcomes.LeftLemmas.{not_applied, left_has_steps}
use Rattle.rec_tools.proofs.reverting.left_without.Goals as goal

pub returns-in_err-text-clause-found : goal.returns-in_err-text-clause-found
returns-in_err-text-clause-found c =
    rw (kept_error c.from_residual-in_err-text.ensures.1) (not_applied c.args.standing.now c.args.file.now c.in_ok-patch.patch c.in_ok-patch.ensures.found _ c.in_err-text.ensures)

pub returns-clause-steps : goal.returns-clause-steps
returns-clause-steps c =
    let told = ap (λ (s : Step). s.tool) c.step-tool.ensures ∙ ap (λ (m : WithTexts). m.edit.tool) c.texts-texts.ensures in
    left_has_steps c.args.standing.now c.args.file.now c.in_ok-patch.patch c.in_ok-patch.ensures.found c.in_ok-text.text c.in_ok-text.ensures.0 _ told _
    (c.in_ok-steps.ensures ∙ ap (λ tool. single_step tool c.in_ok-patch.patch)
    (c.last_tool-last.ensures ∙ ap₂ last_tool told (c.steps.ensures ∙ ap (λ (m : WithTexts). m.edit.steps) c.texts-texts.ensures)))
    c.requires.by_tool
