use Rattle.std.proofs.Common.{◌∙◌, ap, ap₂}
use Rattle.rec_journal.specs.declared.event.Tool.TheVariants.{Adopt as ByAdopt}
use Rattle.rec_diff.specs.Comparing.{step_between}
use Rattle.rec_tools.specs.declared.request.Reply.TheVariants.{Adopted}
use Rattle.rec_tools.specs.Outcomes.{leading}
use Rattle.rec_tools.proofs.lemmas.outcomes.AdoptLemmas.{steps_by_adopt, steps_are_done, adoption, adoption_course}
use Rattle.rec_tools.proofs.adopting.adopted.Goals as goal

pub plan_adoption-requires-clause-by_tool : goal.plan_adoption-requires-clause-by_tool
plan_adoption-requires-clause-by_tool c =
    steps_by_adopt c.args.file.now c.args.journal.now c.args.history.now c.requires.opened c.requires.drifted c.args.end c.requires.ends c.requires.end
    c.in_ok-steps.steps (c.in_ok-steps.ensures ∙ ap₂ (step_between ByAdopt) c.as_slice.ensures c.text.ensures.text)

pub plan_adoption-requires-clause-changes : goal.plan_adoption-requires-clause-changes
plan_adoption-requires-clause-changes c =
    steps_are_done c.args.file.now c.args.journal.now c.args.history.now c.requires.opened c.requires.drifted c.args.end c.requires.ends c.requires.end
    c.in_ok-steps.steps (c.in_ok-steps.ensures ∙ ap₂ (step_between ByAdopt) c.as_slice.ensures c.text.ensures.text)

pub returns-clause-found : goal.returns-clause-found
returns-clause-found c =
    adoption c.args.file.now c.args.journal.now c.args.history.now c.requires.opened c.requires.drifted c.args.end c.requires.ends c.requires.end
    c.in_ok-steps.steps (c.in_ok-steps.ensures ∙ ap₂ (step_between ByAdopt) c.as_slice.ensures c.text.ensures.text) c.in_ok-put.put c.in_ok-put.ensures.planned
    _ (ap (λ n. leading c.in_ok-put.put c.args.end.text (Adopted n)) c.next.ensures)

pub returns-clause-course : goal.returns-clause-course
returns-clause-course c =
    adoption_course c.args.file.now c.args.journal.now c.args.history.now c.requires.opened c.requires.drifted c.args.end c.requires.ends c.requires.end
    c.in_ok-steps.steps (c.in_ok-steps.ensures ∙ ap₂ (step_between ByAdopt) c.as_slice.ensures c.text.ensures.text) c.in_ok-put.put c.in_ok-put.ensures.planned
    (Adopted c.next.result)
