use Rattle.std.proofs.Common.{◌∙◌, ◌≢◌, ap, sym}
use Rattle.std.proofs.lemmas.Bool.{false≢true}
use Rattle.std.proofs.lemmas.Slice.Eq.{bytes_eq-Decides}
use Rattle.rec_tools.specs.Outcomes.{outcome_of}
use Rattle.rec_tools.proofs.lemmas.outcomes.DecideLemmas.{put-planned, put-course}
use Rattle.rec_tools.proofs.decision.put_edited.Goals as goal

pub returns-clause-found : goal.returns-clause-found
returns-clause-found c =
    let other : c.args.edited.text ≢ c.args.file.now = λ same. false≢true (c.if-eq.ensures ∙ (bytes_eq-Decides _ _).1 (c.as_slice.ensures ∙ same ∙ sym c.text.ensures.text)) in
    put-planned _ _ _ c.requires.opened c.args.tool c.args.edited c.args.reply other _ c.requires.steps.leads
    c.in_ok-plan.ensures.found c.in_ok-plan.ensures.safe _ (ap outcome_of c.put_plan.ensures)

pub returns-clause-course : goal.returns-clause-course
returns-clause-course c =
    let other : c.args.edited.text ≢ c.args.file.now = λ same. false≢true (c.if-eq.ensures ∙ (bytes_eq-Decides _ _).1 (c.as_slice.ensures ∙ same ∙ sym c.text.ensures.text)) in
    put-course _ _ _ c.requires.opened c.args.tool c.args.edited c.args.reply other _ c.requires.steps.leads
    c.in_ok-plan.ensures.found c.in_ok-plan.ensures.safe _ c.put_plan.ensures
