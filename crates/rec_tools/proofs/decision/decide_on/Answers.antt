use Rattle.std.proofs.Common.{ap₂, subst, Ok, Err}
use Rattle.rec_text.specs.Faults.{IsMemoryOr}
use Rattle.rec_text.proofs.lemmas.ErrorLemmas.{kept_error}
use Rattle.rec_tools.specs.declared.request.Reply.TheVariants.{Edited as EditedReply}
use Rattle.rec_tools.specs.Outcomes.{edit_reply}
use Rattle.rec_tools.specs.Requests.{IsMade}
use Rattle.rec_tools.specs.proving.Editing.{AreEditsFrom, HasSteps}
use Rattle.rec_tools.proofs.lemmas.outcomes.DecideLemmas.{on_file, refused_on_file, read_file, made-no_text, made-no_opening, made-refused, made-put}
use Rattle.rec_tools.proofs.decision.decide_on.Goals as goal

pub returns-in_err-read-clause-found : goal.returns-in_err-read-clause-found
returns-in_err-read-clause-found c =
    rw (kept_error c.from_residual.ensures.1) (made-no_text c.args.file.now c.args.journal.now (λ _. IsMade (AreEditsFrom c.args.source c.args.force) c.args.file.now)
    (λ o. edit_reply o.next o.dropped) _ (refused_on_file _ _ c.text.ensures.text _ c.in_err-read.ensures.refused))

pub returns-in_err-history-clause-found : goal.returns-in_err-history-clause-found
returns-in_err-history-clause-found c =
    rw (kept_error c.from_residual-in_err-history.ensures.1) (made-no_opening c.args.file.now c.args.journal.now (λ _. IsMade (AreEditsFrom c.args.source c.args.force) c.args.file.now)
    (λ o. edit_reply o.next o.dropped) _ (on_file _ _ c.text.ensures.text _ c.in_ok-read.ensures.found) _ c.in_err-history.ensures.found)

pub returns-in_err-tool-clause-found : goal.returns-in_err-tool-clause-found
returns-in_err-tool-clause-found c =
    rw (kept_error c.from_residual-in_err-tool.ensures.1) (made-refused c.args.file.now c.args.journal.now (λ _. IsMade (AreEditsFrom c.args.source c.args.force) c.args.file.now)
    (λ o. edit_reply o.next o.dropped) _ (on_file _ _ c.text.ensures.text _ c.in_ok-read.ensures.found) _ c.in_ok-history.ensures.found _
    (subst (λ text. IsMemoryOr c.in_err-tool.field-0.0 (IsMade (AreEditsFrom c.args.source c.args.force) text (Err c.in_err-tool.field-0.0)))
    (read_file _ _ c.text.ensures.text _ c.in_ok-read.ensures.found) c.in_err-tool.ensures.found))

pub put_edited-requires-clause-steps : goal.put_edited-requires-clause-steps
put_edited-requires-clause-steps c =
    subst (λ text. HasSteps text (c.in_ok-tool.tool, c.in_ok-tool.edited)) (read_file _ _ c.text.ensures.text _ c.in_ok-read.ensures.found) c.in_ok-tool.ensures.steps

pub returns-clause-found : goal.returns-clause-found
returns-clause-found c =
    made-put c.args.file.now c.args.journal.now (λ _. IsMade (AreEditsFrom c.args.source c.args.force) c.args.file.now) (λ o. edit_reply o.next o.dropped)
    _ (on_file _ _ c.text.ensures.text _ c.in_ok-read.ensures.found) _ c.in_ok-history.ensures.found _ _
    (subst (λ text. IsMade (AreEditsFrom c.args.source c.args.force) text (Ok (c.in_ok-tool.tool, c.in_ok-tool.edited)))
    (read_file _ _ c.text.ensures.text _ c.in_ok-read.ensures.found) c.in_ok-tool.ensures.found)
    _ (ap₂ (EditedReply c.in_ok-tool.edited.changed) c.next.ensures c.dropped.ensures) _ c.put_edited.ensures.found
