use Rattle.std.proofs.Common.{ap₂, subst, Ok, Err}
use Rattle.rec_text.specs.Faults.{IsMemoryOr}
use Rattle.rec_text.proofs.lemmas.ErrorLemmas.{kept_error}
use Rattle.rec_tools.specs.declared.request.Reply.TheVariants.{Written}
use Rattle.rec_tools.specs.Outcomes.{write_reply}
use Rattle.rec_tools.specs.Writing.{IsWritten}
use Rattle.rec_tools.proofs.lemmas.outcomes.DecideLemmas.{put-no_opening, put-refused, put-made}
use Rattle.rec_tools.proofs.decision.decide_write_on.Goals as goal

pub returns-in_err-history-clause-found : goal.returns-in_err-history-clause-found
returns-in_err-history-clause-found c =
    rw (kept_error c.from_residual.ensures.1) (put-no_opening c.args.file.now c.args.journal.now (λ _. IsWritten c.args.force c.args.over.now c.args.text.now c.args.file.now)
    (λ o. write_reply o.next o.dropped) _ c.in_err-history.ensures.found)

pub returns-in_err-tool-clause-found : goal.returns-in_err-tool-clause-found
returns-in_err-tool-clause-found c =
    rw (kept_error c.from_residual-in_err-tool.ensures.1) (put-refused c.args.file.now c.args.journal.now (λ _. IsWritten c.args.force c.args.over.now c.args.text.now c.args.file.now)
    (λ o. write_reply o.next o.dropped) _ c.in_ok-history.ensures.found c.in_err-tool.field-0.0
    (subst (λ here. IsMemoryOr c.in_err-tool.field-0.0 (IsWritten c.args.force c.args.over.now c.args.text.now here (Err c.in_err-tool.field-0.0)))
    c.text.ensures.text c.in_err-tool.ensures.found))

pub returns-clause-found : goal.returns-clause-found
returns-clause-found c =
    put-made c.args.file.now c.args.journal.now (λ _. IsWritten c.args.force c.args.over.now c.args.text.now c.args.file.now) (λ o. write_reply o.next o.dropped)
    _ c.in_ok-history.ensures.found c.in_ok-tool.tool c.in_ok-tool.edited
    (subst (λ here. IsWritten c.args.force c.args.over.now c.args.text.now here (Ok (c.in_ok-tool.tool, c.in_ok-tool.edited))) c.text.ensures.text c.in_ok-tool.ensures.found)
    _ (ap₂ Written c.next-number.ensures c.dropped-dropped.ensures) _ c.put_edited.ensures.found
