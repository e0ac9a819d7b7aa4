use Rattle.std.proofs.Common.{ap}
use Rattle.rec_text.proofs.lemmas.ErrorLemmas.{kept_error}
use Rattle.rec_tools.specs.declared.request.Reply.TheVariants.{Reverted}
use Rattle.rec_tools.specs.Outcomes.{revert_reply}
use Rattle.rec_tools.specs.Reverting.{IsRevertOf, IsReverted}
use Rattle.rec_tools.proofs.lemmas.outcomes.DecideLemmas.{on_file, refused_on_file, made-no_text, made-no_opening, made-refused, made-put}
use Rattle.rec_tools.proofs.decision.decide_revert_on.Goals as goal

pub returns-in_err-read-clause-found : goal.returns-in_err-read-clause-found
returns-in_err-read-clause-found c =
    rw (kept_error c.from_residual.ensures.1) (made-no_text c.args.file.now c.args.journal.now (λ o. IsRevertOf c.args.number (IsReverted c.args.force) o c.args.file.now)
    (λ o. revert_reply c.args.number o.next) _ (refused_on_file _ _ c.text.ensures.text _ c.in_err-read.ensures.refused))

pub returns-in_err-history-clause-found : goal.returns-in_err-history-clause-found
returns-in_err-history-clause-found c =
    rw (kept_error c.from_residual-in_err-history.ensures.1) (made-no_opening c.args.file.now c.args.journal.now (λ o. IsRevertOf c.args.number (IsReverted c.args.force) o c.args.file.now)
    (λ o. revert_reply c.args.number o.next) _ (on_file _ _ c.text.ensures.text _ c.in_ok-read.ensures.found) _ c.in_err-history.ensures.found)

pub returns-in_err-tool-clause-found : goal.returns-in_err-tool-clause-found
returns-in_err-tool-clause-found c =
    rw (kept_error c.from_residual-in_err-tool.ensures.1) (made-refused c.args.file.now c.args.journal.now (λ o. IsRevertOf c.args.number (IsReverted c.args.force) o c.args.file.now)
    (λ o. revert_reply c.args.number o.next) _ (on_file _ _ c.text.ensures.text _ c.in_ok-read.ensures.found) _ c.in_ok-history.ensures.found
    _ (rw c.text-2.ensures.text at c.in_err-tool.ensures.found))

pub returns-clause-found : goal.returns-clause-found
returns-clause-found c =
    made-put c.args.file.now c.args.journal.now (λ o. IsRevertOf c.args.number (IsReverted c.args.force) o c.args.file.now) (λ o. revert_reply c.args.number o.next)
    _ (on_file _ _ c.text.ensures.text _ c.in_ok-read.ensures.found) _ c.in_ok-history.ensures.found _ _ (rw c.text-2.ensures.text at c.in_ok-tool.ensures.found)
    _ (ap (Reverted c.args.number c.in_ok-tool.tool) c.next.ensures) _ c.put_edited.ensures.found
