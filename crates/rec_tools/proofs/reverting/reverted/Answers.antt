use Rattle.std.proofs.Common.{Ok, Err, subst}
use Rattle.rec_text.specs.Faults.{IsMemoryOr}
use Rattle.rec_text.proofs.lemmas.ErrorLemmas.{kept_error}
use Rattle.rec_tools.specs.Reverting.{IsKept}
use Rattle.rec_tools.proofs.lemmas.outcomes.LeftLemmas.{revert-nothing_left, revert-not_kept, revert-made}
use Rattle.rec_tools.proofs.reverting.reverted.Goals as goal

pub returns-in-Err-left_without-clause-found : goal.returns-in-Err-left_without-clause-found
returns-in-Err-left_without-clause-found c =
    rw c.not_alone.ensures
    (revert-nothing_left c.args.number c.args.force c.args.history.now c.args.file.now _ c.in-Ok.ensures.found _ c.in-Err-left_without.ensures.found)

pub returns-in_err-require_kept-clause-found : goal.returns-in_err-require_kept-clause-found
returns-in_err-require_kept-clause-found c =
    let fault = c.in_err-require_kept.field-0.0 in
    rw (kept_error c.from_residual.ensures.1)
    (revert-not_kept c.args.number c.args.force c.args.history.now c.args.file.now _ c.in-Ok.ensures.found _ _ c.in-Ok-left_without.ensures.found
    _ (subst (λ text. IsMemoryOr fault (IsKept c.args.force text (Err fault))) c.as_slice.ensures c.in_err-require_kept.ensures.found))

pub returns-clause-found : goal.returns-clause-found
returns-clause-found c =
    revert-made c.args.number c.args.force c.args.history.now c.args.file.now _ c.in-Ok.ensures.found _ _ c.in-Ok-left_without.ensures.found
    tt (subst (λ text. IsKept c.args.force text (Ok tt)) c.as_slice.ensures c.in_ok-require_kept.ensures.found)
