use Rattle.std.proofs.Common.{refl}
use Rattle.rec_tools.proofs.lemmas.calls.AttemptLemmas.{refused_with}
use Rattle.rec_tools.proofs.lemmas.calls.ExitLemmas.{silently-unread_both, silently-refused, silently-carried}
use Rattle.rec_tools.proofs.runner.make_change.Goals as goal

pub returns-in_err-file-clause-attempts : goal.returns-in_err-file-clause-attempts
returns-in_err-file-clause-attempts g c =
    rw (refused_with _ _ c.from_residual.ensures.1) (silently-unread_both _ _ _ _ _ refl c.in_err-file.ensures.calls)

pub returns-in_err-decision-clause-attempts : goal.returns-in_err-decision-clause-attempts
returns-in_err-decision-clause-attempts g c =
    rw (refused_with _ _ c.from_residual-in_err-decision.ensures.1) (silently-refused _ _ _ _ _ _ _ _ _ refl c.in_ok-file.ensures.calls c.as_slice.ensures
    c.as_slice-2.ensures c.in_err-decision.ensures.found)

pub returns-clause-attempts : goal.returns-clause-attempts
returns-clause-attempts g c =
    silently-carried _ _ _ _ _ _ _ _ _ _ _ refl c.in_ok-file.ensures.calls c.as_slice.ensures c.as_slice-2.ensures c.in_ok-decision.ensures.found c.carry_out.ensures.calls
