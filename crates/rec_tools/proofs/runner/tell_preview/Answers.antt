use Rattle.std.proofs.Common.{refl}
use Rattle.rec_tools.specs.Requests.{change_of, as_diff}
use Rattle.rec_tools.specs.Asked.{previewing}
use Rattle.rec_tools.specs.proving.Courses.{IsPreviewed}
use Rattle.rec_tools.proofs.lemmas.calls.AttemptLemmas.{refused_with}
use Rattle.rec_tools.proofs.lemmas.calls.ExitLemmas.{attempted-unread_both, attempted-both}
use Rattle.rec_tools.proofs.lemmas.runs.PreviewLemmas.{previewed-outcome}
use Rattle.rec_tools.proofs.runner.tell_preview.Goals as goal

pub returns-in_err-file-clause-attempts : goal.returns-in_err-file-clause-attempts
returns-in_err-file-clause-attempts g c =
    rw (refused_with _ _ c.from_residual.ensures.1)
    (attempted-unread_both _ g.S.Sink.contents g.S.Sink.failure_count _ _ c.args.out.now (previewing (as_diff c.args.style.now) (change_of c.args.change.now)) _ refl c.in_err-file.ensures.calls)

pub returns-clause-attempts : goal.returns-clause-attempts
returns-clause-attempts g c =
    rw c.decided.ensures
    (attempted-both _ g.S.Sink.contents g.S.Sink.failure_count (previewing (as_diff c.args.style.now) (change_of c.args.change.now))
    (λ f j. IsPreviewed c.args.style.now f j (change_of c.args.change.now)) refl
    (previewed-outcome c.args.style.now (change_of c.args.change.now)) _ _ c.args.out.now c.print_decision-decision.new.out _ _ _ _ _
    c.in_ok-file.ensures.calls c.as_slice.ensures c.as_slice-2.ensures c.print_decision-decision.ensures.written)
