use Rattle.std.proofs.Common.{refl}
use Rattle.rec_tools.specs.Printouts.{IsShownText, IsShownEdit}
use Rattle.rec_tools.specs.Asked.{showing}
use Rattle.rec_tools.proofs.lemmas.calls.AttemptLemmas.{refused_with}
use Rattle.rec_tools.proofs.lemmas.calls.ExitLemmas.{attempted-unread_both, attempted-both}
use Rattle.rec_tools.specs.Requests.{as_diff}
use Rattle.rec_tools.proofs.runner.tell_edit.Goals as goal

pub returns-in_err-file-clause-attempts : goal.returns-in_err-file-clause-attempts
returns-in_err-file-clause-attempts g c =
    rw (refused_with _ _ c.from_residual.ensures.1)
    (attempted-unread_both _ g.S.Sink.contents g.S.Sink.failure_count _ _ c.args.out.now (showing c.args.number (as_diff c.args.style.now)) _ refl c.in_err-file.ensures.calls)

pub returns-clause-attempts : goal.returns-clause-attempts
returns-clause-attempts g c =
    attempted-both _ g.S.Sink.contents g.S.Sink.failure_count (showing c.args.number (as_diff c.args.style.now)) (λ f j. IsShownText (IsShownEdit c.args.number (as_diff c.args.style.now) f j)) refl
    (λ file journal r is. is)
    _ _ c.args.out.now c.print_edit.new.out _ _ _ _ _
    c.in_ok-file.ensures.calls c.as_slice.ensures c.as_slice-2.ensures c.print_edit.ensures.written
