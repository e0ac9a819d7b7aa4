use Rattle.std.proofs.Common.{refl}
use Rattle.rec_tools.specs.Printouts.{IsHistory}
use Rattle.rec_tools.specs.Asked.{listing}
use Rattle.rec_tools.proofs.lemmas.calls.AttemptLemmas.{refused_with}
use Rattle.rec_tools.proofs.lemmas.calls.ExitLemmas.{attempted-unread_both, attempted-both, listed-outcome}
use Rattle.rec_tools.proofs.runner.tell_history.Goals as goal

pub returns-in_err-file-clause-attempts : goal.returns-in_err-file-clause-attempts
returns-in_err-file-clause-attempts g c =
    rw (refused_with _ _ c.from_residual.ensures.1) (attempted-unread_both _ g.S.Sink.contents g.S.Sink.failure_count _ _ c.args.out.now listing _ refl c.in_err-file.ensures.calls)

pub returns-clause-attempts : goal.returns-clause-attempts
returns-clause-attempts g c =
    attempted-both _ g.S.Sink.contents g.S.Sink.failure_count listing IsHistory refl listed-outcome _ _ c.args.out.now c.print_history.new.out _ _ _ _ _
    c.in_ok-file.ensures.calls c.as_slice.ensures c.as_slice-2.ensures c.print_history.ensures.written
