use Rattle.std.proofs.Common.{[]}
use Rattle.rec_tools.proofs.lemmas.calls.AttemptLemmas.{refused_with, read-stopped}
use Rattle.rec_tools.proofs.lemmas.calls.ExitLemmas.{attempted-unread, attempted-printed}
use Rattle.rec_tools.proofs.runner.tell.Goals as goal

-- ---- records are printed

pub returns-in_err-file-in-Show-clause-attempts : goal.returns-in_err-file-in-Show-clause-attempts
returns-in_err-file-in-Show-clause-attempts g c =
    rw (refused_with _ _ c.from_residual.ensures.1, c.in-Show.is)
    (attempted-unread _ g.S.Sink.contents g.S.Sink.failure_count _ _ c.args.out.now _ _ (read-stopped _ _ _ _ [] _ c.in_err-file-in-Show.ensures.call c.in_err-file-in-Show.ensures.refusals))

pub returns-in_ok-file-in-Show-clause-attempts : goal.returns-in_ok-file-in-Show-clause-attempts
returns-in_ok-file-in-Show-clause-attempts g c =
    rw (c.with_texts.ensures, c.in-Show.is)
    (attempted-printed _ g.S.Sink.contents g.S.Sink.failure_count _ _ c.args.out.now c.show-told.new.out _ _ _ _ c.in_ok-file-in-Show.ensures.call c.as_slice.ensures c.show-told.ensures.written)

-- ---- record sets are printed

pub returns-in_err-file-in-Info-clause-attempts : goal.returns-in_err-file-in-Info-clause-attempts
returns-in_err-file-in-Info-clause-attempts g c =
    rw (refused_with _ _ c.from_residual-in_err-file-in-Info.ensures.1, c.in-Info.is)
    (attempted-unread _ g.S.Sink.contents g.S.Sink.failure_count _ _ c.args.out.now _ _ (read-stopped _ _ _ _ [] _ c.in_err-file-in-Info.ensures.call c.in_err-file-in-Info.ensures.refusals))

pub returns-in_ok-file-in-Info-clause-attempts : goal.returns-in_ok-file-in-Info-clause-attempts
returns-in_ok-file-in-Info-clause-attempts g c =
    rw (c.with_texts-in-Info.ensures, c.in-Info.is)
    (attempted-printed _ g.S.Sink.contents g.S.Sink.failure_count _ _ c.args.out.now c.inform-told.new.out _ _ _ _ c.in_ok-file-in-Info.ensures.call
    c.as_slice-in-Info.ensures c.inform-told.ensures.written)

-- ---- violations are reported

pub returns-in_err-file-in-Check-clause-attempts : goal.returns-in_err-file-in-Check-clause-attempts
returns-in_err-file-in-Check-clause-attempts g c =
    rw (refused_with _ _ c.from_residual-in_err-file-in-Check.ensures.1, c.in-Check.is)
    (attempted-unread _ g.S.Sink.contents g.S.Sink.failure_count _ _ c.args.out.now _ _ (read-stopped _ _ _ _ [] _ c.in_err-file-in-Check.ensures.call c.in_err-file-in-Check.ensures.refusals))

pub returns-in_ok-file-in-Check-clause-attempts : goal.returns-in_ok-file-in-Check-clause-attempts
returns-in_ok-file-in-Check-clause-attempts g c =
    rw (c.with_texts-in-Check.ensures, c.in-Check.is)
    (attempted-printed _ g.S.Sink.contents g.S.Sink.failure_count _ _ c.args.out.now c.check-told.new.out _ _ _ _ c.in_ok-file-in-Check.ensures.call
    c.as_slice-in-Check.ensures c.check-told.ensures.written)

-- ---- the history is printed

pub returns-in-History-clause-attempts : goal.returns-in-History-clause-attempts
returns-in-History-clause-attempts g c = rw (c.with_texts-in-History.ensures, c.in-History.is) c.tell_history.ensures.attempts

-- ---- what an edit made is printed

pub returns-in-Diff-clause-attempts : goal.returns-in-Diff-clause-attempts
returns-in-Diff-clause-attempts g c = rw (c.with_texts-in-Diff.ensures, c.in-Diff.is) c.tell_edit.ensures.attempts

-- ---- the history is printed with what its edits made

pub returns-in-Log-clause-attempts : goal.returns-in-Log-clause-attempts
returns-in-Log-clause-attempts g c = rw (c.with_texts-in-Log.ensures, c.in-Log.is) c.tell_log.ensures.attempts
