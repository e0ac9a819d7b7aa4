use Rattle.rec_tools.proofs.lemmas.calls.ExitLemmas.{attempted-silently}
use Rattle.rec_tools.proofs.runner.attempt.Goals as goal

pub returns-in-Change-clause-attempts : goal.returns-in-Change-clause-attempts
returns-in-Change-clause-attempts g c =
    rw c.in-Change.is (attempted-silently _ g.S.Sink.contents g.S.Sink.failure_count _ _ c.args.out.now _ _ c.make_change.ensures.attempts)

pub returns-in-Look-clause-attempts : goal.returns-in-Look-clause-attempts
returns-in-Look-clause-attempts g c = rw c.in-Look.is c.tell.ensures.attempts

pub returns-in-Preview-clause-attempts : goal.returns-in-Preview-clause-attempts
returns-in-Preview-clause-attempts g c = rw c.in-Preview.is c.tell_preview.ensures.attempts
