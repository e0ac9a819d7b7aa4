use Rattle.rec_tools.proofs.lemmas.runs.RunLemmas.{attempted-kept, attempted-store_failed, attempted-unchanged, attempted-stopped, attempted-looks}
use Rattle.rec_tools.proofs.runner.run.Goals as goal

pub returns-clause-kept : goal.returns-clause-kept
returns-clause-kept g c =
    attempted-kept g.H.Home.goes g.S.Sink.contents g.S.Sink.failure_count g.H.Home.failure_count g.met.H.Home.counts _ _ c.args.out.now c.attempt.new.out _ _ c.attempt.ensures.attempts

pub returns-clause-store_failed : goal.returns-clause-store_failed
returns-clause-store_failed g c =
    attempted-store_failed g.H.Home.goes g.S.Sink.contents g.S.Sink.failure_count g.H.Home.failure_count g.met.H.Home.counts _ _ c.args.out.now c.attempt.new.out c.args.request.now
    _ c.attempt.ensures.attempts

pub returns-clause-unchanged : goal.returns-clause-unchanged
returns-clause-unchanged g c =
    attempted-unchanged g.H.Home.goes g.S.Sink.contents g.S.Sink.failure_count g.H.Home.contents g.met.H.Home.follows _ _ c.args.out.now c.attempt.new.out _ _ c.attempt.ensures.attempts

pub returns-clause-looks : goal.returns-clause-looks
returns-clause-looks g c =
    attempted-looks g.H.Home.goes g.S.Sink.contents g.S.Sink.failure_count g.H.Home.contents g.met.H.Home.follows _ _ c.args.out.now c.attempt.new.out c.args.request.now _ c.attempt.ensures.attempts

pub returns-clause-stopped : goal.returns-clause-stopped
returns-clause-stopped g c =
    attempted-stopped g.H.Home.goes g.S.Sink.contents g.S.Sink.failure_count g.H.Home.contents g.met.H.Home.follows _ _ c.args.out.now c.attempt.new.out _ _ c.attempt.ensures.attempts
