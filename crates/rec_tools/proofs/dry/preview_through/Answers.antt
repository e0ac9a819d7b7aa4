use Rattle.rec_tools.proofs.lemmas.runs.DryLemmas.{ran_dry, unread_dry, dry-previewed, dry-looks}
use Rattle.rec_tools.proofs.dry.preview_through.Goals as goal

pub returns-in-Ok-clause-attempts : goal.returns-in-Ok-clause-attempts
returns-in-Ok-clause-attempts g c =
    ran_dry g.H.Home.goes g.S.Sink.contents g.S.Sink.failure_count c.args.style.now c.args.direction c.args.number c.args.home.now c.read_both.new.home
    c.args.out.now c.go_dry.new.out c.go_dry.result c.in-Ok.file c.in-Ok.journal _ (rw c.in-Ok.is at c.read_both.ensures.calls) c.go_dry.ensures

pub returns-in-Ok-clause-previewed : goal.returns-in-Ok-clause-previewed
returns-in-Ok-clause-previewed g c =
    dry-previewed g.H.Home.goes g.S.Sink.contents g.S.Sink.failure_count c.args.style.now c.args.direction c.args.number c.args.home.now c.read_both.new.home
    g.H.Home.contents g.met.H.Home.follows c.args.out.now c.go_dry.new.out c.go_dry.result
    (ran_dry g.H.Home.goes g.S.Sink.contents g.S.Sink.failure_count c.args.style.now c.args.direction c.args.number c.args.home.now c.read_both.new.home
    c.args.out.now c.go_dry.new.out c.go_dry.result c.in-Ok.file c.in-Ok.journal _ (rw c.in-Ok.is at c.read_both.ensures.calls) c.go_dry.ensures)

pub returns-in-Ok-clause-looks : goal.returns-in-Ok-clause-looks
returns-in-Ok-clause-looks g c =
    dry-looks g.H.Home.goes g.S.Sink.contents g.S.Sink.failure_count c.args.style.now c.args.direction c.args.number c.args.home.now c.read_both.new.home
    g.H.Home.contents g.met.H.Home.follows c.read_both.result c.read_both.ensures.calls

pub returns-in-Err-clause-attempts : goal.returns-in-Err-clause-attempts
returns-in-Err-clause-attempts g c =
    rw c.from.ensures
    (unread_dry g.H.Home.goes g.S.Sink.contents g.S.Sink.failure_count c.args.style.now c.args.direction c.args.number c.args.home.now c.read_both.new.home
    c.args.out.now c.in-Err.fault (rw c.in-Err.is at c.read_both.ensures.calls))

pub returns-in-Err-clause-looks : goal.returns-in-Err-clause-looks
returns-in-Err-clause-looks g c =
    dry-looks g.H.Home.goes g.S.Sink.contents g.S.Sink.failure_count c.args.style.now c.args.direction c.args.number c.args.home.now c.read_both.new.home
    g.H.Home.contents g.met.H.Home.follows c.read_both.result c.read_both.ensures.calls
