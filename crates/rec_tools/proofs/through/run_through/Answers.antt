use Rattle.rec_tools.proofs.lemmas.runs.ThroughLemmas.{ended-runs, ended-fails}
use Rattle.rec_tools.proofs.lemmas.runs.ReachedLemmas.{ended-reaches}
use Rattle.rec_tools.proofs.through.run_through.Goals as goal

pub returns-clause-guarantee : goal.returns-clause-guarantee
returns-clause-guarantee g c =
    ended-runs g.H.Home.goes c.args.direction c.args.number c.args.home.now c.go_through.new.home c.go_through.result
    g.H.Home.contents g.met.H.Home.follows c.go_through.ensures

pub returns-clause-failing_stores : goal.returns-clause-failing_stores
returns-clause-failing_stores g c =
    ended-fails g.H.Home.goes c.args.direction c.args.number c.args.home.now c.go_through.new.home c.go_through.result
    g.H.Home.contents g.met.H.Home.follows c.go_through.ensures

pub returns-clause-reached : goal.returns-clause-reached
returns-clause-reached g c =
    ended-reaches g.H.Home.goes g.H.Home.contents g.met.H.Home.follows c.args.direction c.args.number
    c.args.home.now c.go_through.new.home c.go_through.result c.go_through.ensures
