use Rattle.std.proofs.Common.{subst}
use Rattle.rec_tools.specs.Requests.{change_of}
use Rattle.rec_tools.specs.Asked.{changing}
use Rattle.rec_tools.specs.proving.Silently.{DoesSilently}
use Rattle.rec_tools.proofs.through.move_once.Goals as goal

pub returns : goal.returns
returns g c =
    rw c.without_texts.ensures
    (subst (λ change. DoesSilently g.H.Home.goes c.args.home.now c.make_change.new.home (changing (change_of change)) c.make_change.result)
    c.move_through-change.ensures c.make_change.ensures.attempts)
