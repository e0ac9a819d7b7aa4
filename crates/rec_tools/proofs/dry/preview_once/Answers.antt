use Rattle.std.proofs.Common.{subst}
use Rattle.rec_tools.specs.Requests.{change_of}
use Rattle.rec_tools.specs.proving.Courses.{contents}
use Rattle.rec_tools.specs.proving.Moving.{IsDryMove}
use Rattle.rec_tools.proofs.dry.preview_once.Goals as goal

pub returns : goal.returns
returns g c =
    subst (λ change. IsDryMove g.S.Sink.contents g.S.Sink.failure_count c.args.style.now (change_of change) (contents c.args.file.now c.args.journal.now)
    (contents c.preview_on.new.file c.preview_on.new.journal) c.args.out.now c.preview_on.new.out c.preview_on.result)
    c.move_through-change.ensures c.preview_on.ensures
