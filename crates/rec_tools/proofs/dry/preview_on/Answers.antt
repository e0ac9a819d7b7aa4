use Rattle.rec_text.proofs.lemmas.ErrorLemmas.{kept_error}
use Rattle.rec_tools.specs.Requests.{change_of}
use Rattle.rec_tools.specs.proving.Courses.{contents}
use Rattle.rec_tools.proofs.lemmas.runs.DryLemmas.{dry-refused, dry-left}
use Rattle.rec_tools.proofs.dry.preview_on.Goals as goal

pub returns-in_err-decision : goal.returns-in_err-decision
returns-in_err-decision g c =
    rw (kept_error c.from_residual.ensures.1)
    (dry-refused g.S.Sink.contents g.S.Sink.failure_count c.args.style.now (change_of c.args.change.now) c.args.file.now c.args.journal.now _ _ c.args.out.now _
    c.as_slice.ensures c.as_slice-2.ensures (contents c.args.file.now c.args.journal.now) _ c.in_err-decision.ensures.written)

pub returns : goal.returns
returns g c =
    dry-left g.S.Sink.contents g.S.Sink.failure_count c.args.style.now (change_of c.args.change.now) c.args.file.now c.args.journal.now _ _ c.args.out.now _
    c.as_slice.ensures c.as_slice-2.ensures _ c.in_ok-decision.decision c.leave.result c.leave.ensures.reply c.leave.ensures.left c.in_ok-decision.ensures.found c.in_ok-decision.ensures.written
