use Rattle.std.proofs.Common.{refl}
use Rattle.recu.proofs.commanding.status.Goals as goal
use Rattle.recu.proofs.commanding.status.Goals.{then-is_lost, else-is_lost}

pub returns : goal.returns
returns g c = record {
  status = (
    c.answer-answer.result.0,
    c.answer-answer.result.3,
    c.answer-answer.ensures.answer,
    elim c.if-is_lost.branch [
      | then-is_lost w ↦ rw (w.if-is_lost.true, w.status-is, w.err-is) (refl, refl)
      | else-is_lost w ↦
          rw (w.if-is_lost.false, w.status-is, w.err-is) (w.finish-status.ensures.status, w.finish-status.ensures.line)
    ],
  );
}
