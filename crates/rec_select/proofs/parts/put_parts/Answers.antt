use Rattle.std.proofs.Common.{refl}
use Rattle.rec_select.proofs.lemmas.printing.PutsLemmas.{Prints-stopped, HasStopped-failed}
use Rattle.rec_select.proofs.lemmas.info.InfoLemmas.{one_taken, one_stopped}
use Rattle.rec_select.proofs.parts.put_parts.Goals as goal

pub returns-in_err-put_all-clause-printed : goal.returns-in_err-put_all-clause-printed
returns-in_err-put_all-clause-printed g c =
    let put = c.in_err-put_all.ensures in
    Prints-stopped c.from_residual.result c.from_residual.ensures.1
    (one_stopped (λ part. part.now) c.args.parts.now c.loop-part.part-index _ _ c.loop-part.invariant c.loop-part-test.true refl (HasStopped-failed put.prefix put.counted put.failed put.refusals))

pub loop-part-preserved : goal.loop-part-preserved
loop-part-preserved g c =
    let put = c.in_ok-put_all.ensures in
    one_taken (λ part. part.now) c.args.parts.now c.loop-part.part-index _ _ c.loop-part.invariant c.loop-part-test.true refl (record { whole = put.all; sound = put.kept })
