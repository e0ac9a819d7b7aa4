use Rattle.rec_select.specs.Info.{name_line}
use Rattle.rec_select.proofs.lemmas.printing.PutsLemmas.{Prints-stopped}
use Rattle.rec_select.proofs.lemmas.info.InfoLemmas.{one_taken, one_stopped}
use Rattle.rec_select.proofs.info.write_names.Goals as goal

pub returns-in_err-write_name-clause-printed : goal.returns-in_err-write_name-clause-printed
returns-in_err-write_name-clause-printed g c =
    Prints-stopped c.from_residual.result c.from_residual.ensures.1
    (one_stopped name_line c.args.sets.now c.loop-set.set-index _ _ c.loop-set.invariant c.loop-set-test.true c.set-item.is c.in_err-write_name.ensures.printed)

pub loop-set-preserved : goal.loop-set-preserved
loop-set-preserved g c =
    one_taken name_line c.args.sets.now c.loop-set.set-index _ _ c.loop-set.invariant c.loop-set-test.true c.set-item.is c.in_ok-write_name.ensures.printed
