use Rattle.rec_select.specs.Report.{report_line}
use Rattle.rec_select.proofs.lemmas.printing.PutsLemmas.{Prints-stopped}
use Rattle.rec_select.proofs.lemmas.info.InfoLemmas.{one_taken, one_stopped}
use Rattle.rec_select.proofs.report.write_violations.Goals as goal

pub returns-in_err-write_violation-clause-printed : goal.returns-in_err-write_violation-clause-printed
returns-in_err-write_violation-clause-printed g c =
    Prints-stopped c.from_residual.result c.from_residual.ensures.1
    (one_stopped report_line c.args.violations.now c.loop-violation.violation-index _ _ c.loop-violation.invariant c.loop-violation-test.true c.violation-item.is
    c.in_err-write_violation.ensures.printed)

pub loop-violation-preserved : goal.loop-violation-preserved
loop-violation-preserved g c =
    one_taken report_line c.args.violations.now c.loop-violation.violation-index _ _ c.loop-violation.invariant c.loop-violation-test.true c.violation-item.is c.in_ok-write_violation.ensures.printed
