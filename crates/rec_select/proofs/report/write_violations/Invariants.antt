use Rattle.std.proofs.Common.{drop, flat_map}
use Rattle.rec_select.specs.Report.{report_line}
use Rattle.rec_select.proofs.lemmas.info.InfoLemmas.{IsTakenTo}
use Rattle.rec_select.proofs.report.write_violations.Given as goal

abbrev pub invariant-loop-violation : goal.invariant-loop-violation
invariant-loop-violation g l =
    IsTakenTo g.S.Sink.contents g.S.Sink.failure_count l.fn.out l.out (flat_map report_line l.violations) (flat_map report_line (drop l.violation-index l.violations))
