use Rattle.std.proofs.Common.{◌∙◌, ap}
use Rattle.rec_tools.specs.Printouts.{verdict}
use Rattle.rec_text.proofs.lemmas.ErrorLemmas.{kept_error}
use Rattle.rec_tools.proofs.lemmas.printing.PutsLemmas.{refused_within, printed_all}
use Rattle.rec_tools.proofs.lemmas.printing.CheckLemmas.{check-no_text, check-printed, check-cut_short}
use Rattle.rec_tools.proofs.printing.check.Goals as goal

pub returns-in_err-read-clause-written : goal.returns-in_err-read-clause-written
returns-in_err-read-clause-written g c =
    rw (kept_error c.from_residual.ensures.1) (check-no_text c.args.file.now _ _ c.in_err-read.ensures.refused)

pub returns-in_err-write_report-clause-written : goal.returns-in_err-write_report-clause-written
returns-in_err-write_report-clause-written g c =
    rw (kept_error c.from_residual-in_err-write_report.ensures.1) (refused_within c.in_err-write_report.ensures.written
    (check-cut_short c.args.file.now _ c.in_ok-read.ensures.found _ (rw (c.database.ensures.elements, c.schema.ensures.schema) at c.in_ok-found.ensures.violations)
    (Unit {0}) _ _ _ _ c.deref.ensures.value))

pub returns-clause-written : goal.returns-clause-written
returns-clause-written g c =
    printed_all c.in_ok-write_report.ensures.written
    (check-printed c.args.file.now _ c.in_ok-read.ensures.found _ (rw (c.database.ensures.elements, c.schema.ensures.schema) at c.in_ok-found.ensures.violations)
    (Unit {0}) _ _ _ _ _ c.deref.ensures.value (c.verdict_on.ensures ∙ ap verdict c.deref-2.ensures.value))
