use Rattle.std.proofs.Common.{refl}
use Rattle.rec_text.proofs.lemmas.ErrorLemmas.{kept_error}
use Rattle.rec_tools.specs.Outcomes.{reply_in}
use Rattle.rec_tools.proofs.lemmas.runs.PreviewLemmas.{course-leads, preview-refused, preview-cut_short, preview-whole}
use Rattle.rec_tools.proofs.preview.print_decision.Goals as goal

pub returns-in_err-decision-clause-written : goal.returns-in_err-decision-clause-written
returns-in_err-decision-clause-written g c =
    rw (kept_error c.from_residual.ensures.1) (preview-refused c.args.style.now c.args.file.now c.args.journal.now c.args.change.now _ _ c.in_err-decision.ensures.found)

pub write_decision-requires : goal.write_decision-requires
write_decision-requires g c = course-leads c.args.file.now c.args.journal.now c.in_ok-decision.decision c.in_ok-decision.ensures.course

pub returns-in_err-write_decision-clause-written : goal.returns-in_err-write_decision-clause-written
returns-in_err-write_decision-clause-written g c =
    rw (kept_error c.from_residual-in_err-write_decision.ensures.1)
    (preview-cut_short c.args.style.now c.args.file.now c.args.journal.now c.args.change.now c.in_ok-decision.decision c.in_ok-decision.ensures.found c.in_ok-decision.ensures.course
    (Unit {0}) _ c.in_err-write_decision.ensures.written)

pub returns-clause-written : goal.returns-clause-written
returns-clause-written g c =
    preview-whole c.args.style.now c.args.file.now c.args.journal.now c.args.change.now c.in_ok-decision.decision c.in_ok-decision.ensures.found c.in_ok-decision.ensures.course
    (Unit {0}) tt (reply_in c.in_ok-decision.decision) refl c.in_ok-write_decision.ensures.written
