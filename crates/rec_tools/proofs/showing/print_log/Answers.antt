use Rattle.std.proofs.Common.{◌∙◌, sym}
use Rattle.rec_text.proofs.lemmas.ErrorLemmas.{kept_error}
use Rattle.rec_tools.proofs.lemmas.printing.ShownLemmas.{log-no_opening, log-settled, log-drifted}
use Rattle.rec_tools.proofs.showing.print_log.Goals as goal

pub returns-in_err-history-clause-written : goal.returns-in_err-history-clause-written
returns-in_err-history-clause-written g c =
    rw (kept_error c.from_residual.ensures.1) (log-no_opening c.args.style.now c.args.file.now c.args.journal.now _ _ c.in_err-history.ensures)

pub returns-then-is_drifted-clause-written : goal.returns-then-is_drifted-clause-written
returns-then-is_drifted-clause-written g c =
    log-drifted c.args.style.now c.args.file.now c.args.journal.now _ c.in_ok-history.ensures _ (sym c.is_drifted.ensures ∙ c.if-is_drifted.true) c.print_drifted.ensures.printed

pub print_edits-requires-clause-settled : goal.print_edits-requires-clause-settled
print_edits-requires-clause-settled g c = sym c.is_drifted.ensures ∙ c.if-is_drifted.false

pub returns-clause-written : goal.returns-clause-written
returns-clause-written g c =
    log-settled c.args.style.now c.args.file.now c.args.journal.now _ c.in_ok-history.ensures _ (sym c.is_drifted.ensures ∙ c.if-is_drifted.false) c.print_edits.ensures.written
