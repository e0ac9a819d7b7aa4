use Rattle.std.proofs.Common.{inr, refl}
use Rattle.rec_text.proofs.lemmas.ErrorLemmas.{kept_error}
use Rattle.rec_tools.specs.Printouts.{IsHistory}
use Rattle.rec_tools.proofs.lemmas.printing.ListedLemmas.{history-refused, printout-cut_short, printout-whole}
use Rattle.rec_tools.proofs.history.print_history.Goals as goal

pub returns-in_err-history-clause-written : goal.returns-in_err-history-clause-written
returns-in_err-history-clause-written g c =
    rw (kept_error c.from_residual.ensures.1) (history-refused c.args.file.now c.args.journal.now _ _ c.in_err-history.ensures)

pub returns-in_err-write_history-clause-written : goal.returns-in_err-write_history-clause-written
returns-in_err-write_history-clause-written g c =
    rw (kept_error c.from_residual-in_err-write_history.ensures.1)
    (printout-cut_short (IsHistory c.args.file.now c.args.journal.now) _ _ (inr (_, c.in_ok-history.ensures, refl)) c.in_err-write_history.ensures.printed)

pub returns-clause-written : goal.returns-clause-written
returns-clause-written g c =
    rw c.reply_to.ensures (printout-whole (IsHistory c.args.file.now c.args.journal.now) _ _ (inr (_, c.in_ok-history.ensures, refl)) c.in_ok-write_history.ensures.printed)
