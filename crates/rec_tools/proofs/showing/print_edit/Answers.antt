use Rattle.rec_text.proofs.lemmas.ErrorLemmas.{kept_error}
use Rattle.rec_tools.proofs.lemmas.printing.LogLemmas.{texts-steps}
use Rattle.rec_tools.proofs.lemmas.printing.ShownLemmas.{shown-no_opening, shown-no_texts, edit-cut_short, edit-whole}
use Rattle.rec_tools.proofs.showing.print_edit.Goals as goal

pub returns-in_err-history-clause-written : goal.returns-in_err-history-clause-written
returns-in_err-history-clause-written g c =
    rw (kept_error c.from_residual.ensures.1) (shown-no_opening c.args.number c.args.style.now c.args.file.now c.args.journal.now _ _ c.in_err-history.ensures)

pub returns-in-Err-clause-written : goal.returns-in-Err-clause-written
returns-in-Err-clause-written g c =
    rw c.refused_on.ensures
    (shown-no_texts c.args.number c.args.style.now c.args.file.now c.args.journal.now _ c.in_ok-history.ensures _ _ c.in-Err.ensures.found)

pub write_edit-requires : goal.write_edit-requires
write_edit-requires g c = texts-steps c.args.number c.args.file.now _ _ c.in-Ok.ensures.found

pub returns-in_err-write_edit-clause-written : goal.returns-in_err-write_edit-clause-written
returns-in_err-write_edit-clause-written g c =
    rw (kept_error c.from_residual-in_err-write_edit.ensures.1)
    (edit-cut_short c.args.number c.args.style.now c.args.file.now c.args.journal.now _ c.in_ok-history.ensures _ c.in-Ok.ensures.found _ c.in_err-write_edit.ensures.printed)

pub returns-clause-written : goal.returns-clause-written
returns-clause-written g c =
    edit-whole c.args.number c.args.style.now c.args.file.now c.args.journal.now _ c.in_ok-history.ensures _ c.in-Ok.ensures.found c.in_ok-write_edit.ensures.printed
