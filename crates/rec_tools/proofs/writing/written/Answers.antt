use Rattle.rec_text.proofs.lemmas.ErrorLemmas.{kept_error}
use Rattle.rec_journal.proofs.lemmas.texts.OverLemmas.{same_copy}
use Rattle.rec_tools.proofs.lemmas.outcomes.WriteLemmas.{written-other, written-refused, written-made, written_steps}
use Rattle.rec_tools.proofs.writing.written.Goals as goal

pub returns-in_err-require_still-clause-found : goal.returns-in_err-require_still-clause-found
returns-in_err-require_still-clause-found c =
    rw (kept_error c.from_residual.ensures.1) (written-other c.args.force c.args.over.now c.args.text.now c.args.file.now _ c.in_err-require_still.ensures)

pub returns-in_err-require_standing-clause-found : goal.returns-in_err-require_standing-clause-found
returns-in_err-require_standing-clause-found c =
    rw (kept_error c.from_residual-in_err-require_standing.ensures.1)
    (written-refused c.args.force c.args.over.now c.args.text.now c.args.file.now tt c.in_ok-require_still.ensures _ c.in_err-require_standing.ensures.found)

pub returns-clause-found : goal.returns-clause-found
returns-clause-found c =
    written-made c.args.force c.args.over.now c.args.text.now c.args.file.now tt c.in_ok-require_still.ensures tt c.in_ok-require_standing.ensures.found
    _ c.in_ok-steps.ensures c.in_ok-copy_of.field-0 (same_copy c.in_ok-copy_of.field-0 c.args.text.now c.in_ok-copy_of.ensures)

pub returns-clause-steps : goal.returns-clause-steps
returns-clause-steps c = written_steps c.args.text.now c.args.file.now _ c.in_ok-steps.ensures c.in_ok-copy_of.field-0 (same_copy c.in_ok-copy_of.field-0 c.args.text.now c.in_ok-copy_of.ensures)
