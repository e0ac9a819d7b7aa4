use Rattle.rec_text.proofs.lemmas.ErrorLemmas.{kept_error}
use Rattle.rec_tools.proofs.lemmas.outcomes.EditLemmas.{make-refused, make-found, make-only}
use Rattle.rec_tools.proofs.editing.make.Goals as goal

pub returns-in_err-edits-clause-found : goal.returns-in_err-edits-clause-found
returns-in_err-edits-clause-found c =
    rw (kept_error c.from_residual.ensures.1) (make-refused c.args.force c.args.edits.now _ _ _ c.in_err-edits.ensures.place)

pub returns-in_err-edits-clause-only : goal.returns-in_err-edits-clause-only
returns-in_err-edits-clause-only c = make-only c.args.force c.args.edits.now _ _ (returns-in_err-edits-clause-found c)

pub returns-clause-found : goal.returns-clause-found
returns-clause-found c =
    make-found c.args.force c.args.edits.now _ _ c.in_ok-edits.ensures.found _ (rw c.deref.ensures.value at c.edited.ensures.found)

pub returns-clause-only : goal.returns-clause-only
returns-clause-only c = make-only c.args.force c.args.edits.now _ _ (returns-clause-found c)
