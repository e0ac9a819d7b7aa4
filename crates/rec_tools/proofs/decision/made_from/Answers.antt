use Rattle.rec_text.proofs.lemmas.ErrorLemmas.{kept_error}
use Rattle.rec_tools.proofs.lemmas.outcomes.DecideLemmas.{one-refused, one-made, one-steps, batch-no_edits, batch-refused, batch-made, batch-steps}
use Rattle.rec_tools.proofs.decision.made_from.Goals as goal

-- ---- one edit

pub returns-in_err-made-in-OneEdit-clause-found : goal.returns-in_err-made-in-OneEdit-clause-found
returns-in_err-made-in-OneEdit-clause-found c =
    rw (kept_error c.from_residual.ensures.1, c.in-OneEdit.is) (one-refused c.args.force _ c.in-OneEdit.edit.now _ (rw c.from_ref.ensures.value at c.in_err-made-in-OneEdit.ensures.found))

pub returns-in_ok-made-in-OneEdit-clause-found : goal.returns-in_ok-made-in-OneEdit-clause-found
returns-in_ok-made-in-OneEdit-clause-found c =
    rw c.in-OneEdit.is (one-made c.args.force _ c.in-OneEdit.edit.now _ (rw c.from_ref.ensures.value at c.in_ok-made-in-OneEdit.ensures.found) _ c.tool.ensures)

pub returns-in_ok-made-in-OneEdit-clause-steps : goal.returns-in_ok-made-in-OneEdit-clause-steps
returns-in_ok-made-in-OneEdit-clause-steps c =
    one-steps c.args.force _ c.in-OneEdit.edit.now _ (rw c.from_ref.ensures.value at c.in_ok-made-in-OneEdit.ensures.found) _ c.tool.ensures
    c.in_ok-made-in-OneEdit.ensures.leads c.in_ok-made-in-OneEdit.ensures.changes

-- ---- the edits that a text lists

pub returns-in_err-edits-in-Listed-clause-found : goal.returns-in_err-edits-in-Listed-clause-found
returns-in_err-edits-in-Listed-clause-found c =
    rw (kept_error c.from_residual-in_err-edits-in-Listed.ensures.1, c.in-Listed.is) (batch-no_edits c.args.force _ c.in-Listed.text.now _ c.in_err-edits-in-Listed.ensures.refused)

pub returns-in_err-made-in-Listed-clause-found : goal.returns-in_err-made-in-Listed-clause-found
returns-in_err-made-in-Listed-clause-found c =
    rw (kept_error c.from_residual-in_err-made-in-Listed.ensures.1, c.in-Listed.is) (batch-refused c.args.force _ c.in-Listed.text.now _ c.in_ok-edits-in-Listed.ensures.found
    _ (rw c.deref.ensures.value at c.in_err-made-in-Listed.ensures.found))

pub returns-in_ok-made-in-Listed-clause-found : goal.returns-in_ok-made-in-Listed-clause-found
returns-in_ok-made-in-Listed-clause-found c =
    rw c.in-Listed.is (batch-made c.args.force _ c.in-Listed.text.now _ c.in_ok-edits-in-Listed.ensures.found
    _ (rw c.deref.ensures.value at c.in_ok-made-in-Listed.ensures.found))

pub returns-in_ok-made-in-Listed-clause-steps : goal.returns-in_ok-made-in-Listed-clause-steps
returns-in_ok-made-in-Listed-clause-steps c =
    batch-steps c.args.force _ _ c.in_ok-made-in-Listed.ensures.leads c.in_ok-made-in-Listed.ensures.changes
