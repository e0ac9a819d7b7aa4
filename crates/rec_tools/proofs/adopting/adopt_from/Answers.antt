use Rattle.rec_text.proofs.lemmas.ErrorLemmas.{kept_error}
use Rattle.rec_tools.proofs.lemmas.outcomes.AdoptLemmas.{adopted_from}
use Rattle.std.proofs.Common.{Err}
use Rattle.rec_tools.proofs.adopting.adopt_from.Goals as goal

pub returns-in-Err-clause-found : goal.returns-in-Err-clause-found
returns-in-Err-clause-found c = rw c.without_end.ensures c.in-Err.ensures.found

pub adopted-requires-clause-ends : goal.adopted-requires-clause-ends
adopted-requires-clause-ends c = c.in-Ok.ensures.found.0

pub adopted-requires-clause-end : goal.adopted-requires-clause-end
adopted-requires-clause-end c = c.in-Ok.ensures.found.1.3

pub returns-in_err-adopted-clause-found : goal.returns-in_err-adopted-clause-found
returns-in_err-adopted-clause-found c =
    rw (kept_error c.from_residual.ensures.1) (adopted_from c.args.file.now c.args.journal.now c.args.old.now c.args.history.now c.in-Ok.end c.in-Ok.ensures.found
    (Err c.in_err-adopted.field-0.0) c.in_err-adopted.ensures.found)

pub returns-clause-found : goal.returns-clause-found
returns-clause-found c = (c.in-Ok.end, c.in-Ok.ensures.found, c.in_ok-adopted.ensures.found)
