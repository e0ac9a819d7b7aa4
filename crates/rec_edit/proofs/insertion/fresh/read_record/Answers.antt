use Rattle.rec_edit.proofs.lemmas.outcomes.AnswerLemmas.{unread_is_refused}
use Rattle.rec_edit.proofs.insertion.fresh.read_record.Goals as goal

pub returns-in-Err-clause-refused : goal.returns-in-Err-clause-refused
returns-in-Err-clause-refused c = rw c.cause_of.ensures (unread_is_refused c.args.text.now c.in-Err.fault c.in-Err.ensures.only)
