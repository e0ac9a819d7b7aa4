use Rattle.std.proofs.Common.{◌≢◌, length, ap, arith}
use Rattle.rec_edit.proofs.lemmas.outcomes.AnswerLemmas.{other_records_are_refused}
use Rattle.rec_edit.proofs.insertion.fresh.pairs_of_text.Goals as goal

pub returns-clause-refused : goal.returns-clause-refused
returns-clause-refused c =
    let not_one : length c.records.result ≢ 1 = omega (arith, ap length c.as_slice.ensures, c.in-None.ensures) in
    rw c.not_one.ensures (other_records_are_refused c.args.text.now c.in_ok-database.database c.records.result c.in_ok-database.ensures.elements c.records.ensures not_one)
