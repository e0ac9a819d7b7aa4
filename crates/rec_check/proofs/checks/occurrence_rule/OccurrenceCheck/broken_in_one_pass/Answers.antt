use Rattle.std.proofs.Common.{◌≡◌, ap, subst}
use Rattle.std.specs.Prelude.{IfOk}
use Rattle.rec_text.specs.Places.{pieces_of}
use Rattle.rec_check.specs.Checks.{breaks_occurrence_rule}
use Rattle.rec_text.specs.Bytes.{texts}
use Rattle.rec_check.proofs.lemmas.checks.SeenLemmas.{breaking_at, breaking_besides}
use Rattle.rec_check.proofs.checks.occurrence_rule.OccurrenceCheck.broken_in_one_pass.Goals as goal

pub returns-in-Present-clause-names : goal.returns-in-Present-clause-names
returns-in-Present-clause-names c = λ once.
    let own = c.args.self.now in
    subst (λ own. IfOk c.besides.result (λ names. texts names.items ≡ own))
    (breaking_besides own.rule own.names (pieces_of c.args.fields.now) c.in_ok-seen.seen.once.keys (c.in_ok-seen.ensures.seen once).once c.in-Present.is) c.besides.ensures.names

pub returns-in-Absent-clause-names : goal.returns-in-Absent-clause-names
returns-in-Absent-clause-names c = λ once.
    let own = c.args.self.now in
    subst (λ own. IfOk c.at.result (λ names. texts names.items ≡ own))
    (breaking_at own.rule own.names (pieces_of c.args.fields.now) 1 c.in_ok-seen.seen.once.keys (c.in_ok-seen.ensures.seen once).once (ap breaks_occurrence_rule c.in-Absent.is)) c.at.ensures.names

pub returns-clause-names : goal.returns-clause-names
returns-clause-names c = λ once.
    let own = c.args.self.now in
    subst (λ own. IfOk c.at-in-Single.result (λ names. texts names.items ≡ own))
    (breaking_at own.rule own.names (pieces_of c.args.fields.now) 2 c.in_ok-seen.seen.again.keys (c.in_ok-seen.ensures.seen once).again (ap breaks_occurrence_rule c.in-Single.is))
    c.at-in-Single.ensures.names
