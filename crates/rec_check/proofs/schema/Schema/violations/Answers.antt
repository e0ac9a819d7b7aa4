use Rattle.rec_check.proofs.lemmas.DescribedLemmas.{violations_as}
use Rattle.rec_check.proofs.schema.Schema.violations.Goals as goal

pub returns-clause-violations : goal.returns-clause-violations
returns-clause-violations c =
    violations_as c.args.database.now c.deref.result.now c.args.self.now.sets.items c.deref-2.result.now c.args.self.now.rules.items c.violations_of.result c.deref.ensures.value
    c.deref-2.ensures.value c.violations_of.ensures.violations
