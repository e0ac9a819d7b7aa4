use Rattle.rec_check.proofs.lemmas.checks.NameLemmas.{distinct_taken}
use Rattle.rec_check.proofs.checks.names.Names.of.Goals as goal

pub loop-name-preserved : goal.loop-name-preserved
loop-name-preserved c =
    distinct_taken c.args.names.now c.loop-name.name-index c.name-item.result c.as_slice.result.now c.loop-name.kept c.add.new.self c.loop-name-test.true c.name-item.is c.as_slice.ensures
    c.loop-name.invariant c.in_ok-add.ensures
