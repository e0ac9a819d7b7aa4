use Rattle.rec_select.proofs.lemmas.selection.SelectionLemmas.{set_found, set_missing}
use Rattle.rec_select.proofs.chooser.typed_set.Goals as goal

pub returns-in-Some-clause-set : goal.returns-in-Some-clause-set
returns-in-Some-clause-set c =
    set_found c.args.record_type.now c.args.schema.now.sets.items c.sets.result.now c.in-Some.place c.index-sets-place.result c.in-Some.ensures c.sets.ensures c.index-sets-place.is

pub returns-in-None-clause-set : goal.returns-in-None-clause-set
returns-in-None-clause-set c = set_missing c.args.record_type.now c.args.schema.now.sets.items c.in-None.ensures
