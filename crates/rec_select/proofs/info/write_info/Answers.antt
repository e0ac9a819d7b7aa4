use Rattle.rec_select.proofs.lemmas.info.InfoLemmas.{AreHeads-kept}
use Rattle.rec_select.proofs.info.write_info.Goals as goal

pub write_sets-requires : goal.write_sets-requires
write_sets-requires g c =
    let chosen = rw c.schema.ensures.schema at c.in_ok-sets.ensures in
    rw c.database.ensures.elements (AreHeads-kept _ _ _ _ c.schema.ensures.together chosen)
