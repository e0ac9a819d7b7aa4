use Rattle.std.proofs.Common.{◌∙◌, sym}
use Rattle.rec_select.proofs.lemmas.info.InfoLemmas.{sets_for-found, sets_for-missing}
use Rattle.rec_select.proofs.info.sets_for.Goals as goal

pub returns-in-Some-set_of_type : goal.returns-in-Some-set_of_type
returns-in-Some-set_of_type c =
    let at = sym c.set_of_type.ensures ∙ c.in-Some-set_of_type.is in
    let is = rw c.sets-in-Some-set_of_type.ensures at c.index-sets-place.is in
    rw (c.in-Some.is, c.from_ref.ensures.value) (sets_for-found c.in-Some.record_type.now c.args.schema.now.sets.items _ _ at is)

pub returns-in-None : goal.returns-in-None
returns-in-None c =
    rw (c.refused_set.ensures, c.in-Some.is) (sets_for-missing c.in-Some.record_type.now c.args.schema.now.sets.items (sym c.set_of_type.ensures ∙ c.in-None.is))
