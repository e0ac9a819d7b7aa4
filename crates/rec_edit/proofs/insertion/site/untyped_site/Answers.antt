use Rattle.std.proofs.Common.{◌∙◌}
use Rattle.rec_text.specs.Places.{pieces_of}
use Rattle.rec_edit.specs.Insertions.{at_end}
use Rattle.rec_edit.proofs.lemmas.insertions.SiteLemmas.{beside_descriptor, untyped_insertion-is}
use Rattle.rec_edit.proofs.insertion.site.untyped_site.Goals as goal

pub returns-in-Some : goal.returns-in-Some
returns-in-Some c = λ fields.
    let pieces = pieces_of c.args.elements.now in
    untyped_insertion-is pieces c.args.records.now c.args.sets.now fields ∙ c.in-Some.ensures fields (beside_descriptor pieces c.args.records.now c.args.sets.now fields)

pub returns-in-None : goal.returns-in-None
returns-in-None c = λ fields.
    let pieces = pieces_of c.args.elements.now in
    untyped_insertion-is pieces c.args.records.now c.args.sets.now fields ∙ c.in-None.ensures fields (beside_descriptor pieces c.args.records.now c.args.sets.now fields)
    ∙ c.before_descriptor.ensures fields (at_end pieces fields)
