use Rattle.rec_text.specs.Places.{pieces_of}
use Rattle.rec_edit.proofs.lemmas.insertions.SiteLemmas.{Begins-heading}
use Rattle.rec_edit.proofs.insertion.begin.Goals as goal

pub returns-in_ok-append_heading-in-None : goal.returns-in_ok-append_heading-in-None
returns-in_ok-append_heading-in-None c =
    Begins-heading c.args.database.now (pieces_of c.elements-elements.result.now) c.args.schema.now.sets.items c.args.record_type.now c.records.result c.as_slice.result.now c.at_end-site.result
    c.elements-elements.ensures.pieces c.as_slice.ensures c.records.ensures _ _ _
    c.in_ok-append_line_before-in-None.ensures c.in_ok-append_heading-in-None.ensures c.in-None.ensures c.at_end-site.ensures
