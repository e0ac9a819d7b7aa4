use Rattle.rec_edit.proofs.lemmas.insertions.SiteLemmas.{IsRecordPut-text}
use Rattle.rec_edit.proofs.insertion.Insertion.of.Goals as goal

pub returns : goal.returns
returns c =
    let pieces = c.database.ensures.elements in
    let schema = c.schema.ensures.schema in
    IsRecordPut-text c.args.file.now.pieces c.args.file.now.schema.sets.items c.args.record_type.now c.in_ok-site.site c.args.automatic.now c.args.pairs.now _ _ _ _ _
    (rw (pieces, schema) at c.in_ok-site.ensures) c.new-text.ensures.items c.in_ok-extend_from_slice.ensures.items c.in_ok-append_fields.ensures c.in_ok-append_line_after.ensures
