use Rattle.std.proofs.Common.{refl, arith}
use Rattle.std.proofs.lemmas.List.{length-map}
use Rattle.std.proofs.lemmas.Option.{slice_get-get_or}
use Rattle.rec_text.specs.Elements.{text_of}
use Rattle.rec_text.specs.Places.{piece_of, pieces_of}
use Rattle.rec_check.specs.proving.Reading.{said}
use Rattle.rec_check.proofs.lemmas.descriptors.DescriptorLemmas.{read_all, read_more, read_fault, piece_met}
use Rattle.rec_check.proofs.descriptors.descriptor.Descriptor.read.Goals as goal

pub returns-in-Err-clause-refused : goal.returns-in-Err-clause-refused
returns-in-Err-clause-refused c =
    let fields = c.args.fields.now in
    read_fault c.args.types.now (pieces_of fields) c.loop-field.field-index (said c.loop-field.descriptor) c.loop-field.invariant
    _ (piece_met fields c.loop-field.field-index _ c.loop-field-test.true) (text_of c.args.database.now) fields _ refl
    (slice_get-get_or fields c.loop-field.field-index _ c.loop-field-test.true) c.line_of-line.result c.line_of-line.ensures (said c.add_field.new.self)
    c.in-Err.refusal c.refusal_at_line.result c.refusal_at_line.ensures c.in-Err.ensures

pub loop-field-preserved : goal.loop-field-preserved
loop-field-preserved c =
    let fields = c.args.fields.now in
    read_more c.args.types.now (pieces_of fields) c.loop-field.field-index (said c.loop-field.descriptor) c.loop-field.invariant
    _ (piece_met fields c.loop-field.field-index _ c.loop-field-test.true) (said c.add_field.new.self) c.in-Ok.ensures.0 c.in-Ok.ensures.1

pub returns-clause-found : goal.returns-clause-found
returns-clause-found c =
    read_all c.args.types.now (pieces_of c.args.fields.now) c.loop-field.field-index (said c.loop-field.descriptor) c.loop-field.invariant
    (omega (arith, length-map c.args.fields.now piece_of))
