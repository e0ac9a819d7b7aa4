use Rattle.rec_text.specs.Places.{pieces_of}
use Rattle.rec_tools.proofs.lemmas.batches.BatchLemmas.{refused_record, next_record}
use Rattle.rec_tools.proofs.batches.edits_of.Goals as goal

pub returns-in-Err-Refused-clause-refused : goal.returns-in-Err-Refused-clause-refused
returns-in-Err-Refused-clause-refused c =
    rw (c.about.ensures, c.from-refusal.ensures) (
    refused_record (pieces_of c.elements-elements.result.now) c.args.database.now (pieces_of c.elements_in.result.now)
    c.as_slice-records.result.now c.records.result c.loop-record.edits.items c.loop-record.record-index
    (record { start = 0; end = 0 }) c.elements-elements.ensures.pieces c.as_slice-records.ensures c.records.ensures
    c.loop-record-test.true c.elements_in.ensures.pieces c.loop-record.invariant c.line_of-line.result c.place_of.result
    c.in-Err-Refused.field-0-0 (rw c.in-Err-Refused.field-0-is at c.in-Err-Refused.ensures) c.place_of.ensures c.line_of-line.ensures
    )

pub loop-record-preserved : goal.loop-record-preserved
loop-record-preserved c =
    next_record (pieces_of c.elements-elements.result.now) c.args.database.now (pieces_of c.elements_in.result.now)
    c.as_slice-records.result.now c.records.result c.loop-record.edits.items c.loop-record.record-index
    (record { start = 0; end = 0 }) c.elements-elements.ensures.pieces c.as_slice-records.ensures c.records.ensures
    c.loop-record-test.true c.elements_in.ensures.pieces c.loop-record.invariant c.in-Ok.edit c.push.new.self.items
    c.in-Ok.ensures c.in_ok-push-in-Ok.ensures.items
