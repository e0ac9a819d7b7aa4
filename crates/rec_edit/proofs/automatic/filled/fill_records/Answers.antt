use Rattle.std.proofs.Common.{◌∙◌, ℕ, List, get_or, ap, sym}
use Rattle.std.proofs.lemmas.List.{get_or_default, map_push}
use Rattle.std.specs.declared.ops.Range.{Range}
use Rattle.rec_text.specs.Places.{pieces_of}
use Rattle.rec_check.specs.Violations.{names_of}
use Rattle.rec_edit.specs.declared.automatic.filled.FilledRecord.{FilledRecord}
use Rattle.rec_edit.specs.proving.Filling.{numbered, filled_of}
use Rattle.rec_edit.specs.Insertions.{Numbered}
use Rattle.rec_text.proofs.lemmas.ErrorLemmas.{kept_error}
use Rattle.rec_text.proofs.lemmas.FaultLemmas.{memory_or_weaker}
use Rattle.rec_edit.proofs.lemmas.automatic.FillLemmas.{none_filled, one_filled, one_refused, all_filled}
use Rattle.rec_edit.proofs.automatic.filled.fill_records.Goals as goal

pub loop-record-init : goal.loop-record-init
loop-record-init c = λ rules numbers are. none_filled (pieces_of c.args.elements.now) rules numbers c.args.records.now (filled_of c.args.filled.now.items) c.args.counters.now are

pub returns-in_err-given-clause-refused : goal.returns-in_err-given-clause-refused
returns-in_err-given-clause-refused c = λ rules numbers are.
    let pieces = pieces_of c.args.elements.now in
    let records = c.args.records.now in
    let i = c.loop-record.record-index in
    let none : Range ℕ = record { start = 0; end = 0 } in
    let one : Range ℕ = get_or records i none in
    let so_far = c.loop-record.invariant rules numbers are in
    let fault = c.in_err-given.field-0.0 in
    rw (kept_error c.from_residual.ensures.1) (memory_or_weaker fault _ _
    (one_refused pieces rules numbers records (filled_of c.args.filled.now.items) i (filled_of c.loop-record.filled.items) c.loop-record.counters one
    (names_of (pieces_of c.elements_in-fields.result.now)) c.loop-record-test.true
    (sym (get_or_default records i none one c.loop-record-test.true)) (ap names_of c.elements_in-fields.ensures.pieces) so_far fault)
    (c.in_err-given.ensures.refused rules so_far.now so_far.counters_are))

pub loop-record-preserved : goal.loop-record-preserved
loop-record-preserved c = λ rules numbers are.
    let pieces = pieces_of c.args.elements.now in
    let records = c.args.records.now in
    let i = c.loop-record.record-index in
    let none : Range ℕ = record { start = 0; end = 0 } in
    let one : Range ℕ = get_or records i none in
    let so_far = c.loop-record.invariant rules numbers are in
    let kept : FilledRecord → List Numbered = λ o. numbered o.given.items in
    one_filled pieces rules numbers records (filled_of c.args.filled.now.items) i (filled_of c.loop-record.filled.items) c.loop-record.counters one
    (names_of (pieces_of c.elements_in-fields.result.now)) c.loop-record-test.true
    (sym (get_or_default records i none one c.loop-record-test.true)) (ap names_of c.elements_in-fields.ensures.pieces) so_far (numbered c.in_ok-given.given.items) c.fill_record.new.counters
    (filled_of c.push.new.self.items)
    (c.in_ok-given.ensures.given rules so_far.now so_far.counters_are)
    (ap filled_of c.in_ok-push.ensures.items ∙ map_push kept c.loop-record.filled.items (record { given = c.in_ok-given.given }))

pub returns-clause-filled : goal.returns-clause-filled
returns-clause-filled c = λ rules numbers are.
    all_filled (pieces_of c.args.elements.now) rules numbers c.args.records.now (filled_of c.args.filled.now.items) c.loop-record.record-index
    (filled_of c.loop-record.filled.items) c.loop-record.counters c.loop-record-test.false (c.loop-record.invariant rules numbers are)
