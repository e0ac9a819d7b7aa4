use Rattle.std.proofs.Common.{◌∙◌, ◌<◌, ◌≤◌, ◌^◌, List, ap, inl, length, subst, arith}
use Rattle.std.proofs.lemmas.List.{length-map}
use Rattle.rec_text.specs.declared.element.Element.{Element}
use Rattle.rec_text.specs.Elements.{text_of}
use Rattle.rec_text.specs.Faults.{IsMemoryOr}
use Rattle.rec_text.specs.Places.{piece_of}
use Rattle.rec_check.specs.proving.Reading.{IsRefusedRecord, drafted}
use Rattle.rec_text.proofs.lemmas.ErrorLemmas.{kept_error}
use Rattle.rec_text.proofs.lemmas.elements.ElementLemmas.{few_pieces}
use Rattle.rec_check.proofs.lemmas.descriptors.SchemaLemmas.{IsSchemaUpTo, schema_first, countable, record_within, schema_more, fields_within, schema_fault, schema_all}
use Rattle.rec_check.proofs.lemmas.TypeLemmas.{record_types-HaveTypes}
use Rattle.rec_check.proofs.schema.Schema.read.Goals as goal
use Rattle.rec_check.proofs.schema.Schema.read.Goals.{After-into_iter-index-iterator, In-Some}

few : (c : After-into_iter-index-iterator) → length c.args.database.now < 2 ^ 64
few c = few_pieces c.args.database.now c.elements-elements.result.now (2 ^ 64) c.elements-elements.ensures.pieces (omega arith)

start : (c : After-into_iter-index-iterator) → IsSchemaUpTo c.args.database.now c.into_iter-index-iterator.result.count c.into_iter-index-iterator.result.iter (drafted c.in_ok-draft.draft)
start c =
    let enumerated = c.enumerate-index-items.ensures in
    let given = c.into_iter-index-iterator.ensures.into_iter_gives in
    schema_first c.args.database.now c.records.result _ _ _ c.records.ensures (ap (λ i. i.count) given ∙ enumerated.count) (ap (λ i. i.iter) given ∙ enumerated.source) c.in_ok-draft.ensures.untyped

pub loop-index-init-derived : goal.loop-index-init-derived
loop-index-init-derived c = ((tt, tt, inl (countable _ _ _ _ (2 ^ 64) (start c) (few c))), tt)

pub loop-index-init : goal.loop-index-init
loop-index-init c = record { can = (tt, tt, inl (countable _ _ _ _ (2 ^ 64) (start c) (few c))); finite = tt; so_far = start c; typed = c.in_ok-draft.ensures.typed }

bounds : (c : In-Some) → (c.in-Some.record.start ≤ c.in-Some.record.end) × (c.in-Some.record.end ≤ length c.elements-elements.result.now)
bounds c =
    let within = record_within c.args.database.now _ _ (drafted c.loop-index.draft) c.in-Some.record _ c.in-Some.ensures.steps.0 c.loop-index.invariant.so_far in
    (within.0, omega (arith, within.1, ap length c.elements-elements.ensures.pieces, length-map c.elements-elements.result.now piece_of))

pub elements_in-fields-requires : goal.elements_in-fields-requires
elements_in-fields-requires c =
    let within = bounds (goal.at.elements_in-fields-requires c).In-Some in
    record { ordered = within.0; within = within.1 }

pub add-requires-clause-places : goal.add-requires-clause-places
add-requires-clause-places c =
    rw c.elements_in-fields.ensures.elements
    (fields_within c.args.database.now _ _ (drafted c.loop-index.draft) c.in-Some.record _ c.in-Some.ensures.steps.0 c.loop-index.invariant.so_far
    c.elements-elements.result.now c.elements-elements.ensures.pieces c.loop-index.draft.types
    (record_types-HaveTypes c.loop-index.draft.sets.items c.loop-index.draft.types c.loop-index.invariant.typed) c.elements-elements.ensures.places)

pub loop-index-preserved : goal.loop-index-preserved
loop-index-preserved c =
    let steps = c.in-Some.ensures.steps in
    let short = few_pieces c.args.database.now c.elements-elements.result.now (2 ^ 64) c.elements-elements.ensures.pieces (omega arith) in
    let so_far = schema_more c.args.database.now _ _ (drafted c.loop-index.draft) c.in-Some.record _ steps.0 c.loop-index.invariant.so_far
    c.elements-elements.result.now c.elements-elements.ensures.pieces c.loop-index.draft.types
    (record_types-HaveTypes c.loop-index.draft.sets.items c.loop-index.draft.types c.loop-index.invariant.typed)
    c.in-Some.index c.next.new.self.count (drafted c.add.new.self) steps.1 steps.2 (rw c.elements_in-fields.ensures.elements at c.in_ok-add.ensures.added) in
    record { can = (tt, tt, inl (countable _ _ _ _ (2 ^ 64) so_far short)); finite = tt; so_far = so_far; typed = c.in_ok-add.ensures.typed }

pub returns-in_err-add-clause-refused : goal.returns-in_err-add-clause-refused
returns-in_err-add-clause-refused c =
    let fault = c.in_err-add.field-0.0 in
    let P : List Element → Type 0 = λ fields. IsMemoryOr fault (IsRefusedRecord (text_of c.args.database.now) c.loop-index.draft.types fields fault) in
    rw (kept_error c.from_residual-in_err-add.ensures.1)
    (schema_fault c.args.database.now _ _ (drafted c.loop-index.draft) c.in-Some.record _ c.in-Some.ensures.steps.0 c.loop-index.invariant.so_far
    c.elements-elements.result.now c.elements-elements.ensures.pieces c.loop-index.draft.types
    (record_types-HaveTypes c.loop-index.draft.sets.items c.loop-index.draft.types c.loop-index.invariant.typed) c.elements-elements.ensures.places c.in_err-add.field-0.0
    (subst P c.elements_in-fields.ensures.elements c.in_err-add.ensures.refused))

pub returns-clause-found : goal.returns-clause-found
returns-clause-found c =
    schema_all c.args.database.now _ _ (drafted c.loop-index.draft) c.in-None.ensures.steps.0.0 c.loop-index.invariant.so_far
