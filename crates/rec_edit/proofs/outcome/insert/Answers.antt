use Rattle.std.proofs.Common.{◌++◌, ℕ, List, map, Err, subst}
use Rattle.rec_text.specs.Faults.{IsMemoryOr}
use Rattle.rec_check.specs.Stored.{described}
use Rattle.rec_edit.specs.Task.{Pair, fresh_by}
use Rattle.rec_edit.specs.Automatic.{AreAutomatic}
use Rattle.rec_edit.specs.Insertions.{Numbered, numbered_fields}
use Rattle.rec_edit.specs.Outcome.{IsPutIn}
use Rattle.rec_edit.specs.Rules.{fields_of}
use Rattle.rec_text.specs.Steps.{Then}
use Rattle.rec_edit.specs.Wording.{IsNewRecord}
use Rattle.rec_edit.specs.proving.Given.{IsAutomaticText}
use Rattle.rec_edit.specs.proving.Sites.{IsRecordPut}
use Rattle.rec_text.proofs.lemmas.ErrorLemmas.{kept_error}
use Rattle.rec_edit.proofs.lemmas.insertions.SiteLemmas.{insert-made, put_some, put_within}
use Rattle.rec_edit.proofs.lemmas.outcomes.EditLemmas.{refused_first, refused_next}
use Rattle.rec_edit.proofs.outcome.insert.Goals.{In_ok-insertion}
use Rattle.rec_edit.proofs.outcome.insert.Goals as goal

-- the fields of the new record, and the automatic ones before them
given : (c : In_ok-insertion) → IsAutomaticText c.args.file.now.pieces (described c.args.file.now.schema) c.args.record_type.now c.args.auto
    (map (λ pair. pair.name) c.in_ok-pairs.pairs.items) c.in_ok-automatic.automatic.items
given c =
    let P : List Pair → Type 0 = λ pairs.
    IsAutomaticText c.args.file.now.pieces (described c.args.file.now.schema) c.args.record_type.now c.args.auto (map (λ pair. pair.name) pairs) c.in_ok-automatic.automatic.items in
    subst P c.deref.ensures.value c.in_ok-automatic.ensures.found

put : (c : In_ok-insertion)
    → IsRecordPut c.args.file.now.pieces c.args.file.now.schema.sets.items c.args.record_type.now c.in_ok-automatic.automatic.items c.in_ok-pairs.pairs.items c.in_ok-insertion.insertion.place
    c.in_ok-insertion.insertion.text.items
put c =
    let P : List ℕ → List Pair → Type 0 = λ automatic pairs.
    IsRecordPut c.args.file.now.pieces c.args.file.now.schema.sets.items c.args.record_type.now automatic pairs c.in_ok-insertion.insertion.place c.in_ok-insertion.insertion.text.items in
    subst (λ (pairs : List Pair). P c.in_ok-automatic.automatic.items pairs) c.deref-3.ensures.value
    (subst (λ (automatic : List ℕ). P automatic c.deref-3.result.now) c.deref-2.ensures.value c.in_ok-insertion.ensures)

pub returns-in_err-pairs : goal.returns-in_err-pairs
returns-in_err-pairs c = λ force.
    let pieces = c.args.file.now.pieces in
    let schema = described c.args.file.now.schema in
    let kind = c.args.record_type.now in
    rw (kept_error c.from_residual.ensures.1)
    (refused_first (IsNewRecord kind (fresh_by c.args.fresh.now))
    (λ pairs. Then (AreAutomatic pieces schema kind c.args.auto (map (λ pair. pair.name) pairs)) (λ automatic. IsPutIn pieces schema.sets kind (numbered_fields automatic ++ fields_of pairs)))
    c.in_err-pairs.field-0.0 c.in_err-pairs.ensures.refused)

pub returns-in_err-automatic : goal.returns-in_err-automatic
returns-in_err-automatic c = λ force.
    let pieces = c.args.file.now.pieces in
    let schema = described c.args.file.now.schema in
    let kind = c.args.record_type.now in
    let P : List Pair → Type 0 = λ pairs.
    IsMemoryOr c.in_err-automatic.field-0.0 (AreAutomatic pieces schema kind c.args.auto (map (λ pair. pair.name) pairs) (Err c.in_err-automatic.field-0.0)) in
    rw (kept_error c.from_residual-in_err-automatic.ensures.1)
    (refused_next {B = List Numbered} (IsNewRecord kind (fresh_by c.args.fresh.now)) (λ pairs. AreAutomatic pieces schema kind c.args.auto (map (λ pair. pair.name) pairs))
    (λ pairs automatic. IsPutIn pieces schema.sets kind (numbered_fields automatic ++ fields_of pairs))
    c.in_ok-pairs.pairs.items c.in_err-automatic.field-0.0 c.in_ok-pairs.ensures.found (subst P c.deref.ensures.value c.in_err-automatic.ensures.refused))

pub carried_out-requires-clause-within : goal.carried_out-requires-clause-within
carried_out-requires-clause-within c =
    let at = (goal.at.carried_out-requires-clause-within c).In_ok-insertion in
    rw c.database.ensures.elements (put_within c.args.file.now.pieces (described c.args.file.now.schema) c.args.record_type.now
    (fresh_by c.args.fresh.now) c.args.auto c.in_ok-pairs.pairs.items c.in_ok-pairs.ensures.found
    c.in_ok-automatic.automatic.items c.in_ok-insertion.insertion.place c.in_ok-insertion.insertion.text.items (given at) (put at))

pub carried_out-requires-clause-some : goal.carried_out-requires-clause-some
carried_out-requires-clause-some c =
    let at = (goal.at.carried_out-requires-clause-some c).In_ok-insertion in
    put_some c.args.file.now.pieces (described c.args.file.now.schema) c.args.record_type.now (fresh_by c.args.fresh.now) c.args.auto c.in_ok-pairs.pairs.items c.in_ok-pairs.ensures.found
    c.in_ok-automatic.automatic.items c.in_ok-insertion.insertion.place c.in_ok-insertion.insertion.text.items (given at) (put at)

pub returns : goal.returns
returns c = λ force.
    let at = (goal.at.returns c).In_ok-insertion in
    insert-made c.args.file.now.pieces (described c.args.file.now.schema) c.args.record_type.now (fresh_by c.args.fresh.now) c.args.auto c.in_ok-pairs.pairs.items c.in_ok-pairs.ensures.found
    c.in_ok-automatic.automatic.items c.in_ok-insertion.insertion.place c.in_ok-insertion.insertion.text.items (given at) (put at)
    force c.in_ok-carried_out.field-0 (rw c.database.ensures.elements at c.in_ok-carried_out.ensures)
