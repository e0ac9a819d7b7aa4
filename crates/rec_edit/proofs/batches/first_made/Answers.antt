use Rattle.std.proofs.Common.{◌≡◌, ◌∙◌, Ok, Err, ◌∷◌, [], map, take, refl, ap, sym, subst}
use Rattle.rec_text.specs.Elements.{AreElementsOf, text_of}
use Rattle.rec_text.specs.Faults.{IsMemoryOr}
use Rattle.rec_check.specs.Stored.{described}
use Rattle.rec_edit.specs.declared.answer.Edited.{Edited}
use Rattle.rec_edit.specs.Batch.{AreSteps, IsRefusedAt}
use Rattle.rec_edit.specs.Task.{task_of, tool_of}
use Rattle.rec_edit.specs.proving.Batches.{after_edit, untouched}
use Rattle.rec_text.proofs.lemmas.ErrorLemmas.{kept_error}
use Rattle.rec_edit.proofs.lemmas.outcomes.BatchLemmas.{IsRead, edit_of_read, with_last}
use Rattle.rec_edit.proofs.batches.first_made.Goals as goal
use Rattle.rec_edit.proofs.batches.first_made.Goals.{In-Some}

-- the file is that of its text
there : (c : In-Some) → IsRead (text_of c.args.file.pieces) c.args.file.pieces (described c.args.file.schema)
there c = record { read = subst (λ ps. AreElementsOf ps (text_of ps)) c.database.ensures.elements c.text-text.ensures.whole; is = c.database.ensures.together }

pub returns-in_err-made-clause-refused : goal.returns-in_err-made-clause-refused
returns-in_err-made-clause-refused c =
    let fault = c.in_err-made.field-0.0 in
    rw (kept_error c.from_residual-in_err-made.ensures.1)
    (subst (λ edits. IsMemoryOr fault (IsRefusedAt c.args.force (map task_of edits) (text_of c.args.file.pieces) 0 fault)) (sym c.in-Some.ensures.cases.0)
    (edit_of_read c.args.force (task_of c.in-Some.first.now) (text_of c.args.file.pieces) c.args.file.pieces (described c.args.file.schema) (Err fault)
    (there (goal.at.returns-in_err-made-clause-refused c).In-Some) c.in_err-made.ensures))

pub returns-clause-made : goal.returns-clause-made
returns-clause-made c =
    let text = text_of c.args.file.pieces in
    let task = task_of c.in-Some.first.now in
    let patched = c.in_ok-made.field-0 in
    let done : c.add.new.self ≡ after_edit (untouched text) (tool_of task) patched =
    c.in_ok-add.ensures ∙ ap (λ d. after_edit d c.tool.result patched) c.start-done.ensures ∙ ap (λ tool. after_edit (untouched text) tool patched) c.tool.ensures in
    subst (λ edits. AreSteps c.args.force (take 1 (map task_of edits)) text (Ok c.add.new.self)) (sym c.in-Some.ensures.cases.0)
    (subst (λ (made : Edited). AreSteps c.args.force (task ∷ []) text (Ok made)) (sym done)
    (with_last c.args.force task [] text (untouched text) patched refl
    (edit_of_read c.args.force task text c.args.file.pieces (described c.args.file.schema) (Ok patched) (there (goal.at.returns-clause-made c).In-Some) c.in_ok-made.ensures)))
