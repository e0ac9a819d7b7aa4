use Rattle.std.proofs.Common.{◌∙◌, Ok, Err, ap, sym, subst, ◌++◌, ◌∷◌, []}
use Rattle.rec_text.specs.Faults.{IsMemoryOr}
use Rattle.rec_edit.specs.declared.answer.Edited.{Edited}
use Rattle.rec_edit.specs.Batch.{AreSteps, IsEditOn}
use Rattle.rec_edit.specs.Task.{task_of}
use Rattle.rec_edit.specs.proving.Batches.{after_edit}
use Rattle.rec_text.proofs.lemmas.ErrorLemmas.{kept_error}
use Rattle.rec_edit.proofs.lemmas.outcomes.BatchLemmas.{with_last}
use Rattle.rec_edit.proofs.batches.take_step.Goals as goal

pub returns-in_err-patched-clause-refused : goal.returns-in_err-patched-clause-refused
returns-in_err-patched-clause-refused c =
    let fault = c.in_err-patched.field-0.0 in
    rw (kept_error c.from_residual.ensures.1) (subst (λ text. IsMemoryOr fault (IsEditOn c.args.force (task_of c.args.edit.now) text (Err fault))) c.text.ensures c.in_err-patched.ensures)

pub returns-clause-made : goal.returns-clause-made
returns-clause-made c = λ tasks text are.
    let task = task_of c.args.edit.now in
    let patched = c.in_ok-patched.patched in
    subst (λ (made : Edited). AreSteps c.args.force (tasks ++ task ∷ []) text (Ok made)) (sym (c.in_ok-add.ensures ∙ ap (λ tool. after_edit c.args.done.now tool patched) c.tool.ensures))
    (with_last c.args.force task tasks text c.args.done.now patched are (subst (λ here. IsEditOn c.args.force task here (Ok patched)) c.text.ensures c.in_ok-patched.ensures))
