use Rattle.std.proofs.Common.{◌≢◌, ◌≡◌, List, Result, Err, map, subst}
use Rattle.rec_text.specs.declared.fault.Fault.{Fault}
use Rattle.rec_text.specs.declared.fault.Fault.TheVariants.{BadPattern}
use Rattle.rec_text.specs.Elements.{text_of}
use Rattle.rec_text.specs.Faults.{UnlessMemory}
use Rattle.rec_edit.specs.declared.answer.Edited.{Edited}
use Rattle.rec_edit.specs.declared.request.Edit.{Edit}
use Rattle.rec_edit.specs.Batch.{IsBatchOutcome}
use Rattle.rec_edit.specs.Task.{task_of}
use Rattle.rec_edit.proofs.batches.edit.Goals as goal

pub returns-clause-found : goal.returns-clause-found
returns-clause-found c =
    subst (λ (edits : List Edit). UnlessMemory c.batch.result (IsBatchOutcome c.args.force (map task_of edits) (text_of c.args.file.pieces))) c.from_ref.ensures.value c.batch.ensures.found

pub returns-clause-only : goal.returns-clause-only
returns-clause-only c =
    let P : List Edit → Type 0 = λ edits. (other : Result Edited Fault) → IsBatchOutcome c.args.force (map task_of edits) (text_of c.args.file.pieces) other
    → (other ≢ Err BadPattern) → UnlessMemory c.batch.result (λ answer. (answer ≢ Err BadPattern) → answer ≡ other) in
    subst P c.from_ref.ensures.value c.batch.ensures.only
