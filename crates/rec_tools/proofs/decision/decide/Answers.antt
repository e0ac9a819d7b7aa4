use Rattle.std.proofs.Common.{ℕ, List, subst}
use Rattle.rec_text.specs.Faults.{UnlessMemory}
use Rattle.rec_check.specs.DescribedTexts.{IsDescribedText}
use Rattle.rec_tools.specs.Asked.{editing}
use Rattle.rec_tools.specs.Requests.{IsMade, IsBatch}
use Rattle.rec_tools.specs.Outcomes.{Decides}
use Rattle.rec_tools.proofs.decision.decide.Goals as goal

pub returns-in-Edit-clause-found : goal.returns-in-Edit-clause-found
returns-in-Edit-clause-found c = rw c.in-Edit.is c.decide_edit.ensures.found

pub returns-in-Batch-clause-found : goal.returns-in-Batch-clause-found
returns-in-Batch-clause-found c =
    let P : List ℕ → Type 0 = λ text.
    UnlessMemory c.decide_edit-in-Batch.result
    (Decides c.args.file.now c.args.journal.now (editing IsDescribedText (IsMade (IsBatch text c.in-Batch.force)))) in
    rw c.in-Batch.is (subst P c.as_slice-text.ensures c.decide_edit-in-Batch.ensures.found)
