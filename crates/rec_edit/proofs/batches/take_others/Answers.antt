use Rattle.std.proofs.Common.{Ok, map, take, subst}
use Rattle.rec_edit.specs.Batch.{AreSteps}
use Rattle.rec_edit.specs.Task.{task_of}
use Rattle.rec_edit.proofs.lemmas.outcomes.BatchLemmas.{refused_edit, tasks_with}
use Rattle.rec_edit.proofs.batches.take_others.Goals as goal

pub returns-in-Err-clause-refused : goal.returns-in-Err-clause-refused
returns-in-Err-clause-refused c = λ text begun.
    refused_edit c.args.force c.args.edits.now text c.loop-index.done c.loop-index.index c.index-edits-index.result c.in-Err.fault c.loop-index-test.true c.index-edits-index.is
    (c.loop-index.invariant text begun) c.in-Err.ensures.refused

pub loop-index-preserved : goal.loop-index-preserved
loop-index-preserved c = λ text begun.
    subst (λ tasks. AreSteps c.args.force tasks text (Ok c.take_step.new.done))
    (tasks_with c.args.edits.now c.loop-index.index c.index-edits-index.result c.loop-index-test.true c.index-edits-index.is)
    (c.in_default.ensures.made (take c.loop-index.index (map task_of c.args.edits.now)) text (c.loop-index.invariant text begun))
