use Rattle.std.proofs.Common.{arith, refl}
use Rattle.rec_text.proofs.lemmas.FaultLemmas.{memory_or_weaker}
use Rattle.rec_tools.proofs.lemmas.batches.TaskLemmas.{tasks_at, no_task_at}
use Rattle.rec_tools.proofs.editing.edits_of.Goals as goal

pub returns-in-Err-clause-place : goal.returns-in-Err-clause-place
returns-in-Err-clause-place c =
    memory_or_weaker c.in-Err.fault _ _ (λ none. (c.loop-index.index, none, refl))
    (no_task_at c.args.requests.now c.loop-index.index _ _ _ c.loop-index-test.true c.index-requests-index.is c.loop-index.invariant.tasks c.in-Err.ensures.refused)

pub loop-index-preserved : goal.loop-index-preserved
loop-index-preserved c = record {
  tasks = rw c.push_reserved.ensures.items
      (tasks_at c.args.requests.now c.loop-index.index _ _ _ c.loop-index-test.true c.index-requests-index.is
      c.loop-index.invariant.tasks c.in-Ok-edit_of.ensures.found);
  so_far = omega arith;
  room = omega arith;
}
