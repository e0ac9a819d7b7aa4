use Rattle.std.proofs.Common.{ℕ, List, map, take, Ok}
use Rattle.rec_edit.specs.Batch.{AreSteps}
use Rattle.rec_edit.specs.Task.{task_of}
use Rattle.rec_edit.proofs.batches.take_others.Given as goal

-- the edits before this one are made
abbrev pub invariant-loop-index : goal.invariant-loop-index
invariant-loop-index l = (text : List ℕ) → AreSteps l.force (take 1 (map task_of l.edits)) text (Ok l.fn.done) → AreSteps l.force (take l.index (map task_of l.edits)) text (Ok l.done)
