use Rattle.std.proofs.Common.{◌≡◌, Ok, length, map, take, vec_len, vec_capacity}
use Rattle.rec_edit.specs.Task.{task_of}
use Rattle.rec_tools.specs.Requests.{AreTasks}
use Rattle.rec_tools.proofs.editing.edits_of.Given as goal

-- the edits so far have these tasks, and there is room for the others
abbrev pub invariant-loop-index : goal.invariant-loop-index
invariant-loop-index l = record {
  tasks : AreTasks (take l.index l.requests) (Ok (map task_of l.edits.items));
  so_far : vec_len l.edits ≡ l.index;
  room : vec_capacity l.edits ≡ length l.requests;
}
