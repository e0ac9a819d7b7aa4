use Rattle.std.proofs.Common.{◌≡◌, ◌++◌, drop}
use Rattle.rec_journal.specs.Revisions.{joined_steps, step_lists}
use Rattle.rec_diff.specs.proving.Runs.{steps_at}
use Rattle.rec_diff.proofs.composing.steps_of.Given as goal

-- the steps so far, and those of the edits that are left
abbrev pub invariant-loop-steps : goal.invariant-loop-steps
invariant-loop-steps l = steps_at l.all.items ++ joined_steps (step_lists (drop l.steps-index l.edits)) ≡ joined_steps (step_lists l.edits)
