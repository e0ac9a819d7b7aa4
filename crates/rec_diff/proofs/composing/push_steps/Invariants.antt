use Rattle.std.proofs.Common.{◌≡◌, ◌++◌, drop}
use Rattle.rec_diff.specs.proving.Runs.{steps_at}
use Rattle.rec_diff.proofs.composing.push_steps.Given as goal

abbrev pub invariant-loop-step : goal.invariant-loop-step
invariant-loop-step l = steps_at l.all.items ++ drop l.step-index l.steps ≡ steps_at l.initial.all.items ++ l.steps
