use Rattle.std.proofs.Common.{◌≡◌, ◌&&◌, filter, nat_lt, slice_get}
use Rattle.rec_tools.proofs.obstacles.later_at.Given as goal

-- the edit stands at the place that is left among the steps that are left
abbrev pub invariant-loop-step : goal.invariant-loop-step
invariant-loop-step l =
    slice_get (filter (λ step. step.done && nat_lt l.fn.number step.number) l.step-iterator) l.left
    ≡ slice_get (filter (λ step. step.done && nat_lt l.fn.number step.number) l.fn.steps) l.fn.place
