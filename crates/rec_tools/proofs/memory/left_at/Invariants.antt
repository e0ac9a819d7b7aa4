use Rattle.std.proofs.Common.{◌≡◌, drop}
use Rattle.rec_tools.specs.Memory.{writes_left}
use Rattle.rec_tools.proofs.memory.left_at.Given as goal

-- what is left decides
abbrev pub invariant-loop-failing : goal.invariant-loop-failing
invariant-loop-failing l = writes_left l.faults l.call ≡ writes_left (drop l.failing-index l.faults) l.call
