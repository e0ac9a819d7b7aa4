use Rattle.std.proofs.Common.{◌≢◌, take}
use Rattle.std.specs.List.{AllByRecursion}
use Rattle.rec_command.specs.Usage.{name_of}
use Rattle.rec_command.proofs.tools.named_among.Given as goal

-- the tools so far have another name
abbrev pub invariant-loop-tool : goal.invariant-loop-tool
invariant-loop-tool l = AllByRecursion (λ tool. name_of tool ≢ l.name) (take l.tool-index l.tools)
