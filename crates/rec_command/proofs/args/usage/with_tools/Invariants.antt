use Rattle.std.proofs.Common.{◌≡◌, take}
use Rattle.std.specs.List.{fold}
use Rattle.clap.specs.Words.{app_of}
use Rattle.rec_command.specs.Usage.{with_tool}
use Rattle.rec_command.proofs.args.usage.with_tools.Given as goal

-- the program with the tools so far
abbrev pub invariant-loop-tool : goal.invariant-loop-tool
invariant-loop-tool l = app_of l.program ≡ fold with_tool (app_of l.initial.program) (take l.tool-index l.tools)
