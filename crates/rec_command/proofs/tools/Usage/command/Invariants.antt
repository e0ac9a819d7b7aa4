use Rattle.std.proofs.Common.{◌≡◌, take, false}
use Rattle.std.specs.List.{fold}
use Rattle.clap.specs.Words.{app_of, new_app}
use Rattle.clap.specs.declared.builder.command.Command.TheViews.{out-Command as fields_of}
use Rattle.rec_command.specs.proving.Tools.{with_argument}
use Rattle.rec_command.proofs.tools.Usage.command.Given as goal

-- the tool with the arguments so far
abbrev pub invariant-loop-argument : goal.invariant-loop-argument
invariant-loop-argument l = record {
  usage : app_of l.command ≡ fold with_argument (new_app l.self.name.now) (take l.argument-index l.self.arguments.now);
  alone : (fields_of l.command).has_globals ≡ false;
}
