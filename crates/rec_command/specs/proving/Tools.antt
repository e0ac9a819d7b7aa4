-- The rows of the program's tables, as clap is told of them.
use Rattle.std.specs.Prelude.{true, fold, Some}
use Rattle.clap.specs.Words.{App, Rule, Text, new_app, new_rule, with_rule}
use Rattle.clap.specs.declared.builder.action.ArgAction.TheVariants.{SetTrue, Append}
use Rattle.rec_command.specs.declared.options.Argument.{Argument}
use Rattle.rec_command.specs.declared.options.Takes.{Takes}
use Rattle.rec_command.specs.declared.options.Takes.TheVariants.{Nothing, Value, Values}
use Rattle.rec_command.specs.declared.options.Written.{Written}
use Rattle.rec_command.specs.declared.options.Written.TheVariants.{Name, Letter, Both, Word, NeededWord}
use Rattle.rec_command.specs.declared.tools.Usage.{Usage}

-- an argument of this name that is written so
abbrev pub written_as : Written → Text → Rule
written_as Name name = record (new_rule name) { long = Some name }
written_as (Letter letter) name = record (new_rule name) { short = Some letter }
written_as (Both letter) name = record (new_rule name) {
  long = Some name;
  short = Some letter;
}
written_as Word name = new_rule name
written_as NeededWord name = record (new_rule name) { required = true }

-- the argument that takes this besides
abbrev pub taking : Takes → Rule → Rule
taking Nothing rule = record rule { action = Some SetTrue }
taking (Value value) rule = record rule { value_names = 1 }
taking (Values value) rule = record rule {
  value_names = 1;
  action = Some Append;
}

-- an argument of the tables
abbrev pub rule_of_argument : Argument → Rule
rule_of_argument argument = taking argument.takes (written_as argument.written argument.name.now)

-- a command with one argument more
abbrev pub with_argument : App → Argument → App
with_argument app argument = with_rule app (rule_of_argument argument)

-- what is told of a tool
abbrev pub usage_in : Usage → App
usage_in usage = fold with_argument (new_app usage.name.now) usage.arguments.now
