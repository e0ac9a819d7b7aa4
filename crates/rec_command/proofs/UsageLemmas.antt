-- The tool and the options that the getters of the matches read, as one pair, and what tools and arguments add to a command.
use Rattle.std.proofs.Common.{◌≡◌, ◌∙◌, ℕ, ◌+◌, ◌<◌, List, length, take, sym, ap, ap₂, ◌||◌, false, Option, Some, None, option_map}
use Rattle.std.specs.List.{fold, slice_index_or}
use Rattle.std.proofs.lemmas.List.Sums.{fold_more}
use Rattle.clap.specs.Words.{App, AddsArg, AddsSubcommand, app_of, rule_of, with_rule, with_subcommand}
use Rattle.clap.specs.declared.builder.arg.Arg.{Arg}
use Rattle.clap.specs.declared.builder.command.Command.{Command}
use Rattle.clap.specs.declared.builder.command.Command.TheViews.{out-Command as fields_of}
use Rattle.rec_command.specs.proving.Tools.{rule_of_argument, with_argument}
use Rattle.rec_command.specs.Usage.{usage_of, with_tool}
use Rattle.rec_command.specs.declared.options.Argument.{Argument}
use Rattle.rec_command.specs.declared.tools.Tool.{Tool}

module _ {X A B : Type 0} (name : X → A) (rows : X → B) where
  abbrev pub both : X → A × B
  both x = (name x, rows x)

  abbrev pub second : A × B → B
  second p = p.1

  pub pair-parts : (o : Option X) (a : A) (b : B) → Some a ≡ option_map name o → Some b ≡ option_map second (option_map both o)
      → option_map both o ≡ Some (a, b)
  pair-parts None a b name_is rows_are = cc
  pair-parts (Some x) a b name_is rows_are = cc

-- a program with one tool of a table more
pub tool_added : (old tool new : Command) (before : App) (table : List Tool) (i : ℕ) (d : Tool) → AddsSubcommand old tool new
    → (fields_of tool).has_globals ≡ false → i < length table → app_of tool ≡ usage_of (slice_index_or table i d)
    → app_of old ≡ fold with_tool before (take i table) → app_of new ≡ fold with_tool before (take (i + 1) table)
tool_added old tool new before table i d adds alone lt tool_is old_is =
    adds.shape alone ∙ ap₂ with_subcommand old_is (ap (λ (app : App). app.top) tool_is) ∙ sym (fold_more with_tool before table i d lt)

-- a command with one argument of a table more
module _ (old new : Command) (arg : Arg) (adds : AddsArg old arg new) (alone : arg.global ≡ false) where
  pub argument_added : (before : App) (table : List Argument) (i : ℕ) (d : Argument) → i < length table
      → rule_of arg ≡ rule_of_argument (slice_index_or table i d) → app_of old ≡ fold with_argument before (take i table)
      → app_of new ≡ fold with_argument before (take (i + 1) table)
  argument_added before table i d lt rule_is old_is =
      adds.shape alone ∙ ap₂ with_rule old_is rule_is ∙ sym (fold_more with_argument before table i d lt)

  pub globals-added : (fields_of old).has_globals ≡ false → (fields_of new).has_globals ≡ false
  globals-added none = adds.globals ∙ ap₂ (λ a b. a || b) none alone
