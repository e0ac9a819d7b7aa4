-- The tools and their options, as clap is told of them. A word of the command line is its bytes.
use Rattle.std.specs.Prelude.{true, List, [], ◌∷◌, ◌++◌, codes, Some, slice_get, fold}
use Rattle.clap.specs.Words.{App, Rule, Text, new_app, new_rule, with_rule, with_subcommand}
use Rattle.rec_command.specs.declared.tools.Tool.{Tool}
use Rattle.rec_command.specs.declared.tools.Tool.TheVariants.{RecSel, RecInf, RecFix, RecIns, RecDel, RecSet}
use Rattle.rec_command.specs.declared.tools.Tool.TheVariants.{Batch, Undo, Redo, Revert, Adopt, Write}
use Rattle.rec_command.specs.declared.tools.Tool.TheVariants.{History, Show, Forget}
use Rattle.clap.specs.declared.builder.action.ArgAction.TheVariants.{SetTrue, Append}

-- `-x VALUE` or `--name VALUE`; without a letter the second alone
abbrev pub valued : Text → Text → Rule
valued letter name = record (new_rule name) {
  short = slice_get letter 0;
  long = Some name;
  value_names = 1;
}

-- the same, as often as is wished
abbrev pub repeated : Text → Text → Rule
repeated letter name = record (valued letter name) { action = Some Append }

-- `-x` or `--name`; without a letter the second alone
abbrev pub flag : Text → Text → Rule
flag letter name = record (new_rule name) {
  short = slice_get letter 0;
  long = Some name;
  action = Some SetTrue;
}

-- `-b PATH`
abbrev pub batch_option : Rule
batch_option = record (new_rule (codes "batch")) {
  short = slice_get (codes "b") 0;
  value_names = 1;
}

-- `--through N`
abbrev pub through_option : Rule
through_option = valued [] (codes "through")

-- `--dry-run`
abbrev pub dry_run : Rule
dry_run = flag [] (codes "dry-run")

-- `--unified N`
abbrev pub unified_option : Rule
unified_option = valued [] (codes "unified")

-- `--journal PATH`
abbrev pub journal_option : Rule
journal_option = valued [] (codes "journal")

-- a word of this name, in its place
abbrev pub word : Text → Rule
word name = record (new_rule name) { value_names = 1 }

-- the same, which has to be there
abbrev pub needed_word : Text → Rule
needed_word name = record (word name) { required = true }

-- a tool with these rules, in their order
abbrev pub tool_with : Text → List Rule → App
tool_with name rules = fold with_rule (new_app name) rules

-- which records are meant
abbrev pub selecting : List Rule
selecting =
    valued (codes "t") (codes "type")
    ∷ valued (codes "e") (codes "expression")
    ∷ valued (codes "n") (codes "number")
    ∷ valued (codes "q") (codes "quick")
    ∷ valued [] (codes "where")
    ∷ []

-- the paths of a file that has to be there, and of its journal
abbrev pub paths : List Rule
paths = journal_option ∷ needed_word (codes "file") ∷ []

-- a tool with what it takes
abbrev pub usage_of : Tool → App
usage_of RecSel = tool_with (codes "recsel") (
    selecting
    ++ valued (codes "p") (codes "print")
    ∷ valued (codes "P") (codes "print-values")
    ∷ valued (codes "R") (codes "print-row")
    ∷ flag (codes "c") (codes "count")
    ∷ flag (codes "C") (codes "collapse")
    ∷ word (codes "file")
    ∷ [])
usage_of RecInf = tool_with (codes "recinf") (
    valued (codes "t") (codes "type")
    ∷ flag (codes "d") (codes "descriptor")
    ∷ flag (codes "n") (codes "names-only")
    ∷ word (codes "file")
    ∷ [])
usage_of RecFix = tool_with (codes "recfix") (
    flag [] (codes "check")
    ∷ flag [] (codes "auto")
    ∷ flag [] (codes "force")
    ∷ dry_run
    ∷ unified_option
    ∷ journal_option
    ∷ word (codes "file")
    ∷ [])
usage_of RecIns = tool_with (codes "recins") (
    selecting
    ++ repeated (codes "f") (codes "field")
    ∷ repeated (codes "v") (codes "value")
    ∷ valued (codes "r") (codes "record")
    ∷ flag [] (codes "no-auto")
    ∷ flag [] (codes "force")
    ∷ dry_run
    ∷ unified_option
    ∷ paths)
usage_of RecDel = tool_with (codes "recdel") (
    selecting
    ++ flag (codes "c") (codes "comment")
    ∷ flag [] (codes "force")
    ∷ dry_run
    ∷ unified_option
    ∷ paths)
usage_of RecSet = tool_with (codes "recset") (
    selecting
    ++ valued (codes "f") (codes "fields")
    ∷ valued (codes "s") (codes "set")
    ∷ valued (codes "a") (codes "add")
    ∷ valued (codes "S") (codes "set-add")
    ∷ valued (codes "r") (codes "rename")
    ∷ flag (codes "d") (codes "delete")
    ∷ flag (codes "c") (codes "comment")
    ∷ flag [] (codes "force")
    ∷ dry_run
    ∷ unified_option
    ∷ paths)
usage_of Batch = tool_with (codes "batch") (batch_option ∷ flag [] (codes "force") ∷ dry_run ∷ unified_option ∷ paths)
usage_of Undo = tool_with (codes "undo") (through_option ∷ dry_run ∷ unified_option ∷ paths)
usage_of Redo = tool_with (codes "redo") (through_option ∷ dry_run ∷ unified_option ∷ paths)
usage_of Revert = tool_with (codes "revert") (
    flag [] (codes "force")
    ∷ dry_run
    ∷ unified_option
    ∷ journal_option
    ∷ needed_word (codes "n")
    ∷ needed_word (codes "file")
    ∷ [])
-- clap wants the word that has to be there first, so which of two stands before FILE is said in `Words`
usage_of Adopt =
    tool_with (codes "adopt") (dry_run ∷ unified_option ∷ paths ++ word (codes "second") ∷ [])
usage_of Write = tool_with (codes "write") (
    valued [] (codes "over")
    ∷ flag [] (codes "force")
    ∷ dry_run
    ∷ unified_option
    ∷ journal_option
    ∷ needed_word (codes "new")
    ∷ needed_word (codes "file")
    ∷ [])
usage_of History = tool_with (codes "history") (flag [] (codes "patch") ∷ unified_option ∷ paths)
usage_of Show = tool_with (codes "show") (unified_option ∷ paths ++ word (codes "second") ∷ [])
usage_of Forget = tool_with (codes "forget") (
    flag [] (codes "dropped") ∷ journal_option ∷ needed_word (codes "n") ∷ needed_word (codes "file") ∷ [])

-- its name
abbrev pub name_of : Tool → Text
name_of tool = (usage_of tool).top.name

-- the tools, in the order in which help lists them
abbrev pub tools : List Tool
tools =
    RecSel ∷ RecInf ∷ RecFix ∷ RecIns ∷ RecDel ∷ RecSet ∷ Batch
    ∷ Undo ∷ Redo ∷ Revert ∷ Adopt ∷ Write ∷ History ∷ Show ∷ Forget ∷ []

-- the words are those after the program's name, and the first of them is a tool
abbrev pub plain_usage : App
plain_usage = record {
  top = record (new_app (codes "recu")).top {
    no_binary_name = true;
    propagate_version = true;
    has_version = true;
    subcommand_required = true;
    arg_required_else_help = true;
  };
  subs = (new_app (codes "recu")).subs;
}

-- a program with one tool more
abbrev pub with_tool : App → Tool → App
with_tool app tool = with_subcommand app (usage_of tool).top

abbrev pub usage : App
usage = fold with_tool plain_usage tools
