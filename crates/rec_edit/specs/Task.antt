-- An edit as definitions see it: the selection stands for the filter of records that it means.
use Rattle.std.specs.Prelude.{ℕ, Bool, List, Option}
use Rattle.rec_journal.specs.declared.event.Tool.{Tool}
use Rattle.rec_journal.specs.declared.event.Tool.TheVariants.{RecIns, RecDel, RecSet, RecFix}
use Rattle.rec_select.specs.declared.selection.Selection.{Selection}
use Rattle.rec_select.specs.Selection.{Filter, filter_of}
use Rattle.rec_edit.specs.declared.request.Action.{Action}
use Rattle.rec_edit.specs.declared.request.Edit.{Edit}
use Rattle.rec_edit.specs.declared.request.Edit.TheVariants.{Insert, Replace, Delete, CommentOut, Set, AutoFill}
use Rattle.rec_edit.specs.declared.request.NewRecord.{NewRecord as GivenRecord}
use Rattle.rec_edit.specs.declared.request.NewRecord.TheVariants.{Pairs, Text}
pub use Rattle.rec_edit.specs.declared.request.Pair.{Pair}

-- which records: those of a type, or of the set that is meant where none is given, that pass a filter
pub record Wanted : Type 0 where
  pub record_type : Option (List ℕ)
  pub filter : Filter

-- a new record: its fields, or a text that holds it
pub data NewRecord : Type 0 where
  of_pairs : List Pair → NewRecord
  of_text : List ℕ → NewRecord

-- A record of a type is put in, with automatic fields or without. A new record is put instead of each of some; these
-- are deleted, commented out, or their listed fields are edited. All records get their automatic fields.
pub data Task : Type 0 where
  insert : Option (List ℕ) → NewRecord → Bool → Task
  replace : Wanted → NewRecord → Task
  delete : Wanted → Task
  comment_out : Wanted → Task
  set : Wanted → List ℕ → Action → Task
  auto_fill : Task

abbrev pub wanted_by : Selection → Wanted
wanted_by selection = record { record_type = selection.kind; filter = filter_of selection.by }

abbrev pub fresh_by : GivenRecord → NewRecord
fresh_by (Pairs pairs) = of_pairs pairs.items
fresh_by (Text text) = of_text text

abbrev pub task_of : Edit → Task
task_of (Insert record_type fresh auto) = insert record_type.now (fresh_by fresh.now) auto
task_of (Replace selection fresh) = replace (wanted_by selection) (fresh_by fresh.now)
task_of (Delete selection) = delete (wanted_by selection)
task_of (CommentOut selection) = comment_out (wanted_by selection)
task_of (Set selection list action) = set (wanted_by selection) list.now action.now
task_of AutoFill = auto_fill

-- the tool that does it
abbrev pub tool_of : Task → Tool
tool_of (insert record_type fresh auto) = RecIns
tool_of (replace wanted fresh) = RecIns
tool_of (delete wanted) = RecDel
tool_of (comment_out wanted) = RecDel
tool_of (set wanted list action) = RecSet
tool_of auto_fill = RecFix
