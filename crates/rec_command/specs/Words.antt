-- What a command line asks for, and the paths that it names.
use Rattle.std.specs.Prelude.{◌≡◌, ◌≢◌, ◌⊎◌, ℕ, ◌^◌, ◌<◌, ◌≤◌, ◌==◌, ◌||◌, Bool, true, false, not}
use Rattle.std.specs.Prelude.{List, [], codes, string_bytes}
use Rattle.std.specs.Prelude.{Option, Some, None, option_map, IfSome}
use Rattle.std.specs.List.{list_any}
use Rattle.std.specs.Option.{option_map_or, unwrap_or}
use Rattle.std.specs.Str.{bytes_eq}
use Rattle.std.specs.Str.Parse.{IsNumeral, digits_value}
use Rattle.clap.specs.Words.{Row, Text, all_of, fault_of, first_of, one_of, subcommand_of}
use Rattle.rec_text.specs.Ascii.{equals_sign}
use Rattle.rec_select.specs.declared.info.InfoForm.{InfoForm}
use Rattle.rec_select.specs.declared.info.InfoForm.TheVariants.{Counts, Names, Descriptors}
use Rattle.rec_journal.specs.declared.patch.Direction.TheVariants.{Forward, Backward}
use Rattle.rec_edit.specs.Options.{action_for, new_record_for}
use Rattle.rec_diff.specs.declared.style.DiffStyle.{DiffStyle}
use Rattle.rec_tools.specs.declared.request.Ask.{Ask}
use Rattle.rec_tools.specs.declared.request.Ask.TheVariants.{All}
use Rattle.rec_tools.specs.declared.request.Form.{Form}
use Rattle.rec_tools.specs.declared.request.Form.TheVariants.{Blocks, Print, Values, Row as OneRow, Count}
use Rattle.rec_tools.specs.declared.request.Pick.{Pick}
use Rattle.rec_tools.specs.declared.request.EditRequest.{EditRequest}
use Rattle.rec_tools.specs.declared.request.EditRequest.TheVariants.{Insert, Replace, Delete, CommentOut, Set, AutoFill}
use Rattle.rec_tools.specs.declared.request.Look.{Look}
use Rattle.rec_tools.specs.declared.request.Look.TheVariants.{Show, Info, Check, History, Diff, Log}
use Rattle.rec_tools.specs.declared.request.Change.TheVariants.{Edit, Batch, Undo, Redo, Revert, Forget}
use Rattle.rec_tools.specs.declared.request.Change.TheVariants.{Adopt, Write}
use Rattle.rec_tools.specs.Asking.{selection_for}
use Rattle.rec_disk.specs.Paths.{AreApart}
use Rattle.rec_command.specs.declared.args.Order.{Order}
use Rattle.rec_command.specs.declared.args.Order.TheVariants.{Look as Looks, Change as Changes, Preview as Previews}
use Rattle.rec_command.specs.declared.args.ChangeOrder.{ChangeOrder}
use Rattle.rec_command.specs.declared.args.ChangeOrder.TheVariants.{Whole, BatchAt, AdoptAt, WriteAt, Through}
use Rattle.rec_command.specs.declared.args.CommandLine.{CommandLine}
use Rattle.rec_command.specs.declared.args.JournalPath.{JournalPath}
use Rattle.rec_command.specs.declared.args.JournalPath.TheVariants.{Unused, Default, Given}
use Rattle.rec_command.specs.declared.tools.Tool.{Tool}
use Rattle.rec_command.specs.declared.tools.Tool.TheVariants.{RecSel, RecInf, RecFix, RecIns, RecDel, RecSet}
use Rattle.rec_command.specs.declared.tools.Tool.TheVariants.{Batch as ByBatch, Undo as ByUndo, Redo as ByRedo}
use Rattle.rec_command.specs.declared.tools.Tool.TheVariants.{Revert as ByRevert, History as ByHistory}
use Rattle.rec_command.specs.declared.tools.Tool.TheVariants.{Show as ByShow, Forget as ByForget}
use Rattle.rec_command.specs.declared.tools.Tool.TheVariants.{Adopt as ByAdopt, Write as ByWrite}
use Rattle.rec_command.specs.Usage.{name_of, usage}

-- ---- the options

-- a flag is given: clap reads the text `true` of it
abbrev pub has_flag : Text → List Row → Bool
has_flag name options = option_map_or (λ text. bytes_eq text (codes "true")) (one_of name options) false

-- the texts of an option that can be given several times
abbrev pub texts_given : Text → List Row → List Text
texts_given name options = unwrap_or (all_of name options) []

-- the texts of `--expression`, `--number`, `--quick` and `--where`
abbrev pub selection_given : List Row → Option Text × Option Text × Option Text × Option Text
selection_given options = (
  first_of (codes "expression") options,
  first_of (codes "number") options,
  first_of (codes "quick") options,
  first_of (codes "where") options,
)

-- the word of `--where`, where it is given, has an equals sign
abbrev pub where_has_equals_sign : List Row → Bool
where_has_equals_sign options =
    option_map_or (λ word. list_any (λ byte. byte == equals_sign) word) (first_of (codes "where") options) true

-- what selects the records: one of the four options, or none
abbrev pub IsSelection : List Row → Ask → Type 0
IsSelection options by = (selection_for by ≡ selection_given options) × (where_has_equals_sign options ≡ true)

-- the records that the options of a tool select
abbrev pub IsPick : List Row → Pick → Type 0
IsPick options pick = (pick.kind ≡ first_of (codes "type") options) × IsSelection options pick.by

-- the texts of `--print`, `--print-values` and `--print-row`, and whether `--count` is given
abbrev pub form_given : List Row → Option Text × Option Text × Option Text × Bool
form_given options = (
  first_of (codes "print") options,
  first_of (codes "print-values") options,
  first_of (codes "print-row") options,
  has_flag (codes "count") options,
)

-- and what they are where this form is asked for: one of them is given, or none
abbrev pub form_for : Form → Option Text × Option Text × Option Text × Bool
form_for Blocks = (None, None, None, false)
form_for (Print list) = (Some list, None, None, false)
form_for (Values list) = (None, Some list, None, false)
form_for (OneRow list) = (None, None, Some list, false)
form_for Count = (None, None, None, true)

-- whether `--descriptor` and `--names-only` are given
abbrev pub info_form_given : List Row → Bool × Bool
info_form_given options = (has_flag (codes "descriptor") options, has_flag (codes "names-only") options)

-- and what they are where this form is asked for: one of them is given, or none
abbrev pub info_form_for : InfoForm → Bool × Bool
info_form_for Counts = (false, false)
info_form_for Names = (false, true)
info_form_for Descriptors = (true, false)

-- the texts of `--set`, `--add`, `--set-add` and `--rename`, and whether `--delete` and `--comment` are given
abbrev pub action_given : List Row → Option Text × Option Text × Option Text × Option Text × Bool × Bool
action_given options = (
  first_of (codes "set") options,
  first_of (codes "add") options,
  first_of (codes "set-add") options,
  first_of (codes "rename") options,
  has_flag (codes "delete") options,
  has_flag (codes "comment") options,
)

-- the texts of `--field`, `--value` and `--record`
abbrev pub new_record_given : List Row → List Text × List Text × Option Text
new_record_given options = (
  texts_given (codes "field") options,
  texts_given (codes "value") options,
  first_of (codes "record") options,
)

-- the decimal digits, one or more, write this number of at most `bits` bits
abbrev pub IsNumber : ℕ → Text → ℕ → Type 0
IsNumber bits digits n = IsNumeral 10 digits × (digits_value 10 digits ≡ n) × (n < 2 ^ bits)

-- the number of an edit, from 1 on; or none is given
abbrev pub IsEditGiven : Option Text → Option ℕ → Type 0
IsEditGiven None number = number ≡ None
IsEditGiven (Some digits) number = (n : ℕ) × (number ≡ Some n) × IsNumber 64 digits n × (0 < n)

-- ---- the words in their places

-- FILE is the last of two words, or the only one. No tools but `show` and `adopt` take two so
abbrev pub last_word : Option Text → Option Text → Option Text × Option Text
last_word first None = (None, first)
last_word first (Some second) = (first, Some second)

abbrev pub words_given : List Row → Option Text × Option Text
words_given options = last_word (first_of (codes "file") options) (first_of (codes "second") options)

-- N of `show`, and OLD of `adopt`
abbrev pub before_file_given : List Row → Option Text
before_file_given options = (words_given options).0

abbrev pub file_given : List Row → Option Text
file_given options = (words_given options).1

-- ---- diffs

-- how many lines that stay are shown around each change: the number of `--unified`, or three
abbrev pub IsContextGiven : Option Text → ℕ → Type 0
IsContextGiven None n = n ≡ 3
IsContextGiven (Some digits) n = IsNumber 64 digits n × (n ≤ 1000)

-- a diff is printed under the name of FILE
abbrev pub IsStyle : List Row → DiffStyle → Type 0
IsStyle options style =
    (file_given options ≡ Some style.name) × IsContextGiven (first_of (codes "unified") options) style.context

-- whether a tool prints a diff
abbrev pub prints_diff : Tool → List Row → Bool
prints_diff ByShow options = true
prints_diff tool options = has_flag (codes "dry-run") options || has_flag (codes "patch") options

-- lines around changes are asked for only with a diff
abbrev pub FitsDiff : Tool → List Row → Type 0
FitsDiff tool options = (first_of (codes "unified") options ≡ None) ⊎ (prints_diff tool options ≡ true)

-- ---- what is asked for

-- the edit of a tool and of the options that are found
abbrev pub AsksEdit : Tool → List Row → EditRequest → Type 0
AsksEdit tool options (Insert record_type fresh auto) =
    (tool ≡ RecIns) × IsPick options (record { kind = record_type; by = All })
    × (new_record_for fresh ≡ new_record_given options) × (auto ≡ not (has_flag (codes "no-auto") options))
AsksEdit tool options (Replace pick fresh) =
    (tool ≡ RecIns) × (pick.by ≢ All) × IsPick options pick × (new_record_for fresh ≡ new_record_given options)
AsksEdit tool options (Delete pick) =
    (tool ≡ RecDel) × (has_flag (codes "comment") options ≡ false) × IsPick options pick
AsksEdit tool options (CommentOut pick) =
    (tool ≡ RecDel) × (has_flag (codes "comment") options ≡ true) × IsPick options pick
AsksEdit tool options (Set pick list action) =
    (tool ≡ RecSet) × IsPick options pick × (first_of (codes "fields") options ≡ Some list)
    × (action_for action ≡ action_given options)
AsksEdit tool options AutoFill =
    (tool ≡ RecFix) × (has_flag (codes "auto") options ≡ true) × (has_flag (codes "check") options ≡ false)

-- the look that they ask for
abbrev pub AsksLook : Tool → List Row → Look → Type 0
AsksLook tool options (Show pick form collapse) =
    (tool ≡ RecSel) × IsPick options pick × (form_for form ≡ form_given options)
    × (collapse ≡ has_flag (codes "collapse") options)
AsksLook tool options (Info record_type form) =
    (tool ≡ RecInf) × (record_type ≡ first_of (codes "type") options) × (info_form_for form ≡ info_form_given options)
AsksLook tool options Check =
    (tool ≡ RecFix) × (has_flag (codes "auto") options ≡ false) × (has_flag (codes "dry-run") options ≡ false)
AsksLook tool options History = (tool ≡ ByHistory) × (has_flag (codes "patch") options ≡ false)
AsksLook tool options (Log style) =
    (tool ≡ ByHistory) × (has_flag (codes "patch") options ≡ true) × IsStyle options style
AsksLook tool options (Diff number style) =
    (tool ≡ ByShow) × IsEditGiven (before_file_given options) number × IsStyle options style

-- standard input is read for one of the texts of `write` at most
abbrev pub ReadsInputOnce : List Row → Type 0
ReadsInputOnce options =
    first_of (codes "new") options ≡ Some (codes "-") → first_of (codes "over") options ≡ Some (codes "-") → ⊥

-- the change that they ask for; a batch, an adoption and a whole text have theirs in files
abbrev pub AsksChange : Tool → List Row → ChangeOrder → Type 0
AsksChange tool options (Whole (Edit edit force)) =
    AsksEdit tool options edit × (force ≡ has_flag (codes "force") options)
AsksChange tool options (Whole (Batch text force)) = ⊥
AsksChange tool options (Whole (Adopt old)) = ⊥
AsksChange tool options (Whole (Write text over force)) = ⊥
AsksChange tool options (Whole (Undo number)) =
    (tool ≡ ByUndo) × IsEditGiven (first_of (codes "through") options) None × (number ≡ None)
AsksChange tool options (Whole (Redo number)) =
    (tool ≡ ByRedo) × IsEditGiven (first_of (codes "through") options) None × (number ≡ None)
AsksChange tool options (Whole (Revert number force)) =
    (tool ≡ ByRevert) × IsEditGiven (first_of (codes "n") options) (Some number)
    × (force ≡ has_flag (codes "force") options)
AsksChange tool options (Whole (Forget newest dropped)) =
    (tool ≡ ByForget) × ((digits : Text) × (first_of (codes "n") options ≡ Some digits) × IsNumber 32 digits newest)
    × (dropped ≡ has_flag (codes "dropped") options)
AsksChange tool options (BatchAt path force) =
    (tool ≡ ByBatch) × (first_of (codes "batch") options ≡ Some (string_bytes path))
    × (force ≡ has_flag (codes "force") options)
AsksChange tool options (AdoptAt old) =
    (tool ≡ ByAdopt) × (option_map string_bytes old ≡ before_file_given options)
AsksChange tool options (WriteAt new over force) =
    (tool ≡ ByWrite) × (first_of (codes "new") options ≡ Some (string_bytes new))
    × (option_map string_bytes over ≡ first_of (codes "over") options) × ReadsInputOnce options
    × (force ≡ has_flag (codes "force") options)
AsksChange tool options (Through Backward number) =
    (tool ≡ ByUndo) × IsEditGiven (first_of (codes "through") options) (Some number)
AsksChange tool options (Through Forward number) =
    (tool ≡ ByRedo) × IsEditGiven (first_of (codes "through") options) (Some number)

-- what they order but for `--dry-run`
abbrev pub Orders : Tool → List Row → Order → Type 0
Orders tool options (Looks look) = AsksLook tool options look
Orders tool options (Changes change) = AsksChange tool options change
Orders tool options (Previews change style) = ⊥

-- what they order, with `--dry-run` the preview of a change; a look has none
abbrev pub OrdersOrPreviews : Tool → List Row → Order → Type 0
OrdersOrPreviews tool options (Looks look) = AsksLook tool options look
OrdersOrPreviews tool options (Changes change) =
    (has_flag (codes "dry-run") options ≡ false) × AsksChange tool options change
OrdersOrPreviews tool options (Previews change style) =
    (has_flag (codes "dry-run") options ≡ true) × IsStyle options style × AsksChange tool options change

-- ---- the paths

-- the path of the journal is given, or none is, and the default one is meant
abbrev pub IsGivenOrDefault : Option (List ℕ) → JournalPath → Type 0
IsGivenOrDefault given Unused = ⊥
IsGivenOrDefault given Default = given ≡ None
IsGivenOrDefault given (Given path) = given ≡ Some (string_bytes path)

-- the journal of a file that is edited, or whose history is asked for, by the two paths that are given
pub record IsEditJournal (file given : Option (List ℕ)) (journal : JournalPath) : Type 0 where
  pub path : List ℕ
  pub file_given : file ≡ Some path
  pub meant : IsGivenOrDefault given journal
  pub apart : IfSome given (AreApart path)

-- What prints of the file alone has no journal. Where both paths are given, they are apart all the same.
abbrev pub HasNoJournal : Option (List ℕ) → Option (List ℕ) → JournalPath → Type 0
HasNoJournal (Some file) (Some given) journal = (journal ≡ Unused) × AreApart file given
HasNoJournal _ _ journal = journal ≡ Unused

-- the journal of an order, by the two paths that are given
abbrev pub IsJournal : Order → Option (List ℕ) → Option (List ℕ) → JournalPath → Type 0
IsJournal (Looks (Show pick form collapse)) file given journal = HasNoJournal file given journal
IsJournal (Looks (Info record_type form)) file given journal = HasNoJournal file given journal
IsJournal (Looks Check) file given journal = HasNoJournal file given journal
IsJournal _ file given journal = IsEditJournal file given journal

-- ---- the command line

-- what a tool and its options ask for
pub record IsAskedBy (tool : Tool) (options : List Row) (line : CommandLine) : Type 0 where
  pub order : OrdersOrPreviews tool options line.order
  pub unified : FitsDiff tool options
  pub file : option_map string_bytes line.file ≡ file_given options
  pub journal : IsJournal line.order (file_given options) (first_of (codes "journal") options) line.journal

-- what the words ask for: what the tool that they name does, with its options, where clap has no fault at the words
pub record IsAsked (words : List Text) (line : CommandLine) : Type 0 where
  pub taken : fault_of usage words ≡ []
  pub tool : Tool
  pub options : List Row
  pub named : subcommand_of usage words ≡ Some (name_of tool, options)
  pub asks : IsAskedBy tool options line
