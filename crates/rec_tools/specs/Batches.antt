-- The text of a batch: a rec text, each record of which asks for an edit. The fields of the record are the options of a
-- tool.
use Rattle.std.specs.Prelude.{◌≡◌, ◌≢◌, ◌⊎◌, ℕ, Bool, true, false, not, if◌then◌else◌, List, [], ◌∷◌, ◌++◌, map, take}
use Rattle.std.specs.Prelude.{codes, slice_get, Option, Some, None, option_to_list, Result, Ok, Err}
use Rattle.std.specs.List.{AllByRecursion, AllZip, list_all}
use Rattle.std.specs.declared.ops.Range.{Range}
use Rattle.rec_text.specs.declared.fault.Fault.{Fault}
use Rattle.rec_text.specs.declared.fault.Fault.TheVariants.{BadBatch}
use Rattle.rec_text.specs.Bytes.{is_among}
use Rattle.rec_text.specs.Elements.{Piece, AreElementsOf, name_of, text_of}
use Rattle.rec_text.specs.Reading.{HasBadLine, HasOpenLine, line_after}
use Rattle.rec_text.specs.Records.{AreRecords, elements_in, is_field_piece}
use Rattle.rec_sex.specs.Meaning.{values_of}
use Rattle.rec_journal.specs.declared.event.Tool.{Tool}
use Rattle.rec_journal.specs.declared.event.Tool.TheVariants.{RecIns, RecDel, RecSet, RecFix, Batch, Adopt, Write}
use Rattle.rec_journal.specs.Event.{tool_name}
use Rattle.rec_edit.specs.declared.request.Action.{Action}
use Rattle.rec_edit.specs.declared.request.NewRecord.{NewRecord}
use Rattle.rec_edit.specs.Options.{action_for, new_record_for}
use Rattle.rec_tools.specs.declared.request.Ask.{Ask}
use Rattle.rec_tools.specs.declared.request.Ask.TheVariants.{All}
use Rattle.rec_tools.specs.declared.request.Pick.{Pick}
use Rattle.rec_tools.specs.declared.request.EditRequest.{EditRequest}
use Rattle.rec_tools.specs.declared.request.EditRequest.TheVariants.{Insert, Replace, Delete, CommentOut, Set}
use Rattle.rec_tools.specs.declared.request.EditRequest.TheVariants.{AutoFill}
use Rattle.rec_tools.specs.Asking.{selection_for}

-- ---- the tool of a record

-- the names of the fields that select records
abbrev pub selecting_names : List (List ℕ)
selecting_names = codes "Type" ∷ codes "Expression" ∷ codes "Number" ∷ codes "Quick" ∷ []

-- the names of the fields that an edit by a tool may have
abbrev pub names_for : Tool → List (List ℕ)
names_for RecIns = codes "Tool" ∷ (selecting_names ++ codes "Field" ∷ codes "Value" ∷ codes "Record" ∷ codes "Auto"
    ∷ [])
names_for RecDel = codes "Tool" ∷ (selecting_names ++ codes "Comment" ∷ [])
names_for RecSet = codes "Tool" ∷ (selecting_names ++ codes "Fields" ∷ codes "Set" ∷ codes "Add" ∷ codes "SetAdd"
    ∷ codes "Rename" ∷ codes "Delete" ∷ codes "Comment" ∷ [])
names_for RecFix = codes "Tool" ∷ []
names_for Batch = []
names_for Adopt = []
names_for Write = []

-- the tool edits records, so that an edit of a batch may be by it
abbrev pub EditsRecords : Tool → Type 0
EditsRecords tool = (tool ≢ Batch) × (tool ≢ Adopt) × (tool ≢ Write)

-- the element has one of these names, if it is a field
abbrev pub is_known : List (List ℕ) → Piece → Bool
is_known names piece = if is_field_piece piece then is_among names (name_of piece) else true

-- the record names this tool, and has no fields but those of the tool
pub record IsBy (tool : Tool) (own : List Piece) : Type 0 where
  pub named : values_of (codes "Tool") own ≡ tool_name tool ∷ []
  pub known : list_all (is_known (names_for tool)) own ≡ true

-- ---- the options of the tools

-- one field has the name, and this is its value; or no field has it
abbrev pub HasOnly : List ℕ → List Piece → Option (List ℕ) → Type 0
HasOnly name own value = option_to_list value ≡ values_of name own

-- a word, or nothing for false
abbrev pub word_if : List ℕ → Bool → List (List ℕ)
word_if word true = word ∷ []
word_if word false = []

-- one field has the name, and this word is its value; or, for false, no field has it
abbrev pub HasWord : List ℕ → List ℕ → List Piece → Bool → Type 0
HasWord name word own is_there = word_if word is_there ≡ values_of name own

-- a batch has no field for `--where`
pub record IsSelectionOf (own : List Piece) (by : Ask) : Type 0 where
  pub expression : HasOnly (codes "Expression") own (selection_for by).0
  pub number : HasOnly (codes "Number") own (selection_for by).1
  pub quick : HasOnly (codes "Quick") own (selection_for by).2
  pub no_value : (selection_for by).3 ≡ None

-- the records that are selected
abbrev pub IsPickOf : List Piece → Pick → Type 0
IsPickOf own pick = HasOnly (codes "Type") own pick.kind × IsSelectionOf own pick.by

pub record IsActionOf (own : List Piece) (action : Action) : Type 0 where
  pub set : HasOnly (codes "Set") own (action_for action).0
  pub add : HasOnly (codes "Add") own (action_for action).1
  pub set_add : HasOnly (codes "SetAdd") own (action_for action).2
  pub rename : HasOnly (codes "Rename") own (action_for action).3
  pub deletes : HasWord (codes "Delete") (codes "yes") own (action_for action).4
  pub comments : HasWord (codes "Comment") (codes "yes") own (action_for action).5

-- the new record: that of `Field` and `Value`, which belong together place by place, or that of `Record`
pub record IsFreshOf (own : List Piece) (fresh : NewRecord) : Type 0 where
  pub names : (new_record_for fresh).0 ≡ values_of (codes "Field") own
  pub values : (new_record_for fresh).1 ≡ values_of (codes "Value") own
  pub text : HasOnly (codes "Record") own (new_record_for fresh).2

-- ---- the edit of a record

-- whether automatic fields are wanted
abbrev pub IsAutoOf : List Piece → Bool → Type 0
IsAutoOf own auto = HasWord (codes "Auto") (codes "no") own (not auto)

-- what a record of these elements asks a tool for
abbrev pub AsksTool : Tool → List Piece → EditRequest → Type 0
AsksTool RecIns own (Insert record_type fresh auto) =
    IsPickOf own (record { kind = record_type; by = All }) × IsFreshOf own fresh × IsAutoOf own auto
AsksTool RecIns own (Replace pick fresh) = (pick.by ≢ All) × IsPickOf own pick × IsFreshOf own fresh
    × ((auto : Bool) × IsAutoOf own auto)
AsksTool RecDel own (Delete pick) = HasWord (codes "Comment") (codes "yes") own false × IsPickOf own pick
AsksTool RecDel own (CommentOut pick) = HasWord (codes "Comment") (codes "yes") own true × IsPickOf own pick
AsksTool RecSet own (Set pick list action) =
    IsPickOf own pick × HasOnly (codes "Fields") own (Some list) × IsActionOf own action
AsksTool RecFix own AutoFill = Unit {0}
AsksTool _ own _ = ⊥

-- a record of these elements asks for this edit
abbrev pub AsksFor : List Piece → EditRequest → Type 0
AsksFor own edit = (tool : Tool) × IsBy tool own × AsksTool tool own edit

-- the record asks for an edit
abbrev pub IsEdit : List Piece → Type 0
IsEdit own = (edit : EditRequest) × AsksFor own edit

-- ---- the edits of a text

-- the record that begins in this line is no edit, and it is the first such
pub record HasNoEditAt (pieces : List Piece) (records : List (Range ℕ)) (line : ℕ) : Type 0 where
  pub earlier : List (Range ℕ)
  pub bad : Range ℕ
  pub rest : List (Range ℕ)
  pub parts : records ≡ earlier ++ bad ∷ rest
  pub sound : AllByRecursion (λ own. IsEdit (elements_in pieces own)) earlier
  pub none : IsEdit (elements_in pieces bad) → ⊥
  pub number : line ≡ line_after (text_of (take bad.start pieces))

-- the text can't be read, because of this line
abbrev pub IsUnreadAt : List ℕ → ℕ → Type 0
IsUnreadAt text line = HasBadLine text line ⊎ HasOpenLine text line

-- each record asks for its edit; or the line in which the first begins that is none
abbrev pub AreEditsOf : List Piece → List (Range ℕ) → Result (List EditRequest) Fault → Type 0
AreEditsOf pieces records answer =
    ((edits : List EditRequest) × AllZip AsksFor (map (elements_in pieces) records) edits × (answer ≡ Ok edits))
    ⊎ ((line : ℕ) × HasNoEditAt pieces records line × (answer ≡ Err (BadBatch line)))

-- the edits that a text asks for, or the line of its first fault: where it can't be read, or where a record is no edit
abbrev pub AreEdits : List ℕ → Result (List EditRequest) Fault → Type 0
AreEdits text answer = ((line : ℕ) × IsUnreadAt text line × (answer ≡ Err (BadBatch line)))
    ⊎ ((pieces : List Piece) × (records : List (Range ℕ)) × AreElementsOf pieces text × AreRecords pieces records
    × AreEditsOf pieces records answer)

-- the record at this index of a text asks for the edit, and begins in this line
pub record IsEditAt (text : List ℕ) (index line : ℕ) (edit : EditRequest) : Type 0 where
  pub pieces : List Piece
  pub records : List (Range ℕ)
  pub own : Range ℕ
  pub elements : AreElementsOf pieces text
  pub listed : AreRecords pieces records
  pub there : slice_get records index ≡ Some own
  pub asked : AsksFor (elements_in pieces own) edit
  pub number : line ≡ line_after (text_of (take own.start pieces))
