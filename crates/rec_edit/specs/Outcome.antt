-- What one edit makes of the elements of a text: its first refusal in their order, or its script and how many records
-- it changes.
use Rattle.std.specs.Prelude.{◌≡◌, ◌≤◌, ℕ, Bool, true, false, List, [], ◌∷◌, ◌++◌, length, map}
use Rattle.std.specs.Prelude.{Option, Some, None, Result, Ok, Err, if◌then◌else◌}
use Rattle.std.specs.declared.ops.Range.{Range}
use Rattle.rec_text.specs.declared.fault.Fault.{Fault}
use Rattle.rec_text.specs.declared.fault.Fault.TheVariants.{OutOfMemory, BadPattern, BadFieldList, NoSelection}
use Rattle.rec_text.specs.declared.fault.Fault.TheVariants.{TypeNeeded, NoSuchType, BadName, BadValue, BadRecord}
use Rattle.rec_text.specs.declared.fault.Fault.TheVariants.{Integrity, AutoImpossible}
use Rattle.rec_text.specs.declared.violations.Violation.{Violation}
use Rattle.rec_text.specs.Elements.{Piece, AreElementsOf, text_of}
use Rattle.rec_text.specs.Records.{AreRecords}
use Rattle.rec_text.specs.Steps.{Then}
use Rattle.rec_check.specs.declared.set.Set_.{Set_}
use Rattle.rec_check.specs.Schemas.{Described, IsSchema}
use Rattle.rec_check.specs.Violations.{AreViolationsOf}
use Rattle.rec_journal.specs.declared.event.Event.TheVariants.{Edited as Revised}
use Rattle.rec_journal.specs.declared.event.Revision.{Revision}
use Rattle.rec_journal.specs.declared.patch.Hunk.{Hunk}
use Rattle.rec_journal.specs.Bound.{most_bytes}
use Rattle.rec_journal.specs.Event.{IsEditInRange, spelling}
use Rattle.rec_journal.specs.Revisions.{all_hunks, is_batch}
use Rattle.rec_select.specs.Selection.{Filter, all, by_expression, at_places, with_text, with_value, IsSelection}
use Rattle.rec_edit.specs.declared.outcome.Patched.{Patched}
use Rattle.rec_edit.specs.Task.{Wanted, Task, insert, replace, delete, comment_out, set, auto_fill}
use Rattle.rec_edit.specs.Script.{Part, settled, old_pieces, new_pieces, edited_text}
use Rattle.rec_edit.specs.Script.{AreChangesOf}
use Rattle.rec_edit.specs.Blocks.{Block, blocks_of, changed_from, is_selected, script_of}
use Rattle.rec_edit.specs.Rules.{fields_of, replaced, commented, deleted, edited}
use Rattle.rec_edit.specs.Insertions.{Insertion, inserted, insertion_for, numbered_fields, fields_at, filled}
use Rattle.rec_edit.specs.Wording.{AreItemsFor, IsNewRecord}
use Rattle.rec_edit.specs.Automatic.{AreAutomatic, AreFilledOf}

-- ---- the records that are meant

-- the indexes of the records that are wanted
abbrev pub AreChosen : List Piece → List Set_ → Wanted → Result (List ℕ) Fault → Type 0
AreChosen pieces sets wanted = IsSelection pieces sets wanted.record_type wanted.filter

-- records are taken out without a selection only where that is forced
abbrev pub allowed : Filter → Bool → Result (Unit {0}) Fault
allowed all force = if force then Ok tt else Err NoSelection
allowed (by_expression term) force = Ok tt
allowed (at_places spans) force = Ok tt
allowed (with_text text) force = Ok tt
allowed (with_value wanted) force = Ok tt

-- those that may be taken out
abbrev pub AreRemovable : List Piece → List Set_ → Wanted → Bool → Result (List ℕ) Fault → Type 0
AreRemovable pieces sets wanted force =
    Then (AreChosen pieces sets wanted) (λ chosen.
    Then (λ answer. answer ≡ allowed wanted.filter force) (λ _ answer. answer ≡ Ok chosen))

-- ---- one edit

-- what an edit makes of a text, how many records it changes, and how many are selected, where it is of a selection
pub record EditScript : Type 0 where
  pub script : List Part
  pub changed : ℕ
  pub chosen : Option ℕ

-- what is made of the chosen records, where this number is selected
abbrev pub made_of : Option ℕ → (ℕ → Bool) → (ℕ → Block → List Part) → List Piece → List (Range ℕ) → EditScript
made_of selected chosen made pieces records = record {
  script = script_of chosen made pieces records;
  changed = changed_from chosen made 0 (blocks_of pieces records);
  chosen = selected;
}

-- this is made of each of the selected records
abbrev pub IsMade : List Piece → (Block → List Part) → List ℕ → Result EditScript Fault → Type 0
IsMade pieces made selected answer = (records : List (Range ℕ)) × AreRecords pieces records
    × (answer ≡ Ok (made_of (Some (length selected)) (is_selected selected) (λ _. made) pieces records))

-- elements are put in, as one record
abbrev pub put_in : Insertion → List Piece → EditScript
put_in insertion pieces = record { script = settled (inserted insertion pieces); changed = 1; chosen = None }

-- a new record of this type is put in
abbrev pub IsPutIn : List Piece → List Set_ → Option (List ℕ) → List Piece → Result EditScript Fault → Type 0
IsPutIn pieces sets record_type fields answer = (records : List (Range ℕ)) × AreRecords pieces records
    × (answer ≡ Ok (put_in (insertion_for pieces records sets record_type fields) pieces))

-- the script of an edit of the text of these elements
abbrev pub IsEditScript : List Piece → Described → Bool → Task → Result EditScript Fault → Type 0
IsEditScript pieces schema force (insert record_type fresh auto) answer =
    Then (IsNewRecord record_type fresh) (λ pairs.
    Then (AreAutomatic pieces schema record_type auto (map (λ pair. pair.name) pairs)) (λ automatic.
    IsPutIn pieces schema.sets record_type (numbered_fields automatic ++ fields_of pairs))) answer
IsEditScript pieces schema force (replace wanted fresh) answer =
    Then (IsNewRecord None fresh) (λ pairs.
    Then (AreChosen pieces schema.sets wanted) (IsMade pieces (replaced (fields_of pairs)))) answer
IsEditScript pieces schema force (delete wanted) answer =
    Then (AreRemovable pieces schema.sets wanted force) (IsMade pieces deleted) answer
IsEditScript pieces schema force (comment_out wanted) answer =
    Then (AreRemovable pieces schema.sets wanted force) (IsMade pieces commented) answer
IsEditScript pieces schema force (set wanted list action) answer =
    Then (AreItemsFor action list) (λ items.
    Then (AreChosen pieces schema.sets wanted) (IsMade pieces (edited action items))) answer
IsEditScript pieces schema force auto_fill answer = (records : List (Range ℕ)) × AreRecords pieces records
    × Then (AreFilledOf pieces records schema) (λ given answer.
    answer ≡ Ok (made_of None (λ _. true) (λ k. filled (fields_at given k)) pieces records)) answer

-- ---- the violations of the edited text

abbrev pub none_of : List Violation → Result (Unit {0}) Fault
none_of [] = Ok tt
none_of (violation ∷ violations) = Err (Integrity (violation ∷ violations))

-- a text without violations; a pattern of its descriptors may be refused
abbrev pub IsSound : List ℕ → Result (Unit {0}) Fault → Type 0
IsSound text = Then (AreViolationsOf text) (λ found answer. answer ≡ none_of found)

abbrev pub IsSoundUnlessForced : Bool → List ℕ → Result (Unit {0}) Fault → Type 0
IsSoundUnlessForced true text answer = answer ≡ Ok tt
IsSoundUnlessForced false text answer = IsSound text answer

-- ---- what it comes to

-- the changes of the script, the edited text, and the numbers of changed and of selected records
pub record IsEditedBy (edit : EditScript) (edited : Patched) : Type 0 where
  pub patch : AreChangesOf edit.script edited.patch
  pub text : edited.text ≡ edited_text edit.script
  pub changed : edited.changed ≡ edit.changed
  pub chosen : edited.chosen ≡ edit.chosen

-- what an edit makes of the text of these elements, violations aside
abbrev pub IsEditOf : List Piece → Described → Bool → Task → Result Patched Fault → Type 0
IsEditOf pieces schema force task =
    Then (IsEditScript pieces schema force task) (λ edit answer.
    (edited : Patched) × IsEditedBy edit edited × (answer ≡ Ok edited))

-- the refusals that an edit has at all
abbrev pub IsEditRefusal : Fault → Type 0
IsEditRefusal OutOfMemory = Unit {0}
IsEditRefusal BadPattern = Unit {0}
IsEditRefusal (BadFieldList place) = Unit {0}
IsEditRefusal NoSelection = Unit {0}
IsEditRefusal TypeNeeded = Unit {0}
IsEditRefusal NoSuchType = Unit {0}
IsEditRefusal BadName = Unit {0}
IsEditRefusal BadValue = Unit {0}
IsEditRefusal BadRecord = Unit {0}
IsEditRefusal (Integrity violations) = Unit {0}
IsEditRefusal AutoImpossible = Unit {0}
IsEditRefusal _ = ⊥

-- no descriptor is put in: only a new record of a type may bring one
abbrev pub PutsNoDescriptorIn : Task → Type 0
PutsNoDescriptorIn (insert record_type fresh auto) = record_type ≡ None
PutsNoDescriptorIn _ = Unit {0}

-- What such an edit makes of a text without a descriptor breaks no rule.
abbrev pub UnruledEditsAreSound : Type 0
UnruledEditsAreSound = (pieces : List Piece) (schema : Described) (force : Bool) (task : Task) (edit : EditScript)
    → AreElementsOf pieces (text_of pieces) → PutsNoDescriptorIn task
    → IsSchema pieces (Ok schema) → length schema.sets ≡ 1 → IsEditScript pieces schema force task (Ok edit)
    → IsSound (edited_text edit.script) (Ok tt)

-- The script has the elements of the text and those of the edited one, and its changes are one list of hunks; an event
-- of an edit by one tool with these hunks has at most 512 bytes, 64 for each hunk, and 4 for each byte that they take
-- out or put in.
pub record IsToldByHunks (pieces : List Piece) (script : List Part) : Type 0 where
  pub old : old_pieces script ≡ pieces
  pub new : AreElementsOf (new_pieces script) (edited_text script)
  pub hunks : List Hunk
  pub changes : AreChangesOf script hunks
  pub only : (others : List Hunk) → AreChangesOf script others → others ≡ hunks
  pub bounded : (event : Revision) → IsEditInRange event → is_batch event.tool ≡ false → all_hunks event.steps ≡ hunks
      → length (spelling (Revised event)) ≤ most_bytes hunks

-- the script of each edit is told so
abbrev pub HunksAreChanges : Type 0
HunksAreChanges = (pieces : List Piece) (schema : Described) (force : Bool) (task : Task) (edit : EditScript)
    → AreElementsOf pieces (text_of pieces) → IsSchema pieces (Ok schema)
    → IsEditScript pieces schema force task (Ok edit)
    → IsToldByHunks pieces edit.script
