-- What is said of the elements and the record sets of a text, said of a file that was read.
use Rattle.std.specs.Prelude.{◌≡◌, ℕ, Bool, List, Option, Some, slice_get, Result}
use Rattle.std.specs.declared.ops.Range.{Range}
use Rattle.rec_text.specs.declared.fault.Fault.{Fault}
use Rattle.rec_text.specs.Records.{AreRecords}
use Rattle.rec_check.specs.DescribedTexts.{ReadText}
use Rattle.rec_check.specs.declared.set.Set_.{Set_}
use Rattle.rec_check.specs.Rules.{Rules}
use Rattle.rec_check.specs.Stored.{described}
use Rattle.rec_select.specs.declared.selection.Selection.{Selection}
use Rattle.rec_edit.specs.declared.outcome.Patched.{Patched}
use Rattle.rec_edit.specs.Automatic.{AreAutomatic, AreFilledSet}
use Rattle.rec_edit.specs.proving.Edits.{IsCarriedOut}
use Rattle.rec_edit.specs.proving.Filling.{AreAllFilled, AreLacking}
use Rattle.rec_edit.specs.proving.Given.{IsAutomaticText}
use Rattle.rec_edit.specs.Insertions.{Numbered}
use Rattle.rec_edit.specs.Outcome.{AreChosen, AreRemovable}
use Rattle.rec_edit.specs.proving.Sites.{IsRecordPut}
use Rattle.rec_edit.specs.Task.{Pair, Task, wanted_by}
use Rattle.rec_edit.specs.Wording.{names_in}

-- ---- the records that are meant

abbrev pub AreChosenIn : ReadText → Selection → Result (List ℕ) Fault → Type 0
AreChosenIn file selection = AreChosen file.pieces (described file.schema).sets (wanted_by selection)

abbrev pub AreRemovableIn : ReadText → Selection → Bool → Result (List ℕ) Fault → Type 0
AreRemovableIn file selection force = AreRemovable file.pieces (described file.schema).sets (wanted_by selection) force

-- ---- a new record

-- the automatic fields of the set at a place that a new record lacks
abbrev pub AreLackingIn : ReadText → ℕ → List Pair → Result (List Numbered) Fault → Type 0
AreLackingIn file place pairs = AreLacking file.pieces (described file.schema) place (names_in pairs)

abbrev pub AreAutomaticIn : ReadText → Option (List ℕ) → Bool → List Pair → Result (List Numbered) Fault → Type 0
AreAutomaticIn file record_type auto pairs =
    AreAutomatic file.pieces (described file.schema) record_type auto (names_in pairs)

abbrev pub IsAutomaticTextIn : ReadText → Option (List ℕ) → Bool → List Pair → List ℕ → Type 0
IsAutomaticTextIn file record_type auto pairs =
    IsAutomaticText file.pieces (described file.schema) record_type auto (names_in pairs)

abbrev pub IsRecordPutIn : ReadText → Option (List ℕ) → List ℕ → List Pair → ℕ → List ℕ → Type 0
IsRecordPutIn file record_type automatic pairs place text =
    IsRecordPut file.pieces (described file.schema).sets record_type automatic pairs place text

-- ---- all records

-- the set at a place, with its rules, where these are the records
abbrev pub IsSetIn : ReadText → ℕ → List (Range ℕ) → Set_ → Rules → Type 0
IsSetIn file place records s rules = AreRecords file.pieces records
    × (slice_get (described file.schema).sets place ≡ Some s)
    × (slice_get (described file.schema).rules place ≡ Some rules)

-- the records of such a set
abbrev pub AreFilledSetIn : ReadText → List (Range ℕ) → Set_ → Rules → Result (List (List Numbered)) Fault → Type 0
AreFilledSetIn file = AreFilledSet file.pieces

abbrev pub AreFilledIn : ReadText → Result (List (List Numbered)) Fault → Type 0
AreFilledIn file = AreAllFilled file.pieces (described file.schema)

-- ---- the edit

abbrev pub IsCarriedOutIn : ReadText → Bool → Task → Result Patched Fault → Type 0
IsCarriedOutIn file = IsCarriedOut file.pieces (described file.schema)
