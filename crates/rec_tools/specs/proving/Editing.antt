-- The edits that are asked for as one, and what is to be known of what they make, so that it can be planned.
use Rattle.std.specs.Prelude.{◌≢◌, Bool, ℕ, List, Result}
use Rattle.rec_text.specs.declared.fault.Fault.{Fault}
use Rattle.rec_journal.specs.declared.event.Tool.{Tool}
use Rattle.rec_journal.specs.Event.{AreStepsBy}
use Rattle.rec_journal.specs.Revisions.{AreDone, LeadsBy}
use Rattle.rec_edit.specs.declared.answer.Edited.{Edited}
use Rattle.rec_tools.specs.declared.decision.Source.{Source}
use Rattle.rec_tools.specs.declared.decision.Source.TheVariants.{OneEdit, Listed}
use Rattle.rec_tools.specs.Requests.{Edits, IsOneEdit, IsBatch}

-- the edits of a source, with force or without, or why they can't be told
abbrev pub AreEditsFrom : Source → Bool → Result Edits Fault → Type 0
AreEditsFrom (OneEdit edit) force = IsOneEdit edit.now force
AreEditsFrom (Listed text) force = IsBatch text.now force

-- the steps lead from a text to the edited one, and where that is another one they are the steps of an edit by the tool
pub record HasSteps (text : List ℕ) (told : Tool × Edited) : Type 0 where
  pub leads : LeadsBy (told.1).steps text (told.1).text
  pub changes : (told.1).text ≢ text → AreDone (told.1).steps
  pub by_tool : (told.1).text ≢ text → AreStepsBy told.0 (told.1).steps
