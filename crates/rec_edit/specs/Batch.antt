-- Edits in turn, each of the text that the one before it gave; one edit is a batch of one.
use Rattle.std.specs.Prelude.{◌≡◌, ◌≢◌, ℕ, zero, suc, ◌+◌, Bool, List, [], ◌∷◌, ◌++◌, Option, Some, None, Result, Ok}
use Rattle.std.specs.Prelude.{Err, min}
use Rattle.std.specs.List.{AllByRecursion}
use Rattle.rec_text.specs.declared.fault.Fault.{Fault}
use Rattle.rec_text.specs.declared.fault.Fault.TheVariants.{BadPattern}
use Rattle.rec_text.specs.Elements.{Piece, AreElementsOf}
use Rattle.rec_text.specs.Steps.{Then}
use Rattle.rec_check.specs.DescribedTexts.{DescribedText, IsDescribedText}
use Rattle.rec_journal.specs.declared.patch.Hunk.{Hunk}
use Rattle.rec_journal.specs.declared.event.EditStep.{EditStep}
use Rattle.rec_journal.specs.declared.event.Tool.{Tool}
use Rattle.rec_journal.specs.Patch.{Splices}
use Rattle.rec_journal.specs.Revisions.{single_step}
use Rattle.rec_edit.specs.declared.answer.Edited.{Edited}
use Rattle.rec_edit.specs.declared.answer.RefusedEdit.{RefusedEdit}
use Rattle.rec_edit.specs.declared.outcome.Patched.{Patched}
use Rattle.rec_edit.specs.Task.{Task, tool_of}
use Rattle.rec_edit.specs.Script.{TakesWhole}
use Rattle.rec_edit.specs.Outcome.{IsEditOf, IsSoundUnlessForced}
use Rattle.rec_edit.specs.Effect.{HasEffect}

-- what an edit makes of a text, violations aside
abbrev pub IsEditOn : Bool → Task → List ℕ → Result Patched Fault → Type 0
IsEditOn force task text = Then (IsDescribedText text)
    (λ described. IsEditOf described.pieces described.schema force task)

-- an edit as a step of a batch; one that changes nothing is none
abbrev pub step_with : Tool → List Hunk → List EditStep
step_with tool [] = []
step_with tool (hunk ∷ hunks) = single_step tool (hunk ∷ hunks)

-- the sum, or the greatest number of 64 bits where that is less
abbrev pub at_most_greatest : ℕ → ℕ
at_most_greatest n = min n 18446744073709551615

-- how many records two edits select, where one of them is of a selection
abbrev pub both_chosen : Option ℕ → Option ℕ → Option ℕ
both_chosen None other = other
both_chosen (Some n) None = Some n
both_chosen (Some n) (Some m) = Some (at_most_greatest (n + m))

-- what an edit and those after it make of a text
abbrev pub with_first : Task → Patched → Edited → Edited
with_first task patched rest = record {
  steps = step_with (tool_of task) patched.patch ++ rest.steps;
  text = rest.text;
  changed = at_most_greatest (patched.changed + rest.changed);
  chosen = both_chosen patched.chosen rest.chosen;
}

-- what edits make of a text in turn, violations aside; or the first refusal
abbrev pub AreSteps : Bool → List Task → List ℕ → Result Edited Fault → Type 0
AreSteps force [] text answer = answer ≡ Ok (record { steps = []; text = text; changed = 0; chosen = None })
AreSteps force (task ∷ tasks) text answer =
    Then (IsEditOn force task text) (λ patched.
    Then (AreSteps force tasks patched.text) (λ rest answer.
    answer ≡ Ok (with_first task patched rest))) answer

-- the one answer to edits, memory aside: the last text alone must keep its rules
abbrev pub IsBatchOutcome : Bool → List Task → List ℕ → Result Edited Fault → Type 0
IsBatchOutcome force tasks text =
    Then (AreSteps force tasks text) (λ made.
    Then (IsSoundUnlessForced force made.text) (λ _ answer.
    answer ≡ Ok made))

-- ---- which edit is refused

-- the answer with the fault alone
abbrev pub fault_alone : Result Edited RefusedEdit → Result Edited Fault
fault_alone (Ok made) = Ok made
fault_alone (Err refused) = Err refused.fault

-- the edits before that of an index are made, and of their text that one is refused so
abbrev pub IsRefusedAt : Bool → List Task → List ℕ → ℕ → Fault → Type 0
IsRefusedAt force [] text index fault = ⊥
IsRefusedAt force (task ∷ tasks) text zero fault = IsEditOn force task text (Err fault)
IsRefusedAt force (task ∷ tasks) text (suc index) fault =
    (patched : Patched) × IsEditOn force task text (Ok patched) × IsRefusedAt force tasks patched.text index fault

-- one edit is refused so; or, where none is, all are made, and their text breaks rules so
abbrev pub AreRefusedAt : Bool → List Task → List ℕ → Option ℕ → Fault → Type 0
AreRefusedAt force tasks text (Some index) fault = IsRefusedAt force tasks text index fault
AreRefusedAt force tasks text None fault =
    (made : Edited) × AreSteps force tasks text (Ok made) × IsSoundUnlessForced force made.text (Err fault)

-- ---- what it means

-- a step leads from a text to another one, and takes whole elements out of it
pub record IsWholeStep (step : EditStep) (text next : List ℕ) : Type 0 where
  pub leads : Splices step.patch text next
  pub changes : next ≢ text
  pub pieces : List Piece
  pub elements : AreElementsOf pieces text
  pub whole : AllByRecursion (TakesWhole pieces) step.patch

-- so does each step, of the text to which the one before it leads
abbrev pub AreWholeSteps : List EditStep → List ℕ → Type 0
AreWholeSteps [] text = Unit {0}
AreWholeSteps (step ∷ steps) text = (next : List ℕ) × IsWholeStep step text next × AreWholeSteps steps next

-- the records of the texts, as one edit after another leaves them
abbrev pub HaveEffects : List Task → List ℕ → List ℕ → Type 0
HaveEffects [] text last = text ≡ last
HaveEffects (task ∷ tasks) text last = (described : DescribedText) × (next : List ℕ)
    × IsDescribedText text (Ok described)
    × HasEffect described.pieces described.schema task next
    × HaveEffects tasks next last

-- Edits have one outcome, whichever way the patterns of their texts were built; only where `regex` may refuse a pattern
-- of one of the texts, that refusal may stand instead of the other answer.
abbrev pub EditsHaveOneOutcome : Type 0
EditsHaveOneOutcome = (force : Bool) (tasks : List Task) (text : List ℕ) (one other : Result Edited Fault)
    → IsBatchOutcome force tasks text one → IsBatchOutcome force tasks text other
    → (one ≢ Err BadPattern) → (other ≢ Err BadPattern) → one ≡ other
