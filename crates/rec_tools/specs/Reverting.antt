-- What a revert makes of a text: one edit, made before later ones, is taken back alone.
use Rattle.std.specs.Prelude.{◌≡◌, ℕ, Bool, List, [], ◌∷◌, None, Result, Ok, Err}
use Rattle.rec_text.specs.declared.fault.Fault.{Fault}
use Rattle.rec_text.specs.declared.fault.Fault.TheVariants.{OutOfMemory, BadPattern, ChangedLater}
use Rattle.rec_text.specs.Steps.{Then}
use Rattle.rec_journal.specs.declared.patch.Hunk.{Hunk}
use Rattle.rec_journal.specs.declared.event.EditStep.{EditStep}
use Rattle.rec_journal.specs.declared.event.Tool.{Tool}
use Rattle.rec_journal.specs.EditTexts.{WithLater, IsStandingEdit}
use Rattle.rec_journal.specs.History.{Opened}
use Rattle.rec_journal.specs.Patch.{Splices}
use Rattle.rec_journal.specs.Revisions.{single_step, joined_steps}
use Rattle.rec_diff.specs.Reverts.{Reverts}
use Rattle.rec_check.specs.DescribedTexts.{DescribedText, IsDescribedText}
use Rattle.rec_edit.specs.declared.answer.Edited.{Edited}
use Rattle.rec_edit.specs.Outcome.{IsSoundUnlessForced}
use Rattle.rec_tools.specs.Asked.{Reversal, Standing}

abbrev pub standing_of : WithLater → Standing
standing_of found = record {
  tool = found.made.edit.tool;
  steps = found.made.edit.steps;
  before = found.made.before;
  after = found.made.after;
  later = joined_steps found.later;
}

-- ---- the text without an edit

-- the hunks that take the edit back
abbrev pub TakesBack : Standing → List ℕ → List Hunk → Type 0
TakesBack e here hunks = Reverts e.steps e.before e.after e.later here hunks

-- they are these, or a later edit changed the same lines
abbrev pub AreHunksBack : Standing → List ℕ → Result (List Hunk) Fault → Type 0
AreHunksBack e here (Ok hunks) = TakesBack e here hunks
AreHunksBack e here (Err fault) = (fault ≡ ChangedLater) × ((hunks : List Hunk) → TakesBack e here hunks → ⊥)

-- the tool of the last step, or this one where there is none
abbrev pub last_tool : Tool → List EditStep → Tool
last_tool tool [] = tool
last_tool tool (step ∷ steps) = last_tool step.tool steps

-- one step to the text that is left, by the tool of the edit's last step; it isn't counted which records it changes
abbrev pub edited_back : Standing → List Hunk → List ℕ → Edited
edited_back e hunks left =
    record { steps = single_step (last_tool e.tool e.steps) hunks; text = left; changed = 0; chosen = None }

-- what is left of the text here, told with the edit's tool
abbrev pub IsLeft : Standing → List ℕ → Result (Tool × Edited) Fault → Type 0
IsLeft e here =
    Then (AreHunksBack e here) (λ hunks answer.
    (left : List ℕ) × Splices hunks here left × (answer ≡ Ok (e.tool, edited_back e hunks left)))

-- ---- what must hold of it

-- the refusal of a text that would be left, by that of reading it
abbrev pub unread : Fault → Fault
unread OutOfMemory = OutOfMemory
unread BadPattern = BadPattern
unread _ = ChangedLater

abbrev pub IsReadable : List ℕ → Result DescribedText Fault → Type 0
IsReadable text (Ok described) = IsDescribedText text (Ok described)
IsReadable text (Err fault) = (given : Fault) × IsDescribedText text (Err given) × (fault ≡ unread given)

-- it reads, and keeps its rules unless that is forced
abbrev pub IsKept : Bool → List ℕ → Result (Unit {0}) Fault → Type 0
IsKept force text = Then (IsReadable text) (λ _. IsSoundUnlessForced force text)

-- ---- a revert

-- what a revert of the edit makes of the text here
abbrev pub IsReverted : Bool → List ℕ → Standing → Result (Tool × Edited) Fault → Type 0
IsReverted force here e =
    Then (IsLeft e here) (λ told.
    Then (IsKept force (told.1).text) (λ _ answer.
    answer ≡ Ok told))

-- the same of the edit of this number in a history of the file
abbrev pub IsRevertOf : ℕ → Reversal → Opened → List ℕ → Result (Tool × Edited) Fault → Type 0
IsRevertOf number Reverts o file =
    Then (IsStandingEdit o file number) (λ found. Reverts file (standing_of found))
