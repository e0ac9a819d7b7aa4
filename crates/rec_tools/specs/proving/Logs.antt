-- What is printed of edits with their texts, in a call for each.
use Rattle.std.specs.Prelude.{◌≡◌, ℕ, ◌+◌, List, ◌++◌, length, Option, Some, None, Result, Ok}
use Rattle.std.specs.List.{AllByRecursion}
use Rattle.rec_text.specs.declared.fault.Fault.{Fault}
use Rattle.rec_journal.specs.declared.patch.Direction.TheVariants.{Forward}
use Rattle.rec_journal.specs.EditTexts.{WithTexts, WalkAt, GoesOver}
use Rattle.rec_journal.specs.Revisions.{LeadsBy}
use Rattle.rec_select.specs.Taken.{Prints}
use Rattle.rec_diff.specs.declared.style.DiffStyle.{DiffStyle}
use Rattle.rec_diff.specs.Diffs.{IsDiff}
use Rattle.rec_tools.specs.Printouts.{step_line, word_of}

-- the edit's steps lead from its text before to its text after
abbrev pub HasSteps : WithTexts → Type 0
HasSteps made = LeadsBy made.edit.steps made.before made.after

-- what the edit made, as a diff in a style
abbrev pub IsEditDiff : DiffStyle → WithTexts → List ℕ → Type 0
IsEditDiff style made diff = IsDiff Forward style made.edit.steps made.before made.after (Ok diff)

-- the line of the edit in the history, and what it made
abbrev pub IsLogged : DiffStyle → WithTexts → List ℕ → Type 0
IsLogged style made text = (diff : List ℕ) × IsEditDiff style made diff
    × (text ≡ step_line (word_of made.done) (made.edit.number, made.edit.tool) ++ diff)

-- the edits of a walk have their steps
abbrev pub HaveSteps : Option WalkAt → Type 0
HaveSteps walk = (all : List WithTexts) × GoesOver walk all × AllByRecursion HasSteps all

-- how many edits a walk has still to go over
abbrev pub left_over : Option WalkAt → ℕ
left_over None = 0
left_over (Some walk) = length walk.left + 1

-- each text that is so was printed by the call; where it is refused, a prefix of it
abbrev pub PrintsThe :
    {S X : Type 0} → (S → Option (List ℕ)) → (S → ℕ) → S → S → (List ℕ → Type 0) → Result X Fault → Type 0
PrintsThe contents failures old new IsText result =
    (text : List ℕ) → IsText text → Prints contents failures old new text result
