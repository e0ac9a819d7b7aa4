-- What each request asks for: one row for each, which says what is printed of a text, or what is made of it.
use Rattle.std.specs.Prelude.{◌≡◌, ◌↔◌, ℕ, Bool, List, [], ◌∷◌, Result, Ok, Err}
use Rattle.std.specs.List.{AllZip}
use Rattle.rec_text.specs.declared.fault.Fault.{Fault}
use Rattle.rec_journal.specs.declared.patch.Direction.TheVariants.{Forward, Backward}
use Rattle.rec_journal.specs.declared.event.Tool.{Tool}
use Rattle.rec_journal.specs.declared.event.Tool.TheVariants.{Batch as ByBatch}
use Rattle.rec_edit.specs.declared.answer.Edited.{Edited}
use Rattle.rec_edit.specs.Batch.{IsBatchOutcome}
use Rattle.rec_edit.specs.Task.{Wanted, Task, insert, replace, delete, comment_out, set, auto_fill, fresh_by, tool_of}
use Rattle.rec_diff.specs.declared.style.DiffStyle.{DiffStyle}
use Rattle.rec_tools.specs.declared.request.Pick.{Pick}
use Rattle.rec_tools.specs.declared.request.EditRequest.{EditRequest}
use Rattle.rec_tools.specs.declared.request.EditRequest.TheVariants.{Insert, Replace, Delete, CommentOut, Set}
use Rattle.rec_tools.specs.declared.request.EditRequest.TheVariants.{AutoFill}
use Rattle.rec_tools.specs.declared.request.Look.{Look}
use Rattle.rec_tools.specs.declared.request.Look.TheVariants.{Show, Info, Check, History, Diff, Log}
use Rattle.rec_tools.specs.declared.request.Change.{Change}
use Rattle.rec_tools.specs.declared.request.Change.TheVariants.{Edit, Batch, Undo, Redo, Revert, Forget, Adopt, Write}
use Rattle.rec_tools.specs.declared.request.Request.{Request}
use Rattle.rec_tools.specs.declared.request.Request.TheVariants.{Look as Looks, Change as Changes}
use Rattle.rec_tools.specs.declared.request.Request.TheVariants.{Preview as Previews}
use Rattle.rec_check.specs.Violations.{AreViolationsOf}
use Rattle.rec_tools.specs.Steps.{Then}
use Rattle.rec_tools.specs.Asking.{IsFilter}
use Rattle.rec_tools.specs.Batches.{AreEdits}
use Rattle.rec_tools.specs.Printouts.{IsShownText, IsReportText, IsShow, IsInfoOf}
use Rattle.rec_tools.specs.Asked.{Asked, AskedChange, Telling, adopting, changing, editing, forgetting, listing}
use Rattle.rec_tools.specs.Asked.{listing_changes, looking, moving, previewing, reverting, showing, writing}
use Rattle.rec_check.specs.DescribedTexts.{IsDescribedText}
use Rattle.rec_diff.specs.Diffs.{IsDiff}
use Rattle.rec_tools.specs.Reverting.{IsReverted}
use Rattle.rec_tools.specs.Writing.{IsWritten}

-- edits in turn that are one, with force or without, and the tool that is told with them
pub record Edits : Type 0 where
  pub tool : Tool
  pub tasks : List Task
  pub force : Bool

-- ---- edits

-- the task of the records that a pick selects
abbrev pub IsTaskBy : (Wanted → Task) → Pick → Result Task Fault → Type 0
IsTaskBy task_for pick =
    Then (IsFilter pick.by) (λ filter answer.
    answer ≡ Ok (task_for (record { record_type = pick.kind; filter = filter })))

-- the task of an edit as it is asked for
abbrev pub IsTaskOf : EditRequest → Result Task Fault → Type 0
IsTaskOf (Insert record_type fresh auto) answer = answer ≡ Ok (insert record_type (fresh_by fresh) auto)
IsTaskOf (Replace pick fresh) answer = IsTaskBy (λ wanted. replace wanted (fresh_by fresh)) pick answer
IsTaskOf (Delete pick) answer = IsTaskBy delete pick answer
IsTaskOf (CommentOut pick) answer = IsTaskBy comment_out pick answer
IsTaskOf (Set pick list action) answer = IsTaskBy (λ wanted. set wanted list action) pick answer
IsTaskOf AutoFill answer = answer ≡ Ok auto_fill

-- the tasks of several
abbrev pub AreTasks : List EditRequest → Result (List Task) Fault → Type 0
AreTasks [] answer = answer ≡ Ok []
AreTasks (edit ∷ edits) answer =
    Then (IsTaskOf edit) (λ task.
    Then (AreTasks edits) (λ tasks answer.
    answer ≡ Ok (task ∷ tasks))) answer

-- one edit, with force or without
abbrev pub IsOneEdit : EditRequest → Bool → Result Edits Fault → Type 0
IsOneEdit edit force =
    Then (IsTaskOf edit) (λ task answer.
    answer ≡ Ok (record { tool = tool_of task; tasks = task ∷ []; force = force }))

-- the edits that a text lists, with force or without
abbrev pub IsBatch : List ℕ → Bool → Result Edits Fault → Type 0
IsBatch text force =
    Then (AreEdits text) (λ edits.
    Then (AreTasks edits) (λ tasks answer.
    answer ≡ Ok (record { tool = ByBatch; tasks = tasks; force = force })))

-- what edits that are one make of a text, and the tool that is told with them; or the first refusal
abbrev pub Makes : List ℕ → Edits → Result (Tool × Edited) Fault → Type 0
Makes text edits = Then (IsBatchOutcome edits.force edits.tasks text) (λ made answer. answer ≡ Ok (edits.tool, made))

-- the same of edits that are told, unless they can't be
abbrev pub IsMade : (Result Edits Fault → Type 0) → List ℕ → Result (Tool × Edited) Fault → Type 0
IsMade IsEdit text = Then IsEdit (Makes text)

-- two edits have the same task, or are refused so
abbrev pub HaveOneTask : EditRequest → EditRequest → Type 0
HaveOneTask one other = (answer : Result Task Fault) → IsTaskOf one answer ↔ IsTaskOf other answer

-- two answers of a text agree: their edits have the same tasks, one after another, or they are one fault
abbrev pub Agree : Result (List EditRequest) Fault → Result (List EditRequest) Fault → Type 0
Agree (Ok edits) (Ok others) = AllZip HaveOneTask edits others
Agree (Err fault) (Err other) = fault ≡ other
Agree _ _ = ⊥

-- all answers of a text agree
abbrev pub HasOneAnswer : List ℕ → Type 0
HasOneAnswer text =
    (one other : Result (List EditRequest) Fault) → AreEdits text one → AreEdits text other → Agree one other

-- ---- requests

-- an edit is told as a diff, in a style
abbrev pub as_diff : DiffStyle → Telling
as_diff style direction steps here there printed = IsDiff direction style steps here there (Ok printed)

-- what a look asks for
abbrev pub look_of : Look → Asked
look_of (Show pick form collapse) = looking (λ file. IsShownText (IsShow file pick form collapse))
look_of (Info record_type form) = looking (λ file. IsShownText (IsInfoOf file record_type form))
look_of Check = looking (λ file. IsReportText (AreViolationsOf file))
look_of History = listing
look_of (Diff number style) = showing number (as_diff style)
look_of (Log style) = listing_changes (as_diff style)

-- what a change asks for
abbrev pub change_of : Change → AskedChange
change_of (Edit edit force) = editing IsDescribedText (IsMade (IsOneEdit edit force))
change_of (Batch text force) = editing IsDescribedText (IsMade (IsBatch text force))
change_of (Undo through) = moving Backward through
change_of (Redo through) = moving Forward through
change_of (Revert number force) = reverting IsDescribedText number (IsReverted force)
change_of (Forget newest dropped) = forgetting newest dropped
change_of (Adopt old) = adopting old
change_of (Write text over force) = writing (IsWritten force over text)

-- what a request asks for
abbrev pub asked_of : Request → Asked
asked_of (Looks look) = look_of look
asked_of (Changes change) = changing (change_of change)
asked_of (Previews change style) = previewing (as_diff style) (change_of change)

-- a request that changes something, of which nothing is printed; every other one prints, and nothing is written for it
abbrev pub IsChange : Request → Type 0
IsChange (Looks look) = ⊥
IsChange (Changes change) = Unit {0}
IsChange (Previews change style) = ⊥
