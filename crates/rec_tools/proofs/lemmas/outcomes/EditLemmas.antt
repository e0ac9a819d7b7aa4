-- An edit has one outcome, also that of the records that a pick selects, and it is never refused because a store failed.
use Rattle.std.proofs.Common.{◌≡◌, ◌≢◌, inl, inr, ℕ, Bool, true, false, Option, Some, None, List, [], ◌∷◌, Result, Ok, Err, ap, refl, sym, subst, ◌∙◌}
use Rattle.std.specs.List.{AllZip}
use Rattle.std.specs.Prelude.{◌+◌, ◌++◌}
use Rattle.rec_text.specs.declared.fault.Fault.{Fault}
use Rattle.rec_text.specs.declared.fault.Fault.TheVariants.{BadPattern, StoreFailed}
use Rattle.rec_text.specs.Faults.{IsMemoryOr, UnlessMemory}
use Rattle.rec_text.specs.declared.violations.Violation.{Violation}
use Rattle.rec_text.specs.Elements.{Piece}
use Rattle.rec_check.specs.declared.set.Set_.{Set_}
use Rattle.rec_check.specs.Schemas.{Described}
use Rattle.rec_check.specs.DescribedTexts.{DescribedText, IsDescribedText}
use Rattle.rec_journal.specs.declared.event.Tool.{Tool}
use Rattle.rec_journal.specs.declared.event.Tool.TheVariants.{Batch as ByBatch}
use Rattle.rec_check.specs.Violations.{AreViolationsOf}
use Rattle.rec_select.specs.Selection.{Filter}
use Rattle.rec_edit.specs.declared.request.Action.{Action}
use Rattle.rec_edit.specs.declared.answer.Edited.{Edited}
use Rattle.rec_edit.specs.declared.outcome.Patched.{Patched}
use Rattle.rec_edit.specs.Batch.{IsEditOn, step_with, at_most_greatest, both_chosen, AreSteps, IsBatchOutcome}
use Rattle.rec_edit.specs.Task.{NewRecord, Wanted, Task, insert, replace, delete, comment_out, set, auto_fill, fresh_by, tool_of}
use Rattle.rec_edit.specs.Wording.{AreItemsFor, IsNewRecord}
use Rattle.rec_edit.specs.Outcome.{AreChosen, AreRemovable, allowed, EditScript, IsEditScript, none_of, IsSoundUnlessForced, IsEditOf}
use Rattle.rec_edit.proofs.lemmas.outcomes.AnswerLemmas.{RefusesSo-edit}
use Rattle.rec_edit.proofs.lemmas.outcomes.OneOutcomeLemmas.{edits_have_one_outcome}
use Rattle.rec_tools.specs.declared.request.Pick.{Pick}
use Rattle.rec_tools.specs.declared.request.EditRequest.{EditRequest}
use Rattle.rec_tools.specs.declared.request.EditRequest.TheVariants.{Insert, Replace, Delete, CommentOut, Set as SetFields, AutoFill}
use Rattle.rec_tools.specs.Steps.{Then}
use Rattle.rec_tools.specs.Asking.{IsFilter}
use Rattle.rec_tools.specs.Batches.{AreEdits}
use Rattle.rec_tools.specs.Requests.{Edits, IsTaskBy, IsTaskOf, AreTasks, HaveOneTask, Agree, IsOneEdit, IsBatch, Makes, IsMade}
use Rattle.rec_tools.specs.Making.{AreMade, HasNoTaskAt}
use Rattle.rec_text.proofs.lemmas.FaultLemmas.{memory_or_weaker, ok_is_no_err}
use Rattle.rec_text.proofs.lemmas.StepLemmas.{HasOneBut, Then-first, Then-next, AgreeBut, AgreeBut-Then, AreLike, AgreeLike, AgreeLike-value, AgreeLike-Then, AgreeBut-like}
use Rattle.rec_tools.proofs.lemmas.outcomes.AnswerLemmas.{AreAlike, AgreeLike-filter, same_selection}
use Rattle.rec_tools.proofs.lemmas.batches.SameTaskLemmas.{one_answer, same_tasks}
use Rattle.rec_tools.proofs.lemmas.batches.TaskLemmas.{no_store_edits, tasks-refused}
use Rattle.rec_tools.proofs.lemmas.printing.PutsLemmas.{no_store_then, no_store_text}
use Rattle.rec_tools.proofs.lemmas.printing.ShowLemmas.{no_store_filter}
use Rattle.rec_tools.proofs.lemmas.printing.CheckLemmas.{no_store_report}

-- ---- filters that are alike

abbrev by_filter : Option (List ℕ) → Filter → Wanted
by_filter record_type filter = record { record_type = record_type; filter = filter }

-- these records, where they may be taken out
abbrev MayGo : Filter → Bool → List ℕ → Result (List ℕ) Fault → Type 0
MayGo filter force chosen = Then (λ answer. answer ≡ allowed filter force) (λ _ answer. answer ≡ Ok chosen)

module _ (record_type : Option (List ℕ)) (wanted other : Filter) (alike : AreAlike wanted other) (pieces : List Piece) (sets : List Set_) where
  chosen_alike : (r : Result (List ℕ) Fault) → AreChosen pieces sets (by_filter record_type wanted) r → AreChosen pieces sets (by_filter record_type other) r
  chosen_alike = same_selection pieces sets record_type wanted other alike.into alike.back

  removable_alike : (force : Bool) (r : Result (List ℕ) Fault) → AreRemovable pieces sets (by_filter record_type wanted) force r
      → AreRemovable pieces sets (by_filter record_type other) force r
  removable_alike force r h =
      Then-next (AreChosen pieces sets (by_filter record_type other)) (MayGo wanted force) (MayGo other force)
      (λ chosen. Then-first (λ answer. answer ≡ allowed wanted force) (λ answer. answer ≡ allowed other force) (λ _ answer. answer ≡ Ok chosen)
      (λ answer e. e ∙ alike.allowed_too force)) r
      (Then-first (AreChosen pieces sets (by_filter record_type wanted)) (AreChosen pieces sets (by_filter record_type other)) (MayGo wanted force) chosen_alike r h)

-- for filters that are alike, the task is the same, and the tool is the same in any case
pub record IsSameTask (task_for : Wanted → Task) : Type 0 where
  pub step : (pieces : List Piece) (schema : Described) (force : Bool) (record_type : Option (List ℕ)) (wanted other : Filter) → AreAlike wanted other
      → (r : Result EditScript Fault) → IsEditScript pieces schema force (task_for (by_filter record_type wanted)) r → IsEditScript pieces schema force (task_for (by_filter record_type other)) r
  pub tool : (wanted other : Wanted) → tool_of (task_for wanted) ≡ tool_of (task_for other)

pub delete_alike : IsSameTask delete
delete_alike = record {
  step = λ pieces schema force record_type wanted other alike.
      Then-first (AreRemovable pieces schema.sets (by_filter record_type wanted) force) (AreRemovable pieces schema.sets (by_filter record_type other) force) _
      (removable_alike record_type wanted other alike pieces schema.sets force);
  tool = λ wanted other. refl;
}

pub comment_out_alike : IsSameTask comment_out
comment_out_alike = record {
  step = λ pieces schema force record_type wanted other alike.
      Then-first (AreRemovable pieces schema.sets (by_filter record_type wanted) force) (AreRemovable pieces schema.sets (by_filter record_type other) force) _
      (removable_alike record_type wanted other alike pieces schema.sets force);
  tool = λ wanted other. refl;
}

pub set_alike : (list : List ℕ) (action : Action) → IsSameTask (λ wanted. set wanted list action)
set_alike list action = record {
  step = λ pieces schema force record_type wanted other alike.
      Then-next (AreItemsFor action list) _ _
      (λ items. Then-first (AreChosen pieces schema.sets (by_filter record_type wanted)) (AreChosen pieces schema.sets (by_filter record_type other)) _
      (chosen_alike record_type wanted other alike pieces schema.sets));
  tool = λ wanted other. refl;
}

pub replace_alike : (fresh : NewRecord) → IsSameTask (λ wanted. replace wanted fresh)
replace_alike fresh = record {
  step = λ pieces schema force record_type wanted other alike.
      Then-next (IsNewRecord None fresh) _ _
      (λ pairs. Then-first (AreChosen pieces schema.sets (by_filter record_type wanted)) (AreChosen pieces schema.sets (by_filter record_type other)) _
      (chosen_alike record_type wanted other alike pieces schema.sets));
  tool = λ wanted other. refl;
}

-- ---- tasks that are alike

-- both are done by one tool, and make the same of each text
pub record AreDoneAlike (task other : Task) : Type 0 where
  pub step : (pieces : List Piece) (schema : Described) (force : Bool) (r : Result EditScript Fault)
      → IsEditScript pieces schema force task r → IsEditScript pieces schema force other r
  pub tool : tool_of task ≡ tool_of other

itself_alike : (task : Task) → AreDoneAlike task task
itself_alike task = record { step = λ pieces schema force r h. h; tool = refl }

told_alike : (task : Task) → AgreeLike AreDoneAlike (λ answer. answer ≡ Ok task) (λ answer. answer ≡ Ok task)
told_alike task = AgreeLike-value AreDoneAlike task task (itself_alike task)

module _ (task_for : Wanted → Task) (same : IsSameTask task_for) (pick : Pick) where
  abbrev task_by : Filter → Task
  task_by filter = task_for (by_filter pick.kind filter)

  done_alike : (wanted other : Filter) → AreAlike wanted other → AreDoneAlike (task_by wanted) (task_by other)
  done_alike wanted other alike = record {
    step = λ pieces schema force. same.step pieces schema force pick.kind wanted other alike;
    tool = same.tool (by_filter pick.kind wanted) (by_filter pick.kind other);
  }

  picked_alike : AgreeLike AreDoneAlike (IsTaskBy task_for pick) (IsTaskBy task_for pick)
  picked_alike =
      AgreeLike-Then AreAlike (IsFilter pick.by) (IsFilter pick.by) (λ filter answer. answer ≡ Ok (task_by filter)) (λ filter answer. answer ≡ Ok (task_by filter))
      (AgreeLike-filter pick.by) AreDoneAlike (λ wanted other _ _ alike. AgreeLike-value AreDoneAlike (task_by wanted) (task_by other) (done_alike wanted other alike))

-- the tasks of an edit as it is asked for are alike
tasks_of_one : (edit : EditRequest) → AgreeLike AreDoneAlike (IsTaskOf edit) (IsTaskOf edit)
tasks_of_one (Insert record_type fresh auto) = told_alike (insert record_type (fresh_by fresh) auto)
tasks_of_one (Replace pick fresh) = picked_alike (λ wanted. replace wanted (fresh_by fresh)) (replace_alike (fresh_by fresh)) pick
tasks_of_one (Delete pick) = picked_alike delete delete_alike pick
tasks_of_one (CommentOut pick) = picked_alike comment_out comment_out_alike pick
tasks_of_one (SetFields pick list action) = picked_alike (λ wanted. set wanted list action) (set_alike list action) pick
tasks_of_one AutoFill = told_alike auto_fill

-- and so are those of several
tasks_of_all : (edits : List EditRequest) → AgreeLike (AllZip AreDoneAlike) (AreTasks edits) (AreTasks edits)
tasks_of_all [] = AgreeLike-value (AllZip AreDoneAlike) [] [] tt
tasks_of_all (edit ∷ edits) =
    let more : Task → Result (List Task) Fault → Type 0 = λ task. Then (AreTasks edits) (λ tasks answer. answer ≡ Ok (task ∷ tasks)) in
    AgreeLike-Then AreDoneAlike (IsTaskOf edit) (IsTaskOf edit) more more (tasks_of_one edit) (AllZip AreDoneAlike) (λ a b _ _ alike.
    AgreeLike-Then (AllZip AreDoneAlike) (AreTasks edits) (AreTasks edits)
    (λ tasks answer. answer ≡ Ok (a ∷ tasks)) (λ tasks answer. answer ≡ Ok (b ∷ tasks)) (tasks_of_all edits) (AllZip AreDoneAlike) (λ xs ys _ _ alike_too.
    AgreeLike-value (AllZip AreDoneAlike) (a ∷ xs) (b ∷ ys) (alike, alike_too)))

-- they have the same tasks
abbrev AreAskedAlike : List EditRequest → List EditRequest → Type 0
AreAskedAlike = AllZip HaveOneTask

tasks_alike : (edits others : List EditRequest) → AreAskedAlike edits others → AgreeLike (AllZip AreDoneAlike) (AreTasks edits) (AreTasks others)
tasks_alike edits others alike one other is is_too =
    tasks_of_all edits one other is (same_tasks edits others alike other is_too)

-- ---- what tasks make of a text

-- tasks that are alike make the same
module _ (task other : Task) (alike : AreDoneAlike task other) (force : Bool) where
  edit_alike : (pieces : List Piece) (schema : Described) (r : Result Patched Fault) → IsEditOf pieces schema force task r → IsEditOf pieces schema force other r
  edit_alike pieces schema = Then-first (IsEditScript pieces schema force task) (IsEditScript pieces schema force other) _ (alike.step pieces schema force)

  step_alike : (text : List ℕ) (r : Result Patched Fault) → IsEditOn force task text r → IsEditOn force other text r
  step_alike text = Then-next (IsDescribedText text) (λ described. IsEditOf described.pieces described.schema force task)
      (λ described. IsEditOf described.pieces described.schema force other) (λ described. edit_alike described.pieces described.schema)

-- what an edit by a tool and those after it make of a text
abbrev joined_by : Tool → Patched → Edited → Edited
joined_by tool step rest = record {
  steps = step_with tool step.patch ++ rest.steps;
  text = rest.text;
  changed = at_most_greatest (step.changed + rest.changed);
  chosen = both_chosen step.chosen rest.chosen;
}

-- what becomes of a step and of those after it
abbrev Joins : Bool → Tool → List Task → Patched → Result Edited Fault → Type 0
Joins force tool tasks step = Then (AreSteps force tasks step.text) (λ rest answer. answer ≡ Ok (joined_by tool step rest))

steps_alike : (force : Bool) (tasks others : List Task) → AllZip AreDoneAlike tasks others → (text : List ℕ) (r : Result Edited Fault)
    → AreSteps force tasks text r → AreSteps force others text r
steps_alike force [] [] alike text r h = h
steps_alike force [] (other ∷ others) alike text r h = absurd alike
steps_alike force (task ∷ tasks) [] alike text r h = absurd alike
steps_alike force (task ∷ tasks) (other ∷ others) (alike, rest) text r h =
    Then-first (IsEditOn force task text) (IsEditOn force other text) (Joins force (tool_of other) others) (step_alike task other alike force text) r
    (Then-next (IsEditOn force task text) (Joins force (tool_of task) tasks) (Joins force (tool_of other) others)
    (λ step s is. subst (λ tool. Joins force tool others step s) alike.tool
    (Then-first (AreSteps force tasks step.text) (AreSteps force others step.text)
    (λ made answer. answer ≡ Ok (joined_by (tool_of task) step made)) (steps_alike force tasks others rest step.text) s is)) r h)

batch_alike : (force : Bool) (tasks others : List Task) → AllZip AreDoneAlike tasks others → (text : List ℕ) (r : Result Edited Fault)
    → IsBatchOutcome force tasks text r → IsBatchOutcome force others text r
batch_alike force tasks others alike text = Then-first (AreSteps force tasks text) (AreSteps force others text) _ (steps_alike force tasks others alike text)

-- a batch of tasks has one outcome
one_batch_of : (force : Bool) (tasks : List Task) (text : List ℕ) → HasOneBut (IsBatchOutcome force tasks text)
one_batch_of force tasks text = edits_have_one_outcome force tasks text

-- edits as they are asked for make one thing of a text
pub one_made_of : (force : Bool) (edits : List EditRequest) (text : List ℕ) → HasOneBut (AreMade force edits text)
one_made_of force edits text =
    AgreeBut-like (AllZip AreDoneAlike) (AreTasks edits) (AreTasks edits) (λ tasks. IsBatchOutcome force tasks text) (λ tasks. IsBatchOutcome force tasks text)
    (tasks_of_all edits) (λ tasks others _ _ alike r s h k. one_batch_of force others text r s (batch_alike force tasks others alike text r h) k)

-- ---- what is answered of edits as they are asked for

module _ (force : Bool) (edits : List EditRequest) (text : List ℕ) where
  -- the words of one of them can't be read
  pub make-refused : (fault : Fault) (place : Option ℕ) → IsMemoryOr fault ((index : ℕ) × HasNoTaskAt edits index fault × (place ≡ Some index))
      → IsMemoryOr fault (AreMade force edits text (Err fault))
  make-refused fault place h = memory_or_weaker fault _ _ (λ none. inl (fault, tasks-refused edits none.0 fault none.1, refl)) h

  pub make-found : (tasks : List Task) → AreTasks edits (Ok tasks) → (r : Result Edited Fault)
      → UnlessMemory r (IsBatchOutcome force tasks text) → UnlessMemory r (AreMade force edits text)
  make-found tasks are (Ok made) is = inr (tasks, are, is)
  make-found tasks are (Err fault) h = memory_or_weaker fault _ _ (λ is. inr (tasks, are, is)) h

  pub make-only : (r : Result Edited Fault) → UnlessMemory r (AreMade force edits text)
      → (other : Result Edited Fault) → AreMade force edits text other → other ≢ Err BadPattern
      → UnlessMemory r (λ answer. (answer ≢ Err BadPattern) → answer ≡ other)
  make-only (Ok made) is other is_too built = λ built_too. one_made_of force edits text (Ok made) other is is_too built_too built
  make-only (Err fault) h other is_too built =
      memory_or_weaker fault _ _ (λ is built_too. one_made_of force edits text (Err fault) other is is_too built_too built) h

-- ---- edits that are one

-- both are told with one tool, have tasks that are alike, and are forced or not
pub record AreEditsAlike (one other : Edits) : Type 0 where
  pub tool : one.tool ≡ other.tool
  pub tasks : AllZip AreDoneAlike one.tasks other.tasks
  pub force : one.force ≡ other.force

pub agree_on_one : (edit : EditRequest) (force : Bool) → AgreeLike AreEditsAlike (IsOneEdit edit force) (IsOneEdit edit force)
agree_on_one edit force =
    let told : Task → Edits = λ task. record { tool = tool_of task; tasks = task ∷ []; force = force } in
    AgreeLike-Then AreDoneAlike (IsTaskOf edit) (IsTaskOf edit) (λ task answer. answer ≡ Ok (told task)) (λ task answer. answer ≡ Ok (told task))
    (tasks_of_one edit) AreEditsAlike (λ a b _ _ alike.
    AgreeLike-value AreEditsAlike (told a) (told b) (record { tool = alike.tool; tasks = (alike, tt); force = refl }))

-- the edits that a text lists have the same tasks
edits_alike : (text : List ℕ) → AgreeLike AreAskedAlike (AreEdits text) (AreEdits text)
edits_alike text one other is is_too _ _ = like one other (one_answer text one other is is_too) where
  like : (one other : Result (List EditRequest) Fault) → Agree one other → AreLike AreAskedAlike one other
  like (Ok edits) (Ok others) agree = agree
  like (Ok edits) (Err fault) agree = agree
  like (Err fault) (Ok others) agree = agree
  like (Err fault) (Err other) agree = agree

pub agree_on_batch : (text : List ℕ) (force : Bool) → AgreeLike AreEditsAlike (IsBatch text force) (IsBatch text force)
agree_on_batch text force =
    let told : List Task → Edits = λ tasks. record { tool = ByBatch; tasks = tasks; force = force } in
    let more : List EditRequest → Result Edits Fault → Type 0 = λ edits. Then (AreTasks edits) (λ tasks answer. answer ≡ Ok (told tasks)) in
    AgreeLike-Then AreAskedAlike (AreEdits text) (AreEdits text) more more (edits_alike text) AreEditsAlike (λ edits others _ _ alike.
    AgreeLike-Then (AllZip AreDoneAlike) (AreTasks edits) (AreTasks others) (λ tasks answer. answer ≡ Ok (told tasks)) (λ tasks answer. answer ≡ Ok (told tasks))
    (tasks_alike edits others alike) AreEditsAlike (λ tasks more _ _ alike_too.
    AgreeLike-value AreEditsAlike (told tasks) (told more) (record { tool = refl; tasks = alike_too; force = refl })))

-- edits that are alike make one thing of a text
made_alike : (text : List ℕ) (one other : Edits) → AreEditsAlike one other → AgreeBut (Makes text one) (Makes text other)
made_alike text one other alike =
    AgreeBut-Then (IsBatchOutcome one.force one.tasks text) (IsBatchOutcome other.force other.tasks text)
    (λ made answer. answer ≡ Ok (one.tool, made)) (λ made answer. answer ≡ Ok (other.tool, made))
    (λ r s h k. one_batch_of other.force other.tasks text r s
    (batch_alike other.force one.tasks other.tasks alike.tasks text r (subst (λ force. IsBatchOutcome force one.tasks text r) alike.force h)) k)
    (λ made _ r s e k _ _. e ∙ ap (λ tool. Ok (tool, made)) alike.tool ∙ sym k)

pub one_made : (IsEdit : Result Edits Fault → Type 0) → AgreeLike AreEditsAlike IsEdit IsEdit → (text : List ℕ) → HasOneBut (IsMade IsEdit text)
one_made IsEdit agree text =
    AgreeBut-like AreEditsAlike IsEdit IsEdit (Makes text) (Makes text) agree (λ one other _ _ alike. made_alike text one other alike)

-- ---- no refusal because a store failed

no_store_none : (found : List Violation) → Err StoreFailed ≡ none_of found → ⊥
no_store_none [] e = cc
no_store_none (violation ∷ violations) e = cc

pub no_store_sound : (force : Bool) (text : List ℕ) → IsSoundUnlessForced force text (Err StoreFailed) → ⊥
no_store_sound true text e = cc
no_store_sound false text h = no_store_then (AreViolationsOf text) (λ found answer. answer ≡ none_of found) (no_store_report text) no_store_none h

no_store_edit : (text : DescribedText) (force : Bool) (task : Task) → IsEditOf text.pieces text.schema force task (Err StoreFailed) → ⊥
no_store_edit text force task h = RefusesSo-edit text.pieces text.schema force task (Err StoreFailed) h

no_store_edit_on : (force : Bool) (task : Task) (text : List ℕ) → IsEditOn force task text (Err StoreFailed) → ⊥
no_store_edit_on force task text =
    no_store_then (IsDescribedText text) (λ described. IsEditOf described.pieces described.schema force task) (no_store_text text)
    (λ described. no_store_edit described force task)

no_store_steps : (force : Bool) (tasks : List Task) (text : List ℕ) → AreSteps force tasks text (Err StoreFailed) → ⊥
no_store_steps force [] text = ok_is_no_err (record { steps = []; text = text; changed = 0; chosen = None }) StoreFailed ⊥
no_store_steps force (task ∷ tasks) text =
    no_store_then (IsEditOn force task text) (Joins force (tool_of task) tasks) (no_store_edit_on force task text) (λ step.
    no_store_then (AreSteps force tasks step.text) (λ rest answer. answer ≡ Ok (joined_by (tool_of task) step rest))
    (no_store_steps force tasks step.text) (λ rest. ok_is_no_err (joined_by (tool_of task) step rest) StoreFailed ⊥))

no_store_batch : (force : Bool) (tasks : List Task) (text : List ℕ) → IsBatchOutcome force tasks text (Err StoreFailed) → ⊥
no_store_batch force tasks text =
    no_store_then (AreSteps force tasks text) (λ made. Then (IsSoundUnlessForced force made.text) (λ _ answer. answer ≡ Ok made)) (no_store_steps force tasks text) (λ made.
    no_store_then (IsSoundUnlessForced force made.text) (λ _ answer. answer ≡ Ok made) (no_store_sound force made.text) (λ _. ok_is_no_err made StoreFailed ⊥))

pub no_store_made : (IsEdit : Result Edits Fault → Type 0) → (IsEdit (Err StoreFailed) → ⊥) → (text : List ℕ)
    → IsMade IsEdit text (Err StoreFailed) → ⊥
no_store_made IsEdit never text =
    no_store_then IsEdit (Makes text) never (λ edits.
    no_store_then (IsBatchOutcome edits.force edits.tasks text) (λ made answer. answer ≡ Ok (edits.tool, made))
    (no_store_batch edits.force edits.tasks text) (λ made. ok_is_no_err (edits.tool, made) StoreFailed ⊥))

no_store_picked : (task_for : Wanted → Task) (pick : Pick) → IsTaskBy task_for pick (Err StoreFailed) → ⊥
no_store_picked task_for pick =
    no_store_then (IsFilter pick.by) (λ filter answer. answer ≡ Ok (task_for (by_filter pick.kind filter))) (no_store_filter pick.by)
    (λ filter. ok_is_no_err (task_for (by_filter pick.kind filter)) StoreFailed ⊥)

no_store_told : (edit : EditRequest) → IsTaskOf edit (Err StoreFailed) → ⊥
no_store_told (Insert record_type fresh auto) e = ok_is_no_err (insert record_type (fresh_by fresh) auto) StoreFailed ⊥ e
no_store_told (Replace pick fresh) h = no_store_picked (λ wanted. replace wanted (fresh_by fresh)) pick h
no_store_told (Delete pick) h = no_store_picked delete pick h
no_store_told (CommentOut pick) h = no_store_picked comment_out pick h
no_store_told (SetFields pick list action) h = no_store_picked (λ wanted. set wanted list action) pick h
no_store_told AutoFill e = ok_is_no_err auto_fill StoreFailed ⊥ e

no_store_tasks : (edits : List EditRequest) → AreTasks edits (Err StoreFailed) → ⊥
no_store_tasks [] = ok_is_no_err {A = List Task} [] StoreFailed ⊥
no_store_tasks (edit ∷ edits) =
    no_store_then (IsTaskOf edit) (λ task. Then (AreTasks edits) (λ tasks answer. answer ≡ Ok (task ∷ tasks))) (no_store_told edit) (λ task.
    no_store_then (AreTasks edits) (λ tasks answer. answer ≡ Ok (task ∷ tasks)) (no_store_tasks edits) (λ tasks.
    ok_is_no_err (task ∷ tasks) StoreFailed ⊥))

pub no_store_one : (edit : EditRequest) (force : Bool) → IsOneEdit edit force (Err StoreFailed) → ⊥
no_store_one edit force =
    let told : Task → Edits = λ task. record { tool = tool_of task; tasks = task ∷ []; force = force } in
    no_store_then (IsTaskOf edit) (λ task answer. answer ≡ Ok (told task)) (no_store_told edit) (λ task. ok_is_no_err (told task) StoreFailed ⊥)

pub no_store_listed : (text : List ℕ) (force : Bool) → IsBatch text force (Err StoreFailed) → ⊥
no_store_listed text force =
    let told : List Task → Edits = λ tasks. record { tool = ByBatch; tasks = tasks; force = force } in
    no_store_then (AreEdits text) (λ edits. Then (AreTasks edits) (λ tasks answer. answer ≡ Ok (told tasks))) (no_store_edits text) (λ edits.
    no_store_then (AreTasks edits) (λ tasks answer. answer ≡ Ok (told tasks)) (no_store_tasks edits)
    (λ tasks. ok_is_no_err (told tasks) StoreFailed ⊥))
