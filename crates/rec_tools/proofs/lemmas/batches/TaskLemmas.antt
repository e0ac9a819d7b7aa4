-- The tasks of edits as they are asked for, one after another, and the first that has none.
use Rattle.std.proofs.Common.{◌≡◌, ◌<◌, inl, inr, ℕ, ◌+◌, zero, suc, List, [], ◌∷◌, ◌++◌, length, map, take, drop, get_or, Some, Ok, Err, ap, refl, sym, subst, ◌∙◌, arith}
use Rattle.std.proofs.lemmas.List.{drop_more, length-take, map_push, take-append-drop, take_more}
use Rattle.rec_text.specs.declared.fault.Fault.{Fault}
use Rattle.rec_text.specs.declared.fault.Fault.TheVariants.{StoreFailed}
use Rattle.rec_text.specs.Faults.{IsMemoryOr}
use Rattle.rec_edit.specs.declared.request.Edit.{Edit}
use Rattle.rec_edit.specs.Task.{Task, task_of}
use Rattle.rec_tools.specs.declared.request.EditRequest.{EditRequest}
use Rattle.rec_tools.specs.Batches.{AreEdits}
use Rattle.rec_tools.specs.Requests.{IsTaskOf, AreTasks}
use Rattle.rec_tools.specs.Making.{HasNoTaskAt}
use Rattle.rec_text.proofs.lemmas.FaultLemmas.{memory_or_weaker, no_both, same_value}

-- a list of edits is never refused because a store failed
pub no_store_edits : (text : List ℕ) → AreEdits text (Err StoreFailed) → ⊥
no_store_edits text (inl (line, unread, e)) = cc
no_store_edits text (inr (pieces, records, elements, are, inl (edits, ask, e))) = no_both edits StoreFailed (sym e)
no_store_edits text (inr (pieces, records, elements, are, inr (line, none, e))) = cc

-- ---- so far, and one more

tasks-more : (edits : List EditRequest) (tasks : List Task) (edit : EditRequest) (task : Task)
    → AreTasks edits (Ok tasks) → IsTaskOf edit (Ok task) → AreTasks (edits ++ edit ∷ []) (Ok (tasks ++ task ∷ []))
tasks-more [] tasks edit task e is = inr (task, is, inr ([], refl, ap (λ ts. Ok (ts ++ task ∷ [])) (same_value tasks [] e)))
tasks-more (first ∷ edits) tasks edit task (inl (fault, none, e)) is = absurd (no_both tasks fault e)
tasks-more (first ∷ edits) tasks edit task (inr (t, told, inl (fault, none, e))) is = absurd (no_both tasks fault e)
tasks-more (first ∷ edits) tasks edit task (inr (t, told, inr (ts, are, e))) is =
    inr (t, told, inr (ts ++ task ∷ [], tasks-more edits ts edit task are is, ap (λ xs. Ok (xs ++ task ∷ [])) (same_value tasks (t ∷ ts) e)))

-- ---- the first that has none

no_task-after : (edits : List EditRequest) (tasks : List Task) (edit : EditRequest) (rest : List EditRequest) (fault : Fault)
    → AreTasks edits (Ok tasks) → IsTaskOf edit (Err fault) → HasNoTaskAt (edits ++ edit ∷ rest) (length edits) fault
no_task-after [] tasks edit rest fault e none = none
no_task-after (first ∷ edits) tasks edit rest fault (inl (other, refused, e)) none = absurd (no_both tasks other e)
no_task-after (first ∷ edits) tasks edit rest fault (inr (t, told, inl (other, refused, e))) none = absurd (no_both tasks other e)
no_task-after (first ∷ edits) tasks edit rest fault (inr (t, told, inr (ts, are, e))) none =
    (t, told, no_task-after edits ts edit rest fault are none)

-- it decides
pub tasks-refused : (edits : List EditRequest) (index : ℕ) (fault : Fault) → HasNoTaskAt edits index fault → AreTasks edits (Err fault)
tasks-refused [] index fault none = absurd none
tasks-refused (edit ∷ edits) zero fault none = inl (fault, none, refl)
tasks-refused (edit ∷ edits) (suc index) fault (task, told, none) = inr (task, told, inl (fault, tasks-refused edits index fault none, refl))

-- ---- at a place of a list

one_more : (edits : List EditRequest) (i : ℕ) (edit : EditRequest) → i < length edits → edit ≡ get_or edits i edit
    → take (i + 1) edits ≡ take i edits ++ edit ∷ []
one_more edits i edit lt is = take_more edits i edit lt ∙ ap (λ r. take i edits ++ r ∷ []) (sym is)

pub tasks_at : (requests : List EditRequest) (i : ℕ) (request : EditRequest) (edits : List Edit) (edit : Edit)
    → i < length requests → request ≡ get_or requests i request
    → AreTasks (take i requests) (Ok (map task_of edits)) → IsTaskOf request (Ok (task_of edit))
    → AreTasks (take (i + 1) requests) (Ok (map task_of (edits ++ edit ∷ [])))
tasks_at requests i request edits edit lt is so_far told =
    subst (λ rs. AreTasks rs (Ok (map task_of (edits ++ edit ∷ [])))) (sym (one_more requests i request lt is))
    (subst (λ ts. AreTasks (take i requests ++ request ∷ []) (Ok ts)) (sym (map_push task_of edits edit))
    (tasks-more (take i requests) (map task_of edits) request (task_of edit) so_far told))

whole : (edits : List EditRequest) (i : ℕ) (edit : EditRequest) → i < length edits → edit ≡ get_or edits i edit
    → take i edits ++ edit ∷ drop (i + 1) edits ≡ edits
whole edits i edit lt is =
    ap (λ r. take i edits ++ r) (ap (λ x. x ∷ drop (i + 1) edits) is ∙ sym (drop_more edits i edit lt)) ∙ take-append-drop i edits

pub no_task_at : (edits : List EditRequest) (i : ℕ) (edit : EditRequest) (tasks : List Task) (fault : Fault)
    → i < length edits → edit ≡ get_or edits i edit → AreTasks (take i edits) (Ok tasks)
    → IsMemoryOr fault (IsTaskOf edit (Err fault)) → IsMemoryOr fault (HasNoTaskAt edits i fault)
no_task_at edits i edit tasks fault lt is so_far h =
    memory_or_weaker fault _ _ (λ none. subst (λ at. HasNoTaskAt edits at fault) (let short = length-take i edits in omega (arith, short, lt))
    (subst (λ es. HasNoTaskAt es (length (take i edits)) fault) (whole edits i edit lt is)
    (no_task-after (take i edits) tasks edit (drop (i + 1) edits) fault so_far none))) h
