-- What an edit makes of a text, by its kind; its hunks are its script's changes.
use Rattle.std.proofs.Common.{◌≡◌, ℕ, ◌≤◌, Bool, false, List, length, refl, ap, sym, subst, inl, inr, Result, Ok, Err, if◌then◌else◌}
use Rattle.std.specs.List.{AllByRecursion}
use Rattle.rec_text.specs.Elements.{Piece, IsElement, text_of, AreElementsOf}
use Rattle.rec_journal.specs.declared.event.Event.TheVariants.{Edited as Revised}
use Rattle.rec_journal.specs.Bound.{most_bytes, most_of_batch}
use Rattle.rec_journal.specs.Revisions.{all_hunks}
use Rattle.rec_journal.specs.Event.{spelling}
use Rattle.rec_edit.specs.Outcome.{HunksAreChanges, IsMade, made_of, EditScript, IsEditScript, IsSound, IsEditedBy, IsEditOf, IsEditRefusal, PutsNoDescriptorIn}
use Rattle.rec_edit.specs.Script.{Part, old_pieces, AreChangesOf}
use Rattle.rec_edit.specs.proving.Changes.{hunks_of}
use Rattle.rec_text.specs.declared.fault.Fault.{Fault}
use Rattle.rec_text.specs.declared.fault.Fault.TheVariants.{OutOfMemory}
use Rattle.rec_text.specs.Faults.{IsMemoryOr, UnlessMemory}
use Rattle.rec_check.specs.Schemas.{Described, IsSchema}
use Rattle.rec_edit.specs.declared.outcome.Patched.{Patched}
use Rattle.rec_edit.specs.Task.{Task}
use Rattle.rec_edit.specs.proving.Edits.{edited_by, IsCarriedOut}
use Rattle.rec_edit.specs.proving.Laying.{IsMadeOf}
use Rattle.rec_edit.specs.Blocks.{Block, is_selected}
use Rattle.rec_text.specs.Steps.{Then}
use Rattle.std.specs.Prelude.{Some}
use Rattle.rec_edit.proofs.lemmas.scripts.ChangeLemmas.{changes_of_script, full_parts}
use Rattle.rec_journal.proofs.lemmas.events.BoundLemmas.{events_are_bounded}
use Rattle.rec_edit.proofs.lemmas.outcomes.UnruledLemmas.{faithful, unruled_edit_is_sound}
use Rattle.rec_edit.proofs.lemmas.scripts.RunLemmas.{one_list_of_changes}
use Rattle.rec_text.proofs.lemmas.FaultLemmas.{same_value, memory_or_weaker}
use Rattle.rec_text.proofs.lemmas.StepLemmas.{Then-ok}
use Rattle.rec_edit.proofs.lemmas.outcomes.AnswerLemmas.{unless_memory-weaker}
use Rattle.rec_edit.proofs.lemmas.outcomes.OutcomeLemmas.{same_edited}

module _ (pieces : List Piece) (schema : Described) (force : Bool) (task : Task) (elements : AreElementsOf pieces (text_of pieces)) (is_schema : IsSchema pieces (Ok schema)) where
  pub old_pieces-edit : (edit : EditScript) → IsEditScript pieces schema force task (Ok edit) → old_pieces edit.script ≡ pieces
  old_pieces-edit edit is = (faithful pieces schema force task elements is_schema edit is).old

  changes_of_edit : (edit : EditScript) → IsEditScript pieces schema force task (Ok edit) → AreChangesOf edit.script (hunks_of edit.script)
  changes_of_edit edit is =
      let told = faithful pieces schema force task elements is_schema edit is in
      changes_of_script edit.script (full_parts edit.script (subst (AllByRecursion IsElement) (sym told.old) elements.well_formed) told.read.well_formed told.some)

  -- an edit comes to what the code makes of its script
  IsEditedBy-edited_by : (edit : EditScript) → IsEditScript pieces schema force task (Ok edit) → IsEditedBy edit (edited_by edit)
  IsEditedBy-edited_by edit is = record { patch = changes_of_edit edit is; text = refl; changed = refl; chosen = refl }

  pub is_edited_by : (edit : EditScript) (edited : Patched) → IsEditScript pieces schema force task (Ok edit) → IsEditedBy edit edited → edited ≡ edited_by edit
  is_edited_by edit edited is by = same_edited edit edited (edited_by edit) by (IsEditedBy-edited_by edit is)

  is_carried_out : (answer : Result Patched Fault) → IsCarriedOut pieces schema force task answer → IsEditOf pieces schema force task answer
  is_carried_out answer (inl refused) = inl refused
  is_carried_out answer (inr (edit, is, e)) = inr (edit, is, (edited_by edit, IsEditedBy-edited_by edit is, e))

  pub carried_out : (result : Result Patched Fault) → UnlessMemory result (IsCarriedOut pieces schema force task) → UnlessMemory result (IsEditOf pieces schema force task)
  carried_out result is = unless_memory-weaker result (IsCarriedOut pieces schema force task) (IsEditOf pieces schema force task) is_carried_out is

pub hunks_are_changes : HunksAreChanges
hunks_are_changes pieces schema force task edit elements is_schema is =
    let changes = changes_of_edit pieces schema force task elements is_schema edit is in
    record {
      old = old_pieces-edit pieces schema force task elements is_schema edit is;
      new = (faithful pieces schema force task elements is_schema edit is).read;
      hunks = hunks_of edit.script;
      changes = changes;
      only = λ others are. one_list_of_changes edit.script others (hunks_of edit.script) are changes;
      bounded = λ event fits one same. subst (λ hunks. length (spelling (Revised event)) ≤ most_bytes hunks) same
          (subst (λ batch. length (spelling (Revised event)) ≤ (if batch then most_of_batch event.steps else most_bytes (all_hunks event.steps))) one (events_are_bounded (Revised event) fits));
    }

-- ---- what an edit makes of a text, by its kind, and the outcome that it comes to

-- ---- by its kind

-- what is made of the records of a text
pub made-carried_out : (pieces : List Piece) (made : Block → List Part) (selected shown : List ℕ) (edited : Patched) → shown ≡ selected
    → IsMadeOf pieces (Some (length shown)) (is_selected shown) (λ k. made) edited → Then (IsMade pieces made selected) (λ edit answer. answer ≡ Ok (edited_by edit)) (Ok edited)
made-carried_out pieces made selected shown edited same is =
    let (records, are, laid) = subst (λ s. IsMadeOf pieces (Some (length s)) (is_selected s) (λ k. made) edited) same is in
    inr (made_of (Some (length selected)) (is_selected selected) (λ k. made) pieces records, (records, are, refl), ap Ok laid)

-- after a step that isn't refused
pub carried_on : {A : Type 0} (first : Result A Fault → Type 0) (next : A → Result EditScript Fault → Type 0) (a : A) (answer : Result Patched Fault) → first (Ok a)
    → Then (next a) (λ edit answer. answer ≡ Ok (edited_by edit)) answer → Then (Then first next) (λ edit answer. answer ≡ Ok (edited_by edit)) answer
carried_on first next a answer is (inl (fault, refused, e)) = inl (fault, inr (a, is, refused), e)
carried_on first next a answer is (inr (edit, made, e)) = inr (edit, inr (a, is, made), e)

-- a step that is refused
pub refused_first : {A : Type 0} (first : Result A Fault → Type 0) (next : A → Result EditScript Fault → Type 0) (fault : Fault) → IsMemoryOr fault (first (Err fault))
    → IsMemoryOr fault (Then (Then first next) (λ edit answer. answer ≡ Ok (edited_by edit)) (Err fault))
refused_first first next fault is =
    memory_or_weaker fault (first (Err fault)) (Then (Then first next) (λ edit answer. answer ≡ Ok (edited_by edit)) (Err fault)) (λ refused. inl (fault, inl (fault, refused, refl), refl)) is

pub refused_next : {A B : Type 0} (first : Result A Fault → Type 0) (second : A → Result B Fault → Type 0) (next : A → B → Result EditScript Fault → Type 0) (a : A) (fault : Fault) → first (Ok a)
    → IsMemoryOr fault (second a (Err fault)) → IsMemoryOr fault (Then (Then first (λ a. Then (second a) (next a))) (λ edit answer. answer ≡ Ok (edited_by edit)) (Err fault))
refused_next first second next a fault is refused =
    memory_or_weaker fault (second a (Err fault)) (Then (Then first (λ a. Then (second a) (next a))) (λ edit answer. answer ≡ Ok (edited_by edit)) (Err fault))
    (λ no. inl (fault, inr (a, is, inl (fault, no, refl)), refl)) refused

-- ---- what an edit comes to

module _ (pieces : List Piece) (schema : Described) (task : Task) where
  -- the script of an edit
  pub script_of_edit : (force : Bool) (edited : Patched) → IsEditOf pieces schema force task (Ok edited)
      → (edit : EditScript) × IsEditScript pieces schema force task (Ok edit) × IsEditedBy edit edited
  script_of_edit force edited is =
      let (edit, is_script, (made, by, e)) = Then-ok (IsEditScript pieces schema force task) (λ edit answer. (edited : Patched) × IsEditedBy edit edited × (answer ≡ Ok edited)) edited is in
      (edit, is_script, subst (IsEditedBy edit) (sym (same_value edited made e)) by)

  pub outcome-unruled : (edited : Patched) → IsEditOf pieces schema false task (Ok edited) → PutsNoDescriptorIn task → AreElementsOf pieces (text_of pieces) → IsSchema pieces (Ok schema)
      → length schema.sets ≡ 1 → IsSound edited.text (Ok tt)
  outcome-unruled edited is puts elements has one =
      let (edit, is_script, by) = script_of_edit false edited is in
      subst (λ t. IsSound t (Ok tt)) (sym by.text) (unruled_edit_is_sound pieces schema false task edit elements puts has one is_script)

-- memory is one of them
pub fault_is : (fault : Fault) → IsMemoryOr fault (IsEditRefusal fault) → IsEditRefusal fault
fault_is OutOfMemory is = tt
fault_is _ is = is
