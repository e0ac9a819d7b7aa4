-- Edits one after another: each text between is read, the steps lead from the first text to the last, and which edit is
-- refused.
use Rattle.std.proofs.Common.{◌≡◌, ◌∙◌, ℕ, zero, suc, ◌+◌, ◌<◌, length, map, take, drop, get_or, Bool, false, List, [], ◌∷◌, ◌++◌, refl, ap, ap₂, sym, subst, inl, inr, arith, append_assoc, append-nil}
use Rattle.std.proofs.Common.{Option, Some, None, Result, Ok, Err}
use Rattle.std.specs.Prelude.{IfOk, IfErr}
use Rattle.std.specs.List.{AllByRecursion}
use Rattle.std.proofs.lemmas.Int.{clamps}
use Rattle.std.proofs.lemmas.List.{drop-map, drop_more, map_more, take-map}
use Rattle.rec_text.specs.declared.fault.Fault.{Fault}
use Rattle.rec_text.specs.declared.fault.Fault.TheVariants.{BadPattern}
use Rattle.rec_text.specs.Elements.{Piece, text_of, AreElementsOf}
use Rattle.rec_text.specs.Faults.{IsMemoryOr, UnlessMemory}
use Rattle.rec_text.specs.Reading.{IsReading}
use Rattle.rec_text.specs.Steps.{Then}
use Rattle.rec_check.specs.DescribedTexts.{DescribedText, AreDescribed, IsDescribedText}
use Rattle.rec_check.specs.Schemas.{Described, IsSchema}
use Rattle.rec_journal.specs.declared.event.EditStep.{EditStep}
use Rattle.rec_journal.specs.declared.event.Tool.{Tool}
use Rattle.rec_journal.specs.declared.patch.Hunk.{Hunk}
use Rattle.rec_journal.specs.Patch.{Splices}
use Rattle.rec_journal.specs.Revisions.{LeadsBy, AreDone, is_batch}
use Rattle.rec_edit.specs.declared.answer.Edited.{Edited}
use Rattle.rec_edit.specs.declared.answer.RefusedEdit.{RefusedEdit}
use Rattle.rec_edit.specs.declared.outcome.Patched.{Patched}
use Rattle.rec_edit.specs.declared.request.Edit.{Edit}
use Rattle.rec_edit.specs.Task.{Task, task_of, tool_of, insert, replace, delete, comment_out, set, auto_fill}
use Rattle.rec_edit.specs.Script.{edited_text, new_pieces, old_pieces, TakesWhole}
use Rattle.rec_edit.specs.proving.Changes.{hunks_of}
use Rattle.rec_edit.specs.Outcome.{IsEditOf, IsSound, IsSoundUnlessForced, IsEditRefusal, PutsNoDescriptorIn}
use Rattle.rec_edit.specs.Batch.{IsEditOn, step_with, at_most_greatest, both_chosen, with_first, AreSteps, IsBatchOutcome, fault_alone, IsRefusedAt, AreRefusedAt, AreWholeSteps, HaveEffects}
use Rattle.rec_edit.specs.Effect.{HasEffect}
use Rattle.rec_edit.specs.proving.Batches.{untouched, after_edit}
use Rattle.rec_edit.specs.proving.Edits.{edited_by, IsCarriedOut}
use Rattle.rec_text.proofs.lemmas.reading.ReadingLemmas.{one_reading}
use Rattle.rec_text.proofs.lemmas.FaultLemmas.{no_both, same_value, memory_or_weaker}
use Rattle.rec_text.proofs.lemmas.StepLemmas.{Then-ok}
use Rattle.rec_check.proofs.lemmas.laws.SameLemmas.{one_schema}
use Rattle.rec_edit.proofs.lemmas.outcomes.AnswerLemmas.{RefusesSo-edit, RefusesSo-sound, schema_refusal, unless_memory-weaker}
use Rattle.rec_edit.proofs.lemmas.outcomes.EditLemmas.{carried_out, fault_is, is_edited_by, old_pieces-edit, outcome-unruled, script_of_edit}
use Rattle.rec_edit.proofs.lemmas.outcomes.UnruledLemmas.{faithful}
use Rattle.rec_edit.proofs.lemmas.scripts.ScriptLemmas.{Splices-hunks_of, TakesWhole-hunks_of, same_where_no_hunk}

-- an edit is done by a tool of its own
pub is_batch-tool_of : (task : Task) → is_batch (tool_of task) ≡ false
is_batch-tool_of (insert record_type fresh auto) = refl
is_batch-tool_of (replace wanted fresh) = refl
is_batch-tool_of (delete wanted) = refl
is_batch-tool_of (comment_out wanted) = refl
is_batch-tool_of (set wanted list action) = refl
is_batch-tool_of auto_fill = refl

-- ---- one edit of a text that is read

-- the elements of a text and its record sets
pub record IsRead (text : List ℕ) (pieces : List Piece) (schema : Described) : Type 0 where
  pub read : AreElementsOf pieces text
  pub is : IsSchema pieces (Ok schema)

-- the parts of a described text
pub described_parts : (text : List ℕ) (described : DescribedText) → IsDescribedText text (Ok described) → IsRead text described.pieces described.schema
described_parts text described is =
    let reading = Then-ok (IsReading text) AreDescribed described is in
    let sets = Then-ok (IsSchema reading.0) (λ schema answer. answer ≡ Ok (record { pieces = reading.0; schema = schema })) described reading.2 in
    let same : described ≡ record { pieces = reading.0; schema = sets.0 } = same_value described _ sets.2 in
    let whole : IsRead text reading.0 sets.0 = record { read = reading.1; is = sets.1 } in
    subst (λ (d : DescribedText). IsRead text d.pieces d.schema) (sym same) whole

-- they describe it
pub read_is_described : (text : List ℕ) (pieces : List Piece) (schema : Described) → IsRead text pieces schema → IsDescribedText text (Ok (record { pieces = pieces; schema = schema }))
read_is_described text pieces schema there = inr (pieces, there.read, inr (schema, there.is, refl))

-- a text that isn't read keeps no rules
refused_reading : (text : List ℕ) (fault : Fault) → IsDescribedText text (Err fault) → IsSound text (Err fault)
refused_reading text fault (inl (other, unread, e)) = let one : other ≡ fault = cc in inl (fault, inl (subst (λ f. IsReading text (Err f)) one unread), refl)
refused_reading text fault (inr (pieces, read, inl (other, bad, e))) = let one : other ≡ fault = cc in inl (fault, inr (pieces, read, subst (λ f. IsSchema pieces (Err f)) one bad), refl)
refused_reading text fault (inr (pieces, read, inr (schema, is, e))) = absurd (no_both _ fault (sym e))

pub unsound_unread : (text : List ℕ) (fault : Fault) → IsMemoryOr fault (IsDescribedText text (Err fault)) → IsMemoryOr fault (IsSound text (Err fault))
unsound_unread text fault is = memory_or_weaker fault (IsDescribedText text (Err fault)) (IsSound text (Err fault)) (refused_reading text fault) is

-- what holds of an edit of a text
pub record IsFaithfulOn (task : Task) (text : List ℕ) (edited : Patched) : Type 0 where
  pub leads : Splices edited.patch text edited.text
  pub same : edited.patch ≡ [] → text ≡ edited.text
  pub unchanged : edited.text ≡ text → edited.patch ≡ []
  pub pieces : List Piece
  pub schema : Described
  pub read : IsRead edited.text pieces schema
  pub before : DescribedText
  pub is_before : IsDescribedText text (Ok before)
  pub elements : AreElementsOf before.pieces text
  pub whole : AllByRecursion (TakesWhole before.pieces) edited.patch
  pub effect : HasEffect before.pieces before.schema task edited.text

pub faithful_on : (force : Bool) (task : Task) (text : List ℕ) (edited : Patched) → IsEditOn force task text (Ok edited) → IsFaithfulOn task text edited
faithful_on force task text edited is =
    let (described, is_described, is_edit) = Then-ok (IsDescribedText text) (λ described. IsEditOf described.pieces described.schema force task) edited is in
    let there = described_parts text described is_described in
    let whole : AreElementsOf described.pieces (text_of described.pieces) = subst (AreElementsOf described.pieces) (sym there.read.joined) there.read in
    let (edit, is_script, by) = script_of_edit described.pieces described.schema task force edited is_edit in
    let of_script = faithful described.pieces described.schema force task whole there.is edit is_script in
    let old_are : old_pieces edit.script ≡ described.pieces = old_pieces-edit described.pieces described.schema force task whole there.is edit is_script in
    let old : text_of (old_pieces edit.script) ≡ text = ap text_of old_are ∙ there.read.joined in
    let holds : IsFaithfulOn task text (edited_by edit) = record {
      leads = subst (λ before. Splices (hunks_of edit.script) before (edited_text edit.script)) old (Splices-hunks_of edit.script);
      same = λ none. sym (same_where_no_hunk edit.script none ∙ old);
      unchanged = λ same. of_script.unchanged (same ∙ sym there.read.joined);
      pieces = new_pieces edit.script;
      schema = of_script.sound.0;
      read = record { read = of_script.read; is = of_script.sound.1 };
      before = described;
      is_before = is_described;
      elements = there.read;
      whole = subst (λ pieces. AllByRecursion (TakesWhole pieces) (hunks_of edit.script)) old_are (TakesWhole-hunks_of edit.script);
      effect = of_script.effect;
    } in
    subst (IsFaithfulOn task text) (sym (is_edited_by described.pieces described.schema force task whole there.is edit edited is_script by)) holds

-- a text that is read has only the refusals of an edit
edit_refusal : (force : Bool) (task : Task) (text : List ℕ) (pieces : List Piece) (schema : Described) (fault : Fault) → IsRead text pieces schema
    → IsEditOn force task text (Err fault) → IsEditRefusal fault
edit_refusal force task text pieces schema fault there (inr (described, is, refused)) = RefusesSo-edit described.pieces described.schema force task (Err fault) refused
edit_refusal force task text pieces schema fault there (inl (other, inl (unread, is, k), e)) =
    absurd (no_both pieces unread (one_reading text (Ok pieces) (Err unread) there.read is))
edit_refusal force task text pieces schema fault there (inl (other, inr (more, is, inr (sets, are, k)), e)) = absurd (no_both _ other (sym k))
edit_refusal force task text pieces schema fault there (inl (other, inr (more, is, inl (bad, are, k)), e)) =
    let same : more ≡ pieces = same_value more pieces (one_reading text (Ok more) (Ok pieces) is there.read) in
    let refused : IsEditRefusal bad = schema_refusal pieces schema there.is bad (subst (λ ps. IsSchema ps (Err bad)) same are) in
    let one : bad ≡ fault = cc in
    subst IsEditRefusal one refused

-- ---- all edits

-- the parts of what a first edit and those after it make
record AreParts (force : Bool) (task : Task) (tasks : List Task) (text : List ℕ) (made : Edited) : Type 0 where
  first : Patched
  is : IsEditOn force task text (Ok first)
  rest : Edited
  are : AreSteps force tasks first.text (Ok rest)
  joins : made ≡ with_first task first rest

parts_of : (force : Bool) (task : Task) (tasks : List Task) (text : List ℕ) (made : Edited) → AreSteps force (task ∷ tasks) text (Ok made) → AreParts force task tasks text made
parts_of force task tasks text made steps =
    let first = Then-ok (IsEditOn force task text) (λ edited. Then (AreSteps force tasks edited.text) (λ rest answer. answer ≡ Ok (with_first task edited rest))) made steps in
    let others = Then-ok (AreSteps force tasks first.0.text) (λ rest answer. answer ≡ Ok (with_first task first.0 rest)) made first.2 in
    record { first = first.0; is = first.1; rest = others.0; are = others.1; joins = same_value made (with_first task first.0 others.0) others.2 }

same_made : (a b : List EditStep) (text : List ℕ) (m n : ℕ) (k l : Option ℕ) → a ≡ b → m ≡ n → k ≡ l
    → ◌≡◌ {A = Edited} (record { steps = a; text = text; changed = m; chosen = k }) (record { steps = b; text = text; changed = n; chosen = l })
same_made a b text m n k l steps changed chosen =
    ap₂ (λ s c. record { steps = s; text = text; changed = c; chosen = k }) steps changed ∙ ap (λ c. record { steps = b; text = text; changed = n; chosen = c }) chosen

sum_of_one : (a : ℕ) → at_most_greatest (a + 0) ≡ at_most_greatest (0 + a)
sum_of_one a = omega (arith, clamps)

sum_of_three : (a b c : ℕ) → at_most_greatest (a + at_most_greatest (b + c)) ≡ at_most_greatest (at_most_greatest (a + b) + c)
sum_of_three a b c = omega (arith, clamps)

chosen_of_one : (a : Option ℕ) → both_chosen a None ≡ a
chosen_of_one None = refl
chosen_of_one (Some n) = refl

chosen_of_three : (a b c : Option ℕ) → both_chosen a (both_chosen b c) ≡ both_chosen (both_chosen a b) c
chosen_of_three None b c = refl
chosen_of_three (Some n) None c = refl
chosen_of_three (Some n) (Some m) None = refl
chosen_of_three (Some n) (Some m) (Some k) = ap Some (sum_of_three n m k)

module _ (force : Bool) (task : Task) where
  -- edits with one more after them
  pub with_last : (tasks : List Task) (text : List ℕ) (done : Edited) (last : Patched) → AreSteps force tasks text (Ok done) → IsEditOn force task done.text (Ok last)
      → AreSteps force (tasks ++ task ∷ []) text (Ok (after_edit done (tool_of task) last))
  with_last [] text done last is made =
      let begun : done ≡ untouched text = same_value done (untouched text) is in
      subst (λ (d : Edited). AreSteps force (task ∷ []) text (Ok (after_edit d (tool_of task) last))) (sym begun)
      (inr (
        last,
        subst (λ (d : Edited). IsEditOn force task d.text (Ok last)) begun made,
        inr (
          untouched last.text,
          refl,
          ap Ok (sym (same_made _ _ last.text _ _ _ _ (append-nil (step_with (tool_of task) last.patch)) (sum_of_one last.changed) (chosen_of_one last.chosen))),
        ),
      ))
  with_last (one ∷ tasks) text done last is made =
      let parts = parts_of force one tasks text done is in
      let rest = with_last tasks parts.first.text parts.rest last parts.are (subst (λ (d : Edited). IsEditOn force task d.text (Ok last)) parts.joins made) in
      subst (λ (d : Edited). AreSteps force (one ∷ (tasks ++ task ∷ [])) text (Ok (after_edit d (tool_of task) last))) (sym parts.joins)
      (inr (
        parts.first,
        parts.is,
        inr (
          after_edit parts.rest (tool_of task) last,
          rest,
          ap Ok (same_made _ _ last.text _ _ _ _ (append_assoc (step_with (tool_of one) parts.first.patch) parts.rest.steps (step_with (tool_of task) last.patch))
              (sym (sum_of_three parts.first.changed parts.rest.changed last.changed)) (sym (chosen_of_three parts.first.chosen parts.rest.chosen last.chosen))),
        ),
      ))

  -- the edits before one are made, and it is refused
  refused_next : (i : ℕ) (tasks left : List Task) (text : List ℕ) (done : Edited) (fault : Fault) → AreSteps force (take i tasks) text (Ok done) → drop i tasks ≡ task ∷ left
      → IsEditOn force task done.text (Err fault) → IsRefusedAt force tasks text i fault
  refused_next zero [] left text done fault is next refused = absurd (cc)
  refused_next zero (one ∷ tasks) left text done fault is next refused =
      let begun : done ≡ untouched text = same_value done (untouched text) is in
      let same : task ≡ one = cc in
      subst (λ t. IsEditOn force t text (Err fault)) same (subst (λ (d : Edited). IsEditOn force task d.text (Err fault)) begun refused)
  refused_next (suc i) [] left text done fault is next refused = absurd (cc)
  refused_next (suc i) (one ∷ tasks) left text done fault is next refused =
      let parts = parts_of force one (take i tasks) text done is in
      (parts.first, parts.is, refused_next i tasks left parts.first.text parts.rest fault parts.are next (subst (λ (d : Edited). IsEditOn force task d.text (Err fault)) parts.joins refused))

leads-step_with : (tool : Tool) (hunks : List Hunk) (steps : List EditStep) (before between after : List ℕ) → Splices hunks before between → (hunks ≡ [] → before ≡ between)
    → LeadsBy steps between after → LeadsBy (step_with tool hunks ++ steps) before after
leads-step_with tool [] steps before between after splices same leads = subst (λ t. LeadsBy steps t after) (sym (same refl)) leads
leads-step_with tool (hunk ∷ hunks) steps before between after splices same leads = (between, splices, leads)

done-step_with : (tool : Tool) (hunks : List Hunk) (steps : List EditStep) → is_batch tool ≡ false → AreDone steps → AreDone (step_with tool hunks ++ steps)
done-step_with tool [] steps by_one_tool done = done
done-step_with tool (hunk ∷ hunks) steps by_one_tool done = (((λ none. cc), by_one_tool), done)

whole-step_with : (tool : Tool) (hunks : List Hunk) (steps : List EditStep) (before between : List ℕ) (pieces : List Piece) → Splices hunks before between → (hunks ≡ [] → before ≡ between)
    → (between ≡ before → hunks ≡ []) → AreElementsOf pieces before → AllByRecursion (TakesWhole pieces) hunks → AreWholeSteps steps between → AreWholeSteps (step_with tool hunks ++ steps) before
whole-step_with tool [] steps before between pieces splices same unchanged elements whole are = subst (AreWholeSteps steps) (sym (same refl)) are
whole-step_with tool (hunk ∷ hunks) steps before between pieces splices same unchanged elements whole are = (
  between,
  record { leads = splices; changes = λ e. let none = unchanged e in cc; pieces = pieces; elements = elements; whole = whole },
  are,
)

module _ (force : Bool) where
  steps_lead : (tasks : List Task) (text : List ℕ) (made : Edited) → AreSteps force tasks text (Ok made) → LeadsBy made.steps text made.text
  steps_lead [] text made is = subst (λ (m : Edited). LeadsBy m.steps text m.text) (sym (same_value made (untouched text) is)) refl
  steps_lead (task ∷ tasks) text made is =
      let parts = parts_of force task tasks text made is in
      let holds = faithful_on force task text parts.first parts.is in
      subst (λ (m : Edited). LeadsBy m.steps text m.text) (sym parts.joins)
      (leads-step_with (tool_of task) parts.first.patch parts.rest.steps text parts.first.text parts.rest.text holds.leads holds.same
      (steps_lead tasks parts.first.text parts.rest parts.are))

  steps_are_done : (tasks : List Task) (text : List ℕ) (made : Edited) → AreSteps force tasks text (Ok made) → AreDone made.steps
  steps_are_done [] text made is = subst (λ (m : Edited). AreDone m.steps) (sym (same_value made (untouched text) is)) tt
  steps_are_done (task ∷ tasks) text made is =
      let parts = parts_of force task tasks text made is in
      subst (λ (m : Edited). AreDone m.steps) (sym parts.joins)
      (done-step_with (tool_of task) parts.first.patch parts.rest.steps (is_batch-tool_of task) (steps_are_done tasks parts.first.text parts.rest parts.are))

  steps_are_whole : (tasks : List Task) (text : List ℕ) (made : Edited) → AreSteps force tasks text (Ok made) → AreWholeSteps made.steps text
  steps_are_whole [] text made is = subst (λ (m : Edited). AreWholeSteps m.steps text) (sym (same_value made (untouched text) is)) tt
  steps_are_whole (task ∷ tasks) text made is =
      let parts = parts_of force task tasks text made is in
      let holds = faithful_on force task text parts.first parts.is in
      subst (λ (m : Edited). AreWholeSteps m.steps text) (sym parts.joins)
      (whole-step_with (tool_of task) parts.first.patch parts.rest.steps text parts.first.text holds.before.pieces holds.leads holds.same holds.unchanged holds.elements holds.whole
      (steps_are_whole tasks parts.first.text parts.rest parts.are))

  steps_have_effects : (tasks : List Task) (text : List ℕ) (made : Edited) → AreSteps force tasks text (Ok made) → HaveEffects tasks text made.text
  steps_have_effects [] text made is = ap (λ (m : Edited). m.text) (sym (same_value made (untouched text) is))
  steps_have_effects (task ∷ tasks) text made is =
      let parts = parts_of force task tasks text made is in
      let holds = faithful_on force task text parts.first parts.is in
      subst (λ (m : Edited). HaveEffects (task ∷ tasks) text m.text) (sym parts.joins)
      (holds.before, parts.first.text, holds.is_before, holds.effect, steps_have_effects tasks parts.first.text parts.rest parts.are)

  -- the last text is read
  last_is_read : (tasks : List Task) (text : List ℕ) (pieces : List Piece) (schema : Described) (made : Edited) → IsRead text pieces schema
      → AreSteps force tasks text (Ok made) → (last : List Piece) × (sets : Described) × IsRead made.text last sets
  last_is_read [] text pieces schema made there is =
      (pieces, schema, subst (λ (m : Edited). IsRead m.text pieces schema) (sym (same_value made (untouched text) is)) there)
  last_is_read (task ∷ tasks) text pieces schema made there is =
      let parts = parts_of force task tasks text made is in
      let next = faithful_on force task text parts.first parts.is in
      let last = last_is_read tasks parts.first.text next.pieces next.schema parts.rest next.read parts.are in
      (last.0, last.1, subst (λ (m : Edited). IsRead m.text last.0 last.1) (sym parts.joins) last.2)

  refusal_at : (tasks : List Task) (text : List ℕ) (pieces : List Piece) (schema : Described) (index : ℕ) (fault : Fault) → IsRead text pieces schema
      → IsRefusedAt force tasks text index fault → IsEditRefusal fault
  refusal_at [] text pieces schema index fault there is = absurd is
  refusal_at (task ∷ tasks) text pieces schema zero fault there is = edit_refusal force task text pieces schema fault there is
  refusal_at (task ∷ tasks) text pieces schema (suc index) fault there (edited, made, is) =
      let next = faithful_on force task text edited made in
      refusal_at tasks edited.text next.pieces next.schema index fault next.read is

  -- an edit that is refused refuses them all
  steps_refused_at : (tasks : List Task) (text : List ℕ) (index : ℕ) (fault : Fault) → IsRefusedAt force tasks text index fault → AreSteps force tasks text (Err fault)
  steps_refused_at [] text index fault is = absurd is
  steps_refused_at (task ∷ tasks) text zero fault is = inl (fault, is, refl)
  steps_refused_at (task ∷ tasks) text (suc index) fault (edited, made, is) = inr (edited, made, inl (fault, steps_refused_at tasks edited.text index fault is, refl))

  -- ---- what they come to

  module _ (tasks : List Task) (text : List ℕ) where
    outcome_refused : (index : Option ℕ) (fault : Fault) → AreRefusedAt force tasks text index fault → IsBatchOutcome force tasks text (Err fault)
    outcome_refused (Some index) fault is = inl (fault, steps_refused_at tasks text index fault is, refl)
    outcome_refused None fault (made, are, unsound) = inr (made, are, inl (fault, unsound, refl))

    outcome_refusal : (pieces : List Piece) (schema : Described) → IsRead text pieces schema → (index : Option ℕ) (fault : Fault) → AreRefusedAt force tasks text index fault → IsEditRefusal fault
    outcome_refusal pieces schema there (Some index) fault is = refusal_at tasks text pieces schema index fault there is
    outcome_refusal pieces schema there None fault (made, are, unsound) =
        let last = last_is_read tasks text pieces schema made there are in
        RefusesSo-sound made.text last.0 last.1 last.2.read last.2.is force (Err fault) unsound

    module _ (made : Edited) (are : AreSteps force tasks text (Ok made)) where
      pub kept_outcome : IsSoundUnlessForced force made.text (Ok tt) → IsBatchOutcome force tasks text (Ok made)
      kept_outcome sound = inr (made, are, inr (tt, sound, refl))

      module _ (unforced : force ≡ false) (last : List ℕ) (same : last ≡ made.text) where
        pub sound_outcome : IsSound last (Ok tt) → IsBatchOutcome force tasks text (Ok made)
        sound_outcome sound = kept_outcome (subst (λ f. IsSoundUnlessForced f made.text (Ok tt)) (sym unforced) (subst (λ t. IsSound t (Ok tt)) same sound))

        pub unsound_outcome : (fault : Fault) → IsMemoryOr fault (IsSound last (Err fault)) → IsMemoryOr fault (AreRefusedAt force tasks text None fault)
        unsound_outcome fault is =
            memory_or_weaker fault (IsSound last (Err fault)) (AreRefusedAt force tasks text None fault)
            (λ unsound. (made, are, subst (λ f. IsSoundUnlessForced f made.text (Err fault)) (sym unforced) (subst (λ t. IsSound t (Err fault)) same unsound))) is

    steps_of_outcome : (made : Edited) → IsBatchOutcome force tasks text (Ok made) → AreSteps force tasks text (Ok made)
    steps_of_outcome made is =
        let first = Then-ok (AreSteps force tasks text) (λ made. Then (IsSoundUnlessForced force made.text) (λ _ answer. answer ≡ Ok made)) made is in
        let rest = Then-ok (IsSoundUnlessForced force first.0.text) (λ _ answer. answer ≡ Ok first.0) made first.2 in
        subst (λ m. AreSteps force tasks text (Ok m)) (sym (same_value made first.0 rest.2)) first.1

    of_steps : (P : Edited → Type 0) (result : Result Edited RefusedEdit) → ((made : Edited) → AreSteps force tasks text (Ok made) → P made)
        → IfOk result (λ made. IsBatchOutcome force tasks text (Ok made)) → IfOk result P
    of_steps P (Ok made) holds is = holds made (steps_of_outcome made is)
    of_steps P (Err refused) holds is = tt

    module _ (result : Result Edited RefusedEdit) (is : IfOk result (λ made. IsBatchOutcome force tasks text (Ok made))) where
      pub outcome-leads : IfOk result (λ made. LeadsBy made.steps text made.text)
      outcome-leads = of_steps (λ made. LeadsBy made.steps text made.text) result (steps_lead tasks text) is

      pub outcome-changes : IfOk result (λ made. AreDone made.steps)
      outcome-changes = of_steps (λ made. AreDone made.steps) result (steps_are_done tasks text) is

      pub outcome-whole : IfOk result (λ made. AreWholeSteps made.steps text)
      outcome-whole = of_steps (λ made. AreWholeSteps made.steps text) result (steps_are_whole tasks text) is

      pub outcome-effects : IfOk result (λ made. HaveEffects tasks text made.text)
      outcome-effects = of_steps (λ made. HaveEffects tasks text made.text) result (steps_have_effects tasks text) is

    pub outcome-found : (result : Result Edited RefusedEdit) → IfOk result (λ made. IsBatchOutcome force tasks text (Ok made))
        → IfErr result (λ refused. IsMemoryOr refused.fault (AreRefusedAt force tasks text refused.index refused.fault))
        → UnlessMemory (fault_alone result) (IsBatchOutcome force tasks text)
    outcome-found (Ok made) is refused = is
    outcome-found (Err why) is refused = memory_or_weaker why.fault _ (IsBatchOutcome force tasks text (Err why.fault)) (outcome_refused why.index why.fault) refused

    pub outcome-refusals : (pieces : List Piece) (schema : Described) (there : IsRead text pieces schema) (result : Result Edited RefusedEdit)
        → IfErr result (λ refused. IsMemoryOr refused.fault (AreRefusedAt force tasks text refused.index refused.fault)) → IfErr result (λ refused. IsEditRefusal refused.fault)
    outcome-refusals pieces schema there (Ok made) refused = tt
    outcome-refusals pieces schema there (Err why) refused =
        fault_is why.fault (memory_or_weaker why.fault _ (IsEditRefusal why.fault) (outcome_refusal pieces schema there why.index why.fault) refused)

-- ---- what the code makes of a text

module _ (force : Bool) (task : Task) (text : List ℕ) where
  -- it isn't read, or its descriptors aren't
  pub undescribed_edit : (fault : Fault) → IsMemoryOr fault (IsDescribedText text (Err fault)) → IsMemoryOr fault (IsEditOn force task text (Err fault))
  undescribed_edit fault is =
      memory_or_weaker fault (IsDescribedText text (Err fault)) (IsEditOn force task text (Err fault)) (λ undescribed. inl (fault, undescribed, refl)) is

  pub edit_of_described : (described : DescribedText) (result : Result Patched Fault) → IsDescribedText text (Ok described)
      → UnlessMemory result (IsCarriedOut described.pieces described.schema force task) → UnlessMemory result (IsEditOn force task text)
  edit_of_described described result there is =
      let here = described_parts text described there in
      let whole : AreElementsOf described.pieces (text_of described.pieces) = subst (AreElementsOf described.pieces) (sym here.read.joined) here.read in
      unless_memory-weaker result (IsEditOf described.pieces described.schema force task) (IsEditOn force task text) (λ answer edits. inr (described, there, edits))
      (carried_out described.pieces described.schema force task whole here.is result is)

-- an edit of a file that was read
pub edit_of_read : (force : Bool) (task : Task) (text : List ℕ) (pieces : List Piece) (schema : Described) (result : Result Patched Fault) → IsRead text pieces schema
    → UnlessMemory result (IsCarriedOut pieces schema force task) → UnlessMemory result (IsEditOn force task text)
edit_of_read force task text pieces schema result there is = edit_of_described force task text (record { pieces = pieces; schema = schema }) result (read_is_described text pieces schema there) is

-- an edit that puts no descriptor into a text without one keeps its rules
pub unruled_steps : (task : Task) (pieces : List Piece) (schema : Described) (made : Edited) → IsRead (text_of pieces) pieces schema → PutsNoDescriptorIn task → length schema.sets ≡ 1
    → AreSteps false (task ∷ []) (text_of pieces) (Ok made) → IsSound made.text (Ok tt)
unruled_steps task pieces schema made there puts one are =
    let parts = parts_of false task [] (text_of pieces) made are in
    let (described, is_described, is_edit) = Then-ok (IsDescribedText (text_of pieces)) (λ described. IsEditOf described.pieces described.schema false task) parts.first parts.is in
    let here = described_parts (text_of pieces) described is_described in
    let same : described.pieces ≡ pieces = same_value described.pieces pieces (one_reading (text_of pieces) (Ok described.pieces) (Ok pieces) here.read there.read) in
    let is : IsSchema pieces (Ok described.schema) = subst (λ ps. IsSchema ps (Ok described.schema)) same here.is in
    let alike = one_schema pieces (Ok described.schema) (Ok schema) is there.is (no_both described.schema BadPattern) (no_both schema BadPattern) in
    let sound : IsSound parts.first.text (Ok tt) =
    outcome-unruled pieces described.schema task parts.first (subst (λ ps. IsEditOf ps described.schema false task (Ok parts.first)) same is_edit) puts there.read is (ap length alike.0 ∙ one) in
    let last : parts.rest ≡ untouched parts.first.text = same_value parts.rest (untouched parts.first.text) parts.are in
    let end : made.text ≡ parts.first.text = ap (λ (m : Edited). m.text) parts.joins ∙ ap (λ (m : Edited). m.text) last in
    subst (λ t. IsSound t (Ok tt)) (sym end) sound

-- ---- the first edit

pub tasks_of_one : (edits : List Edit) (edit : Edit) → length edits ≡ 1 → edit ≡ get_or edits 0 edit → map task_of edits ≡ task_of edit ∷ []
tasks_of_one [] edit one is = absurd (cc)
tasks_of_one (first ∷ []) edit one is = ap (λ e. task_of e ∷ []) (sym is)
tasks_of_one (first ∷ second ∷ edits) edit one is = absurd (omega (arith, one))

-- ---- the edits that are left

module _ (force : Bool) (edits : List Edit) (text : List ℕ) (done : Edited) where
  -- the edits before this one are made
  pub refused_edit : (i : ℕ) (edit : Edit) (fault : Fault) → i < length edits → edit ≡ get_or edits i edit → AreSteps force (take i (map task_of edits)) text (Ok done)
      → IsMemoryOr fault (IsEditOn force (task_of edit) done.text (Err fault)) → IsMemoryOr fault (IsRefusedAt force (map task_of edits) text i fault)
  refused_edit i edit fault within is are refused =
      let left : drop i (map task_of edits) ≡ task_of edit ∷ map task_of (drop (i + 1) edits) =
      drop-map task_of i edits ∙ ap (map task_of) (drop_more edits i edit within) ∙ ap (λ e. task_of e ∷ map task_of (drop (i + 1) edits)) (sym is) in
      memory_or_weaker fault (IsEditOn force (task_of edit) done.text (Err fault)) (IsRefusedAt force (map task_of edits) text i fault)
      (refused_next force (task_of edit) i (map task_of edits) (map task_of (drop (i + 1) edits)) text done fault are left) refused

pub tasks_with : (edits : List Edit) (i : ℕ) (edit : Edit) → i < length edits → edit ≡ get_or edits i edit → take i (map task_of edits) ++ task_of edit ∷ [] ≡ take (i + 1) (map task_of edits)
tasks_with edits i edit within is =
    ap (λ tasks. tasks ++ task_of edit ∷ []) (take-map task_of i edits) ∙ ap (λ e. map task_of (take i edits) ++ task_of e ∷ []) is
    ∙ sym (map_more task_of edits i edit within) ∙ sym (take-map task_of (i + 1) edits)
