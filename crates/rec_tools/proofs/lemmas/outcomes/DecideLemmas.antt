-- What an edit and a move come to, once their history was opened and their text was found.
use Rattle.std.proofs.Common.{◌≡◌, ◌≢◌, inl, inr, ℕ, Bool, true, false, List, [], ◌∷◌, ◌++◌, map, append-nil, Option, Some, Result, Ok, Err, sym, ap, ap₂, subst, refl, ◌∙◌}
use Rattle.std.specs.List.{AllByRecursion}
use Rattle.std.proofs.lemmas.Bool.{cases_Bool}
use Rattle.rec_text.specs.declared.fault.Fault.{Fault}
use Rattle.rec_text.specs.declared.fault.Fault.TheVariants.{DigestClash, NoSuchEdit}
use Rattle.rec_text.specs.Elements.{text_of}
use Rattle.rec_text.specs.Faults.{IsMemoryOr, UnlessMemory}
use Rattle.rec_journal.specs.declared.patch.Hunk.{Hunk}
use Rattle.rec_journal.specs.declared.patch.Direction.{Direction}
use Rattle.rec_journal.specs.declared.patch.Direction.TheVariants.{Forward, Backward}
use Rattle.rec_journal.specs.declared.event.EditStep.{EditStep}
use Rattle.rec_journal.specs.declared.event.Revision.{Revision}
use Rattle.rec_journal.specs.declared.event.Tool.{Tool}
use Rattle.rec_journal.specs.declared.event.Tool.TheVariants.{Batch as ByBatch}
use Rattle.rec_journal.specs.declared.plan.Plan.{Plan}
use Rattle.rec_journal.specs.Event.{AreStepsBy}
use Rattle.rec_journal.specs.History.{Opened, Opens, IsOpening}
use Rattle.rec_journal.specs.Revisions.{single_step, is_batch, all_hunks, AreDone, LeadsBy, Leads}
use Rattle.rec_journal.specs.Plans.{ShareDigest, IsEditPlan, IsMovePlan, IsNearest, TellsNearest, edit_to, after_edit_plan, after_move, edits_on}
use Rattle.rec_journal.specs.Numbers.{numbers_on, is_missing}
use Rattle.rec_journal.specs.Stops.{IsSafe}
use Rattle.rec_journal.proofs.lemmas.histories.Countings.{Opens-digest, drifted-empty}
use Rattle.rec_edit.specs.declared.answer.Edited.{Edited}
use Rattle.rec_edit.specs.declared.outcome.Patched.{Patched}
use Rattle.rec_edit.specs.Task.{Task, insert, replace, delete, comment_out, set, auto_fill, tool_of}
use Rattle.rec_edit.specs.Batch.{AreSteps, IsBatchOutcome, step_with}
use Rattle.rec_edit.specs.Outcome.{IsSoundUnlessForced}
use Rattle.rec_check.specs.DescribedTexts.{DescribedText, IsDescribedText}
use Rattle.rec_tools.specs.declared.decision.Decision.{Decision}
use Rattle.rec_tools.specs.declared.decision.Decision.TheVariants.{Put}
use Rattle.rec_tools.specs.declared.request.EditRequest.{EditRequest}
use Rattle.rec_tools.specs.declared.request.Reply.{Reply}
use Rattle.rec_tools.specs.Home.{Contents}
use Rattle.rec_tools.specs.Steps.{Then}
use Rattle.rec_tools.specs.Batches.{AreEdits}
use Rattle.rec_tools.specs.Requests.{IsTaskOf, AreTasks, IsOneEdit, IsBatch, IsMade}
use Rattle.rec_tools.specs.Asked.{moving}
use Rattle.rec_tools.specs.Making.{AreMade}
use Rattle.rec_tools.specs.Outcomes.{Outcome, IsEditOutcome, IsPutOn, IsPutBy, IsChangeOutcome, OnTop, putting, outcome_of, outcome_in, reply_of}
use Rattle.rec_tools.specs.proving.Courses.{HasCourse}
use Rattle.rec_tools.specs.proving.Editing.{HasSteps}
use Rattle.rec_text.proofs.lemmas.FaultLemmas.{memory_or_weaker, no_both, ok_is_no_err, same_fault, same_value}
use Rattle.rec_text.proofs.lemmas.StepLemmas.{Then-ok}
use Rattle.rec_tools.proofs.lemmas.outcomes.OpeningLemmas.{move_differs, none_missing}

-- ---- the steps of edits that are one

single : (tool : Tool) (hunks : List Hunk) → single_step tool hunks ≡ single_step tool (all_hunks (single_step tool hunks))
single tool hunks = ap (single_step tool) (sym (append-nil hunks))

-- a step is one by the tool of its task
by_task : (task : Task) (hunks : List Hunk) → AreStepsBy (tool_of task) (single_step (tool_of task) hunks)
by_task (insert record_type fresh auto) hunks = single _ hunks
by_task (replace wanted fresh) hunks = single _ hunks
by_task (delete wanted) hunks = single _ hunks
by_task (comment_out wanted) hunks = single _ hunks
by_task (set wanted list action) hunks = single _ hunks
by_task auto_fill hunks = single _ hunks

step_by_task : (task : Task) (hunks : List Hunk) → step_with (tool_of task) hunks ++ [] ≢ [] → AreStepsBy (tool_of task) (step_with (tool_of task) hunks ++ [])
step_by_task task [] some = absurd (some refl)
step_by_task task (hunk ∷ hunks) some = by_task task (hunk ∷ hunks)

-- what edits make is what their steps make
made_by_steps : (force : Bool) (tasks : List Task) (text : List ℕ) (made : Edited) → IsBatchOutcome force tasks text (Ok made)
    → AreSteps force tasks text (Ok made)
made_by_steps force tasks text made is =
    let (stepped, are, rest) = Then-ok (AreSteps force tasks text) (λ made. Then (IsSoundUnlessForced force made.text) (λ _ answer. answer ≡ Ok made)) made is in
    let (_, _, same) = Then-ok (IsSoundUnlessForced force stepped.text) (λ _ answer. answer ≡ Ok stepped) made rest in
    subst (λ m. AreSteps force tasks text (Ok m)) (sym (same_value made stepped same)) are

-- the steps of one edit are its own
steps_of_one : (force : Bool) (task : Task) (text : List ℕ) (made : Edited) → AreSteps force (task ∷ []) text (Ok made)
    → (patched : Patched) × (made.steps ≡ step_with (tool_of task) patched.patch ++ [])
steps_of_one force task text made (inl (fault, refused, e)) = absurd (no_both made fault e)
steps_of_one force task text made (inr (patched, is, inl (fault, refused, e))) = absurd (no_both made fault e)
steps_of_one force task text made (inr (patched, is, inr (rest, none, e))) = (
  patched,
  ap (λ (m : Edited). m.steps) (same_value made _ e)
      ∙ ap (λ (m : Edited). step_with (tool_of task) patched.patch ++ m.steps) (same_value rest _ none),
)

-- steps that lead to another text are there
some_steps : (steps : List EditStep) (file text : List ℕ) → LeadsBy steps file text → text ≢ file → steps ≢ []
some_steps steps file text leads other none = other (sym (subst (λ ss. LeadsBy ss file text) none leads))

each_by_one : (steps : List EditStep) → AreDone steps → AllByRecursion (λ step. is_batch step.tool ≡ false) steps
each_by_one [] done = tt
each_by_one (step ∷ steps) done = (done.0.1, each_by_one steps done.1)

-- ---- edits as they are asked for

module _ (force : Bool) (text : List ℕ) where
  -- where one edit is asked for
  module _ (edit : EditRequest) where
    one_of_tasks : (tasks : List Task) → AreTasks (edit ∷ []) (Ok tasks) → (task : Task) × IsTaskOf edit (Ok task) × (tasks ≡ task ∷ [])
    one_of_tasks tasks (inl (fault, none, e)) = absurd (no_both tasks fault e)
    one_of_tasks tasks (inr (task, told, inl (fault, none, e))) = absurd (no_both tasks fault e)
    one_of_tasks tasks (inr (task, told, inr (others, none, e))) =
        (task, told, same_value tasks (task ∷ others) e ∙ ap (λ ts. task ∷ ts) (same_value others [] none))

    no_task : (fault : Fault) → AreTasks (edit ∷ []) (Err fault) → IsTaskOf edit (Err fault)
    no_task fault (inl (other, none, e)) = subst (λ f. IsTaskOf edit (Err f)) (sym (same_fault fault other e)) none
    no_task fault (inr (task, told, inl (other, none, e))) = absurd (no_both {A = List Task} [] other (sym none))
    no_task fault (inr (task, told, inr (others, none, e))) = absurd (no_both (task ∷ others) fault (sym e))

    one_refused : (fault : Fault) → AreMade force (edit ∷ []) text (Err fault) → IsMade (IsOneEdit edit force) text (Err fault)
    one_refused fault (inl (other, none, e)) =
        inl (fault, inl (fault, no_task fault (subst (λ f. AreTasks (edit ∷ []) (Err f)) (sym (same_fault fault other e)) none), refl), refl)
    one_refused fault (inr (tasks, are, refused)) =
        let (task, told, same) = one_of_tasks tasks are in
        inr (_, inr (task, told, refl), inl (fault, subst (λ ts. IsBatchOutcome force ts text (Err fault)) same refused, refl))

    pub one-refused : (fault : Fault) → IsMemoryOr fault (AreMade force (edit ∷ []) text (Err fault))
        → IsMemoryOr fault (IsMade (IsOneEdit edit force) text (Err fault))
    one-refused fault h = memory_or_weaker fault _ _ (one_refused fault) h

    module _ (made : Edited) (is : AreMade force (edit ∷ []) text (Ok made))
        (tool : Tool) (by : (task : Task) → IsTaskOf edit (Ok task) → tool ≡ tool_of task) where
      -- its task, of which this was made
      the_task : (task : Task) × IsTaskOf edit (Ok task) × IsBatchOutcome force (task ∷ []) text (Ok made)
      the_task =
          let (tasks, are, here) = Then-ok (AreTasks (edit ∷ [])) (λ tasks. IsBatchOutcome force tasks text) made is in
          let (task, told, same) = one_of_tasks tasks are in
          (task, told, subst (λ ts. IsBatchOutcome force ts text (Ok made)) same here)

      pub one-made : IsMade (IsOneEdit edit force) text (Ok (tool, made))
      one-made =
          let (task, told, here) = the_task in
          inr (_, inr (task, told, refl), inr (made, here, ap (λ t. Ok (t, made)) (by task told)))

      pub one-steps : LeadsBy made.steps text made.text → AreDone made.steps → HasSteps text (tool, made)
      one-steps leads done =
          let (task, told, here) = the_task in
          let (patched, steps) = steps_of_one force task text made (made_by_steps force (task ∷ []) text made here) in
          record {
            leads = leads;
            changes = λ _. done;
            by_tool = λ other.
                subst (λ t. AreStepsBy t made.steps) (sym (by task told))
                (subst (AreStepsBy (tool_of task)) (sym steps)
                (step_by_task task patched.patch (subst (λ ss. ss ≢ []) steps (some_steps made.steps text made.text leads other))));
          }

  -- where a text lists them
  module _ (batch : List ℕ) where
    pub batch-no_edits : (fault : Fault) → IsMemoryOr fault (AreEdits batch (Err fault)) → IsMemoryOr fault (IsMade (IsBatch batch force) text (Err fault))
    batch-no_edits fault h = memory_or_weaker fault _ _ (λ none. inl (fault, inl (fault, none, refl), refl)) h

    module _ (edits : List EditRequest) (are : AreEdits batch (Ok edits)) where
      batch_answer : (r : Result Edited Fault) (told : Result (Tool × Edited) Fault)
          → ((fault : Fault) → r ≡ Err fault → told ≡ Err fault) → ((made : Edited) → r ≡ Ok made → told ≡ Ok (ByBatch, made))
          → AreMade force edits text r → IsMade (IsBatch batch force) text told
      batch_answer r told refused done (inl (fault, none, e)) = inl (fault, inr (edits, are, inl (fault, none, refl)), refused fault e)
      batch_answer (Ok made) told refused done (inr (tasks, listed, is)) =
          inr (_, inr (edits, are, inr (tasks, listed, refl)), inr (made, is, done made refl))
      batch_answer (Err fault) told refused done (inr (tasks, listed, is)) =
          inr (_, inr (edits, are, inr (tasks, listed, refl)), inl (fault, is, refused fault refl))

      pub batch-refused : (fault : Fault) → IsMemoryOr fault (AreMade force edits text (Err fault)) → IsMemoryOr fault (IsMade (IsBatch batch force) text (Err fault))
      batch-refused fault h =
          memory_or_weaker fault _ _ (batch_answer (Err fault) (Err fault) (λ other e. ap Err (same_fault fault other e)) (λ made e. absurd (no_both made fault (sym e)))) h

      pub batch-made : (made : Edited) → AreMade force edits text (Ok made) → IsMade (IsBatch batch force) text (Ok (ByBatch, made))
      batch-made made is =
          batch_answer (Ok made) (Ok (ByBatch, made)) (λ fault e. absurd (no_both made fault e)) (λ other e. ap (λ m. Ok (ByBatch, m)) (same_value made other e)) is

  pub batch-steps : (made : Edited) → LeadsBy made.steps text made.text → AreDone made.steps → HasSteps text (ByBatch, made)
  batch-steps made leads done = record {
    leads = leads;
    changes = λ _. done;
    by_tool = λ other. (some_steps made.steps text made.text leads other, each_by_one made.steps done);
  }

-- ---- what was read of the text of a file was read of the file

module _ (text file : List ℕ) (same : text ≡ file) where
  pub refused_on_file : (fault : Fault) → IsMemoryOr fault (IsDescribedText text (Err fault)) → IsMemoryOr fault (IsDescribedText file (Err fault))
  refused_on_file fault none = subst (λ t. IsMemoryOr fault (IsDescribedText t (Err fault))) same none

  module _ (read : DescribedText) (is : IsDescribedText text (Ok read)) where
    pub on_file : IsDescribedText file (Ok read)
    on_file = subst (λ t. IsDescribedText t (Ok read)) same is

    -- the elements are those of the file
    pub read_file : text_of read.pieces ≡ file
    read_file = of_read is ∙ same where
      of_read : IsDescribedText text (Ok read) → text_of read.pieces ≡ text
      of_read (inl (fault, unread, e)) = ok_is_no_err read fault _ (sym e)
      of_read (inr (pieces, elements, inl (fault, refused, e))) = ok_is_no_err read fault _ (sym e)
      of_read (inr (pieces, elements, inr (schema, is, e))) = ap (λ (t : DescribedText). text_of t.pieces) (same_value read _ e) ∙ elements.joined

-- ---- what is made of a file with its history

module _ (file journal : List ℕ) (MakesOf : Opened → Result (Tool × Edited) Fault → Type 0) (reply_for : Opened → Tool → Edited → Reply) where
  abbrev on : Contents
  on = record { file = file; journal = journal }

  pub put-no_opening : (fault : Fault) → IsMemoryOr fault (IsOpening file journal (Err fault)) → IsMemoryOr fault (IsPutOn MakesOf reply_for on (Err fault))
  put-no_opening fault h = memory_or_weaker fault _ _ (λ none. inl (fault, none, refl)) h

  module _ (o : Opened) (opens : IsOpening file journal (Ok o)) where
    pub put-refused : (fault : Fault) → IsMemoryOr fault (MakesOf o (Err fault)) → IsMemoryOr fault (IsPutOn MakesOf reply_for on (Err fault))
    put-refused fault h = memory_or_weaker fault _ _ (λ none. inr (o, opens, inl (fault, none, refl))) h

    -- what becomes of it
    module _ (tool : Tool) (made : Edited) (is_made : MakesOf o (Ok (tool, made))) (reply : Reply) (replied : reply ≡ reply_for o tool made) where
      put_ends : (r : Result Outcome Fault) → IsEditOutcome o on tool made reply r → IsPutOn MakesOf reply_for on r
      put_ends r h = inr (o, opens, inr ((tool, made), is_made, subst (λ y. IsEditOutcome o on tool made y r) replied h))

      pub put-made : (r : Result Decision Fault) → UnlessMemory r (λ answer. IsEditOutcome o on tool made reply (outcome_in answer))
          → UnlessMemory r (λ answer. IsPutOn MakesOf reply_for on (outcome_in answer))
      put-made (Ok decision) h = put_ends (Ok (outcome_of decision)) h
      put-made (Err fault) h = memory_or_weaker fault _ _ (put_ends (Err fault)) h

  -- of a file that reads

  pub made-no_text : (fault : Fault) → IsMemoryOr fault (IsDescribedText file (Err fault)) → IsMemoryOr fault (IsPutBy IsDescribedText MakesOf reply_for on (Err fault))
  made-no_text fault h = memory_or_weaker fault _ _ (λ none. inl (fault, none, refl)) h

  module _ (text : DescribedText) (is : IsDescribedText file (Ok text)) where
    once_read : (r : Result Outcome Fault) → IsPutOn MakesOf reply_for on r → IsPutBy IsDescribedText MakesOf reply_for on r
    once_read r put = inr (text, is, put)

    pub made-no_opening : (fault : Fault) → IsMemoryOr fault (IsOpening file journal (Err fault)) → IsMemoryOr fault (IsPutBy IsDescribedText MakesOf reply_for on (Err fault))
    made-no_opening fault h = memory_or_weaker fault _ _ (once_read (Err fault)) (put-no_opening fault h)

    module _ (o : Opened) (opens : IsOpening file journal (Ok o)) where
      pub made-refused : (fault : Fault) → IsMemoryOr fault (MakesOf o (Err fault)) → IsMemoryOr fault (IsPutBy IsDescribedText MakesOf reply_for on (Err fault))
      made-refused fault h = memory_or_weaker fault _ _ (once_read (Err fault)) (put-refused o opens fault h)

      -- what becomes of it
      module _ (tool : Tool) (made : Edited) (is_made : MakesOf o (Ok (tool, made))) (reply : Reply) (replied : reply ≡ reply_for o tool made) where
        pub made-put : (r : Result Decision Fault) → UnlessMemory r (λ answer. IsEditOutcome o on tool made reply (outcome_in answer))
            → UnlessMemory r (λ answer. IsPutBy IsDescribedText MakesOf reply_for on (outcome_in answer))
        made-put (Ok decision) h = once_read (Ok (outcome_of decision)) (put-made o opens tool made is_made reply replied (Ok decision) h)
        made-put (Err fault) h = memory_or_weaker fault _ _ (once_read (Err fault)) (put-made o opens tool made is_made reply replied (Err fault) h)

-- ---- the plan of an edit

-- a plan that is refused, is so where the texts share a digest
clash-digest : (file journal text : List ℕ) (o : Opened) (tool : Tool) (steps : List EditStep) → Opens file journal o → IsEditPlan o journal tool steps text (Err DigestClash) → ShareDigest file text
clash-digest file journal text o tool steps opens same = sym (Opens-digest file journal o opens) ∙ same

only-clash : (o : Opened) (journal : List ℕ) (tool : Tool) (steps : List EditStep) (text : List ℕ) (fault : Fault) → IsEditPlan o journal tool steps text (Err fault) → fault ≡ DigestClash
only-clash o journal tool steps text DigestClash h = refl
only-clash o journal tool steps text _ h = absurd h

module _ (o : Opened) (file journal : List ℕ) (opens : IsOpening file journal (Ok o)) (tool : Tool) (made : Edited) (reply : Reply) (other : made.text ≢ file) where
  abbrev contents_of : Contents
  contents_of = record { file = file; journal = journal }

  clashing : (fault : Fault) → IsEditPlan o journal tool made.steps made.text (Err fault) → IsEditOutcome o contents_of tool made reply (Err fault)
  clashing fault refused =
      let e = only-clash o journal tool made.steps made.text fault refused in (
        other,
        e,
        clash-digest file journal made.text o tool made.steps opens (subst (λ f. IsEditPlan o journal tool made.steps made.text (Err f)) e refused),
      )

  pub put-clash : (fault : Fault) → IsMemoryOr fault (IsEditPlan o journal tool made.steps made.text (Err fault))
      → IsMemoryOr fault (IsEditOutcome o contents_of tool made reply (Err fault))
  put-clash fault h = memory_or_weaker fault _ _ (clashing fault) h

  pub put-planned : (plan : Plan) → LeadsBy made.steps file made.text → IsEditPlan o journal tool made.steps made.text (Ok plan)
      → IsSafe file journal o (after_edit_plan o journal tool made.steps made.text) plan
      → (outcome : Outcome) → outcome ≡ putting plan reply → IsEditOutcome o contents_of tool made reply (Ok outcome)
  put-planned plan leads planned safe outcome is = inr (other, (plan, record { leads = leads; planned = planned; safe = safe }, is))

  -- the edit is the newest of the history that is put in place
  pub put-course : (plan : Plan) → LeadsBy made.steps file made.text → IsEditPlan o journal tool made.steps made.text (Ok plan)
      → IsSafe file journal o (after_edit_plan o journal tool made.steps made.text) plan
      → (decision : Decision) → decision ≡ Put plan.journal (Some (record { text = plan.file; direction = Forward; steps = made.steps })) reply → HasCourse file journal decision
  put-course plan leads planned safe decision is =
      let edit : Revision = edit_to o tool made.text made.steps in
      let related : Leads Forward edit file made.text = record { leads = leads; digest_before = sym (Opens-digest file journal o opens); digest_after = refl } in
      subst (HasCourse file journal) (sym is) (
        edit,
        record {
          differ = λ same. other (sym planned.1 ∙ same);
          here = o;
          opens_here = opens;
          there = after_edit_plan o journal tool made.steps made.text;
          opens_there = safe.next;
          on_top = refl;
          leads = subst (Leads Forward edit file) (sym planned.1) related;
        },
        refl,
      )

-- ---- a move

same_nearest : {x y : Revision} {xs ys : List Revision} → x ∷ xs ≡ y ∷ ys → x ≡ y
same_nearest e = cc

module _ (file journal : List ℕ) (direction : Direction) (through : Option ℕ) where
  abbrev contents : Contents
  contents = record { file = file; journal = journal }

  pub move-no_opening : (fault : Fault) → IsMemoryOr fault (IsOpening file journal (Err fault)) → IsMemoryOr fault (IsChangeOutcome contents (moving direction through) (Err fault))
  move-no_opening fault h = memory_or_weaker fault _ _ (λ none. inl (fault, none, refl)) h

  module _ (o : Opened) (opens : IsOpening file journal (Ok o)) where
    -- a history in which the number that is named is missing has an edit, and so it hasn't drifted
    missing-settled : is_missing through (numbers_on direction o) ≡ true → o.drifted ≡ false
    missing-settled missing =
        elim (cases_Bool o.drifted) [
          | inl drifted ↦ absurd (none_missing through (subst (λ ns. is_missing through ns ≡ true) (ap (map (λ (e : Revision). e.number)) (no_edits direction drifted)) missing))
          | inr settled ↦ settled
        ]
      where
        no_edits : (direction : Direction) → o.drifted ≡ true → edits_on direction o ≡ []
        no_edits Backward drifted = (drifted-empty file journal o opens drifted).0
        no_edits Forward drifted = (drifted-empty file journal o opens drifted).1

    pub move-missing : true ≡ is_missing through (numbers_on direction o) → IsChangeOutcome contents (moving direction through) (Err NoSuchEdit)
    move-missing missing = inr (o, opens, inl (refl, missing-settled (sym missing), sym missing))

    pub move-refused : is_missing through (numbers_on direction o) ≡ false → (fault : Fault) → IsMemoryOr fault (IsMovePlan direction o file journal (Err fault))
        → IsMemoryOr fault (IsChangeOutcome contents (moving direction through) (Err fault))
    move-refused here fault h = memory_or_weaker fault _ _ (λ refused. inr (o, opens, inr (here, refused))) h

    -- where a move is planned, there is an edit that way
    pub move-has_edit : (plan : Plan) → IsMovePlan direction o file journal (Ok plan) → edits_on direction o ≡ [] → ⊥
    move-has_edit plan planned none = let there = planned.1.there in cc

    -- the nearest edit that way comes on top of the edits to take back, or goes from there
    pub move-course : (plan : Plan) → IsMovePlan direction o file journal (Ok plan)
        → ((e : Revision) (others : List Revision) → edits_on direction o ≡ e ∷ others → IsSafe file journal o (after_move direction o journal e others) plan)
        → (steps : List EditStep) (e : Revision) → IsNearest direction o e → steps ≡ e.steps → (reply : Reply)
        → (decision : Decision) → decision ≡ Put plan.journal (Some (record { text = plan.file; direction = direction; steps = steps })) reply → HasCourse file journal decision
    move-course plan planned safe steps e (others, there) of_edit reply decision is =
        let moves = planned.1 in
        let same : e ≡ moves.nearest = same_nearest (sym there ∙ moves.there) in
        subst (HasCourse file journal) (sym is) (
          moves.nearest,
          record {
            differ = move_differs file journal o opens direction moves.nearest moves.others moves.there plan.file moves.leads;
            here = o;
            opens_here = opens;
            there = after_move direction o journal moves.nearest moves.others;
            opens_there = (safe moves.nearest moves.others moves.there).next;
            on_top = on_top direction moves.nearest moves.others moves.there;
            leads = moves.leads;
          },
          of_edit ∙ ap (λ (x : Revision). x.steps) same,
        )
      where
        on_top : (direction : Direction) (e : Revision) (others : List Revision) → edits_on direction o ≡ e ∷ others → OnTop direction e o.past (after_move direction o journal e others).past
        on_top Backward e others there = there
        on_top Forward e others there = refl

    pub move-planned : is_missing through (numbers_on direction o) ≡ false → (plan : Plan) → IsMovePlan direction o file journal (Ok plan)
        → ((e : Revision) (others : List Revision) → edits_on direction o ≡ e ∷ others → IsSafe file journal o (after_move direction o journal e others) plan)
        → (number : ℕ) (tool : Tool) → TellsNearest direction o number tool → (reply : Reply) → reply ≡ reply_of direction number tool
        → (outcome : Outcome) → outcome ≡ putting plan reply → IsChangeOutcome contents (moving direction through) (Ok outcome)
    move-planned here plan planned safe number tool (nearest, others, there, named, by) reply replied outcome put =
        let moves = planned.1 in
        let same : nearest ≡ moves.nearest = same_nearest (sym there ∙ moves.there) in
        inr (
          o,
          opens,
          (
            planned.0,
            here,
            record {
              plan = plan;
              moves = moves;
              safe = safe moves.nearest moves.others moves.there;
              is = put ∙ ap (putting plan) replied ∙ ap₂ (λ n t. putting plan (reply_of direction n t)) named by
                  ∙ ap (λ (e : Revision). putting plan (reply_of direction e.number e.tool)) same;
            },
          ),
        )
