-- What is left of a file without an edit, as it is found: the hunks, the steps, and what must hold of the text.
use Rattle.std.proofs.Common.{arith, ◌≡◌, ◌≢◌, inl, inr, ℕ, Bool, true, false, List, [], ◌∷◌, append-nil, Some, None, Result, Ok, Err, ap, ap₂, sym, subst, refl, ◌∙◌}
use Rattle.std.specs.List.{AllByRecursion}
use Rattle.std.specs.Prelude.{◌-◌, length, slice_get}
use Rattle.rec_text.specs.declared.fault.Fault.{Fault}
use Rattle.rec_text.specs.declared.fault.Fault.TheVariants.{OutOfMemory, BadPattern, Drifted}
use Rattle.rec_text.specs.Faults.{IsMemoryOr, UnlessMemory}
use Rattle.rec_text.proofs.lemmas.FaultLemmas.{memory_or_weaker}
use Rattle.rec_journal.specs.declared.patch.Hunk.{Hunk}
use Rattle.rec_journal.specs.declared.event.EditStep.{EditStep}
use Rattle.rec_journal.specs.declared.event.Tool.{Tool}
use Rattle.rec_journal.specs.declared.event.Tool.TheVariants.{RecIns, RecDel, RecSet, RecFix, Batch, Adopt, Write}
use Rattle.rec_journal.specs.EditTexts.{WithLater, IsStandingEdit}
use Rattle.rec_journal.specs.Event.{AreStepsBy}
use Rattle.rec_journal.specs.History.{Opened}
use Rattle.rec_journal.specs.Patch.{Splices, FindsOnly}
use Rattle.rec_journal.specs.Revisions.{single_step, all_hunks, is_batch}
use Rattle.rec_diff.proofs.lemmas.reverting.RevertLemmas.{reverts_leave_the_rest}
use Rattle.rec_check.specs.DescribedTexts.{DescribedText, IsDescribedText}
use Rattle.rec_edit.specs.declared.answer.Edited.{Edited}
use Rattle.rec_edit.specs.Outcome.{IsSoundUnlessForced}
use Rattle.rec_tools.specs.Reverting.{TakesBack, AreHunksBack, IsLeft, IsReadable, IsKept, IsRevertOf, edited_back, last_tool, standing_of, unread, IsReverted}
use Rattle.rec_tools.specs.Asked.{Standing}
use Rattle.rec_tools.specs.proving.Editing.{HasSteps}

-- ---- the hunks

-- they lead from the text here to one that is left
pub back_leads : (e : Standing) (here : List ℕ) (hunks : List Hunk) → TakesBack e here hunks → (left : List ℕ) × Splices hunks here left
back_leads e here hunks back =
    let rest = reverts_leave_the_rest e.steps e.before e.after e.later here hunks back in
    (rest.left, rest.leads)

-- ---- the steps

single : (tool : Tool) (hunks : List Hunk) → single_step tool hunks ≡ single_step tool (all_hunks (single_step tool hunks))
single tool hunks = ap (single_step tool) (sym (append-nil hunks))

same_some : (one other : EditStep) → Some one ≡ Some other → one ≡ other
same_some one other e = cc

there_is : (step : EditStep) (steps : List EditStep) → slice_get (step ∷ steps) (length steps) ≡ None → ⊥
there_is step [] e = cc
there_is step (more ∷ steps) e = there_is more steps e

-- the last step, by its place
last_of : (tool : Tool) (step last : EditStep) (steps : List EditStep) → slice_get (step ∷ steps) (length steps) ≡ Some last → last_tool tool (step ∷ steps) ≡ last.tool
last_of tool step last [] e = ap (λ (x : EditStep). x.tool) (same_some step last e)
last_of tool step last (more ∷ steps) e = last_of step.tool more last steps e

pub last-some : (tool : Tool) (steps : List EditStep) (last : EditStep) → Some last ≡ slice_get steps (length steps - 1) → last.tool ≡ last_tool tool steps
last-some tool [] last e = absurd cc
last-some tool (step ∷ steps) last e =
    let place : length steps ≡ length (step ∷ steps) - 1 = omega arith in
    sym (last_of tool step last steps (ap (slice_get (step ∷ steps)) place ∙ sym e))

pub last-none : (tool : Tool) (steps : List EditStep) → None ≡ slice_get steps (length steps - 1) → tool ≡ last_tool tool steps
last-none tool [] e = refl
last-none tool (step ∷ steps) e =
    let place : length steps ≡ length (step ∷ steps) - 1 = omega arith in
    absurd (there_is step steps (ap (slice_get (step ∷ steps)) place ∙ sym e))

last_is_no_batch : (tool : Tool) (steps : List EditStep) → steps ≢ [] → AllByRecursion (λ step. is_batch step.tool ≡ false) steps → is_batch (last_tool tool steps) ≡ false
last_is_no_batch tool [] some each = absurd (some refl)
last_is_no_batch tool (step ∷ []) some each = each.0
last_is_no_batch tool (step ∷ more ∷ steps) some each = last_is_no_batch step.tool (more ∷ steps) (λ none. (let e : more ∷ steps ≡ [] = none in cc)) each.1

-- a step by the tool of the last one is one of an edit by the same tool
record IsStepBy (tool : Tool) (steps : List EditStep) (hunks : List Hunk) : Type 0 where
  by : AreStepsBy tool (single_step (last_tool tool steps) hunks)
  no_batch : is_batch (last_tool tool steps) ≡ false

step_by : (tool : Tool) (steps : List EditStep) (hunks : List Hunk) → AreStepsBy tool steps → IsStepBy tool steps hunks
step_by Batch steps hunks (some, each) =
    let no_batch = last_is_no_batch Batch steps some each in
    record { by = ((λ none. cc), (no_batch, tt)); no_batch = no_batch }
step_by RecIns steps hunks is =
    let same = ap (last_tool RecIns) is in
    record { by = subst (λ t. AreStepsBy RecIns (single_step t hunks)) (sym same) (single RecIns hunks); no_batch = ap is_batch same }
step_by RecDel steps hunks is =
    let same = ap (last_tool RecDel) is in
    record { by = subst (λ t. AreStepsBy RecDel (single_step t hunks)) (sym same) (single RecDel hunks); no_batch = ap is_batch same }
step_by RecSet steps hunks is =
    let same = ap (last_tool RecSet) is in
    record { by = subst (λ t. AreStepsBy RecSet (single_step t hunks)) (sym same) (single RecSet hunks); no_batch = ap is_batch same }
step_by RecFix steps hunks is =
    let same = ap (last_tool RecFix) is in
    record { by = subst (λ t. AreStepsBy RecFix (single_step t hunks)) (sym same) (single RecFix hunks); no_batch = ap is_batch same }
step_by Adopt steps hunks is =
    let same = ap (last_tool Adopt) is in
    record { by = subst (λ t. AreStepsBy Adopt (single_step t hunks)) (sym same) (single Adopt hunks); no_batch = ap is_batch same }
step_by Write steps hunks is =
    let same = ap (last_tool Write) is in
    record { by = subst (λ t. AreStepsBy Write (single_step t hunks)) (sym same) (single Write hunks); no_batch = ap is_batch same }

-- hunks that lead to another text are there
some_hunks : (hunks : List Hunk) (here left : List ℕ) → Splices hunks here left → left ≢ here → hunks ≢ []
some_hunks hunks here left leads other none = other (no_change (subst (λ hs. Splices hs here left) none leads)) where
  no_change : Splices [] here left → left ≡ here
  no_change same = sym same

module _ (e : Standing) (here : List ℕ) (hunks : List Hunk) (left : List ℕ) (leads : Splices hunks here left) (by : AreStepsBy e.tool e.steps) where
  pub left-steps : HasSteps here (e.tool, edited_back e hunks left)
  left-steps =
      let step = step_by e.tool e.steps hunks by in
      record {
        leads = (left, leads, refl);
        changes = λ other. ((some_hunks hunks here left leads other, step.no_batch), tt);
        by_tool = λ other. step.by;
      }

-- an edit to this text, and its tool
abbrev pub told_by : List ℕ → Tool → List EditStep → Tool × Edited
told_by left tool steps = (tool, record { steps = steps; text = left; changed = 0; chosen = None })

-- as they are found
module _ (found : WithLater) (here : List ℕ) (hunks : List Hunk) where
  pub not_back : (fault : Fault) → IsMemoryOr fault (AreHunksBack (standing_of found) here (Err fault)) → IsMemoryOr fault (IsLeft (standing_of found) here (Err fault))
  not_back fault h = memory_or_weaker fault _ _ (λ none. inl (fault, none, refl)) h

  module _ (back : AreHunksBack (standing_of found) here (Ok hunks)) where
    pub not_applied : (fault : Fault) → FindsOnly (λ after. Splices hunks here after) (Err fault) → IsMemoryOr fault (IsLeft (standing_of found) here (Err fault))
    not_applied OutOfMemory h = tt
    not_applied Drifted h = let leads = back_leads (standing_of found) here hunks back in absurd (h leads.0 leads.1)
    not_applied _ h = absurd h

    module _ (left : List ℕ) (leads : Splices hunks here left) (tool : Tool) (told : tool ≡ found.made.edit.tool)
        (steps : List EditStep) (are : steps ≡ single_step (last_tool found.made.edit.tool found.made.edit.steps) hunks) where
      same_left : told_by left tool steps ≡ told_by left found.made.edit.tool (single_step (last_tool found.made.edit.tool found.made.edit.steps) hunks)
      same_left = ap₂ (told_by left) told are

      pub left_is : IsLeft (standing_of found) here (Ok (told_by left tool steps))
      left_is = inr (hunks, back, (left, leads, ap Ok same_left))

      pub left_has_steps : AreStepsBy found.made.edit.tool found.made.edit.steps → HasSteps here (told_by left tool steps)
      left_has_steps by = subst (HasSteps here) (sym same_left) (left-steps (standing_of found) here hunks left leads by)

-- ---- what must hold

pub unread_is : (text : List ℕ) (given : Fault) → IsMemoryOr given (IsDescribedText text (Err given)) → IsMemoryOr (unread given) (IsReadable text (Err (unread given)))
unread_is text OutOfMemory is = tt
unread_is text BadPattern is = (BadPattern, is, refl)
unread_is text given is = (given, is, refl)

pub not_kept : (force : Bool) (text : List ℕ) (fault : Fault) → IsMemoryOr fault (IsReadable text (Err fault)) → IsMemoryOr fault (IsKept force text (Err fault))
not_kept force text fault h = memory_or_weaker fault _ _ (λ none. inl (fault, none, refl)) h

module _ (text : List ℕ) (described : DescribedText) (is : IsDescribedText text (Ok described)) where
  pub kept_forced : (force : Bool) → force ≡ true → IsKept force text (Ok tt)
  kept_forced force same = inr (described, is, subst (λ b. IsSoundUnlessForced b text (Ok tt)) (sym same) refl)

  pub kept_sound : (force : Bool) → force ≡ false → (r : Result (Unit {0}) Fault) → UnlessMemory r (IsSoundUnlessForced false text) → UnlessMemory r (IsKept force text)
  kept_sound force same (Ok x) h = inr (described, is, subst (λ b. IsSoundUnlessForced b text (Ok x)) (sym same) h)
  kept_sound force same (Err fault) h = memory_or_weaker fault _ _ (λ none. inr (described, is, subst (λ b. IsSoundUnlessForced b text (Err fault)) (sym same) none)) h

-- ---- a revert

module _ (number : ℕ) (force : Bool) (o : Opened) (file : List ℕ) where
  pub revert-no_edit : (fault : Fault) → IsMemoryOr fault (IsStandingEdit o file number (Err fault)) → IsMemoryOr fault (IsRevertOf number (IsReverted force) o file (Err fault))
  revert-no_edit fault h = memory_or_weaker fault _ _ (λ none. inl (fault, none, refl)) h

  module _ (found : WithLater) (is : IsStandingEdit o file number (Ok found)) where
    pub revert-nothing_left : (fault : Fault) → IsMemoryOr fault (IsLeft (standing_of found) file (Err fault)) → IsMemoryOr fault (IsRevertOf number (IsReverted force) o file (Err fault))
    revert-nothing_left fault h = memory_or_weaker fault _ _ (λ none. inr (found, is, inl (fault, none, refl))) h

    module _ (tool : Tool) (edited : Edited) (left : IsLeft (standing_of found) file (Ok (tool, edited))) where
      pub revert-not_kept : (fault : Fault) → IsMemoryOr fault (IsKept force edited.text (Err fault)) → IsMemoryOr fault (IsRevertOf number (IsReverted force) o file (Err fault))
      revert-not_kept fault h = memory_or_weaker fault _ _ (λ none. inr (found, is, inr ((tool, edited), left, inl (fault, none, refl)))) h

      pub revert-made : (x : Unit {0}) → IsKept force edited.text (Ok x) → IsRevertOf number (IsReverted force) o file (Ok (tool, edited))
      revert-made x kept = inr (found, is, inr ((tool, edited), left, inr (x, kept, refl)))
