-- The machine's step is a function of the state and the request.
use Rattle.std.proofs.Common.{arith, ◌≡◌, ◌≢◌, inl, inr, ℕ, ◌-◌, List, [], ◌∷◌, length, if◌then◌else◌, Option, Some, None, Result, Ok, Err, ap, sym, subst, ◌∙◌}
use Rattle.std.proofs.lemmas.Bool.{false≢true}
use Rattle.rec_text.specs.declared.fault.Fault.{Fault}
use Rattle.rec_text.specs.declared.fault.Fault.TheVariants.{BadPattern}
use Rattle.rec_journal.specs.declared.event.Tool.{Tool}
use Rattle.rec_edit.specs.declared.answer.Edited.{Edited}
use Rattle.rec_journal.specs.declared.patch.Direction.{Direction}
use Rattle.rec_journal.specs.declared.patch.Direction.TheVariants.{Forward, Backward}
use Rattle.rec_tools.specs.declared.request.Reply.{Reply}
use Rattle.rec_tools.specs.Printouts.{ComesOut, Told}
use Rattle.rec_tools.specs.Asked.{Printout, AskedChange, editing, moving, reverting, forgetting, adopting, writing, Asked, looking, listing, showing, listing_changes, changing, previewing}
use Rattle.rec_tools.specs.Asked.{Standing, Reading, Reversal, Telling}
use Rattle.rec_tools.specs.Requests.{asked_of}
use Rattle.rec_tools.specs.Steps.{Then}
use Rattle.rec_tools.specs.Outcomes.{edit_reply, revert_reply, write_reply}
use Rattle.rec_tools.specs.Attempts.{Answer}
use Rattle.rec_tools.specs.Machine.{IsChangeStep, IsMachineStep, IsEditStep, IsPutStep, IsMadeStep, IsRevertIn, IsMoveStep, LetsGo, IsShowingStep, IsStepDiff}
use Rattle.rec_tools.specs.States.{Entry, State, lost_entries, standing_at, entries_on, told_edit, told_in}
use Rattle.rec_tools.specs.Laws.{OneStep}
use Rattle.rec_text.proofs.lemmas.FaultLemmas.{no_both}
use Rattle.rec_text.proofs.lemmas.StepLemmas.{HasOneBut, refused_too}
use Rattle.rec_tools.proofs.lemmas.outcomes.OutcomeLemmas.{ChangesOne, MeansOne, one_meaning, same_top}
use Rattle.rec_tools.proofs.lemmas.outcomes.AnswerLemmas.{ReadsOne, HasOneBut-after}
use Rattle.rec_tools.proofs.lemmas.printing.LogLemmas.{one_log, TellsOne}

-- ---- a text is shown in one way

one_shown : (outcome : Result Printout Fault) (one other : Answer) (text printed : List ℕ)
    → ComesOut outcome one text → ComesOut outcome other printed → (one ≡ other) × (text ≡ printed)
one_shown (Ok p) one other text printed is is_too = (is.0 ∙ sym is_too.0, is.1 ∙ sym is_too.1)
one_shown (Err fault) one other text printed is is_too = (is.0 ∙ sym is_too.0, is.1 ∙ sym is_too.1)

shown_of_built : (outcome : Result Printout Fault) (answer : Answer) (printed : List ℕ) → ComesOut outcome answer printed
    → answer ≢ Err BadPattern → outcome ≢ Err BadPattern
shown_of_built (Ok p) answer printed is built = no_both p BadPattern
shown_of_built (Err fault) answer printed is built = refused_too answer fault is.0 built

-- ---- an edit steps in one way

module _ (s : State) where
  one_edit_step : (reply_for : Tool → Edited → Reply) (outcome : Result (Tool × Edited) Fault) (one other : Answer) (t u : State)
      → IsEditStep s reply_for outcome one t → IsEditStep s reply_for outcome other u → (one ≡ other) × (t ≡ u)
  one_edit_step reply_for (Err fault) one other t u is is_too = (is.0 ∙ sym is_too.0, is.1 ∙ sym is_too.1)
  one_edit_step reply_for (Ok made) one other t u (inl is) (inl is_too) = (is.1 ∙ sym is_too.1, is.2 ∙ sym is_too.2)
  one_edit_step reply_for (Ok made) one other t u (inl is) (inr is_too) = absurd (is_too.0 is.0)
  one_edit_step reply_for (Ok made) one other t u (inr is) (inl is_too) = absurd (is.0 is_too.0)
  one_edit_step reply_for (Ok made) one other t u (inr is) (inr is_too) = (is.1 ∙ sym is_too.1, is.2 ∙ sym is_too.2)

  edit_of_built : (reply_for : Tool → Edited → Reply) (outcome : Result (Tool × Edited) Fault) (answer : Answer) (t : State) → IsEditStep s reply_for outcome answer t
      → answer ≢ Err BadPattern → outcome ≢ Err BadPattern
  edit_of_built reply_for (Ok made) answer t is built = no_both made BadPattern
  edit_of_built reply_for (Err fault) answer t is built = refused_too answer fault is.0 built

  one_put_step : (reply_for : Tool → Edited → Reply) (Makes : Result (Tool × Edited) Fault → Type 0) → HasOneBut Makes → (one other : Answer) (t u : State)
      → one ≢ Err BadPattern → other ≢ Err BadPattern → IsPutStep s reply_for Makes one t → IsPutStep s reply_for Makes other u → (one ≡ other) × (t ≡ u)
  one_put_step reply_for Makes has_one one other t u built built_too (outcome, is, step) (also, is_too, step_too) =
      let same = has_one outcome also is is_too (edit_of_built reply_for outcome one t step built) (edit_of_built reply_for also other u step_too built_too) in
      one_edit_step reply_for also one other t u (subst (λ r. IsEditStep s reply_for r one t) same step) step_too

  one_made_step : {X : Type 0} (Reads : Reading X) (reply_for : Tool → Edited → Reply) (Makes : Result (Tool × Edited) Fault → Type 0) → ReadsOne (Reads s.present)
      → HasOneBut Makes → (one other : Answer) (t u : State)
      → one ≢ Err BadPattern → other ≢ Err BadPattern → IsMadeStep s Reads reply_for Makes one t → IsMadeStep s Reads reply_for Makes other u → (one ≡ other) × (t ≡ u)
  one_made_step Reads reply_for Makes reads has_one = one_put_step reply_for (Then (Reads s.present) (λ _. Makes)) (HasOneBut-after (Reads s.present) Makes reads has_one)

  one_revert_in : (Reverts : Reversal) → ((e : Standing) → HasOneBut (Reverts s.present e)) → (found : Option Standing) → HasOneBut (IsRevertIn Reverts s.present found)
  one_revert_in Reverts has_one None = λ one other e k _ _. e ∙ sym k
  one_revert_in Reverts has_one (Some e) = has_one e

-- ---- a move steps in one way

one_move_step : (direction : Direction) (through : Option ℕ) (s : State) (entries : List Entry) (one other : Answer) (t u : State)
    → IsMoveStep direction through s entries one t → IsMoveStep direction through s entries other u → (one ≡ other) × (t ≡ u)
one_move_step direction through s [] one other t u is is_too = (is.0 ∙ sym is_too.0, is.1 ∙ sym is_too.1)
one_move_step direction through s (nearest ∷ others) one other t u (inl is) (inl is_too) = (is.1 ∙ sym is_too.1, is.2 ∙ sym is_too.2)
one_move_step direction through s (nearest ∷ others) one other t u (inl is) (inr is_too) = absurd (false≢true (sym is_too.0 ∙ is.0))
one_move_step direction through s (nearest ∷ others) one other t u (inr is) (inl is_too) = absurd (false≢true (sym is.0 ∙ is_too.0))
one_move_step direction through s (nearest ∷ others) one other t u (inr is) (inr is_too) = (is.1 ∙ sym is_too.1, is.2 ∙ sym is_too.2)

-- ---- forgetting steps in one way

one_letting_go : (older dropped : ℕ) (s : State) (one other : Answer) (t u : State)
    → LetsGo older dropped s one t → LetsGo older dropped s other u → (one ≡ other) × (t ≡ u)
one_letting_go older dropped s one other t u (e, inl is) (k, inl is_too) = (e ∙ sym k, is.1 ∙ sym is_too.1)
one_letting_go older dropped s one other t u (e, inl is) (k, inr is_too) = absurd (omega (arith, is.0, is_too.0))
one_letting_go older dropped s one other t u (e, inr is) (k, inl is_too) = absurd (omega (arith, is.0, is_too.0))
one_letting_go older dropped s one other t u (e, inr is) (k, inr is_too) = (e ∙ sym k, is.1 ∙ sym is_too.1)

-- ---- what edits made is printed in one way

one_showing : (number : Option ℕ) (Tells : Telling) → TellsOne Tells → (found : Option Told) (one other : Answer) (text printed : List ℕ)
    → IsShowingStep number Tells found one text → IsShowingStep number Tells found other printed → (one ≡ other) × (text ≡ printed)
one_showing number Tells tells None one other text printed is is_too = (is.0 ∙ sym is_too.0, is.1 ∙ sym is_too.1)
one_showing number Tells tells (Some e) one other text printed is is_too =
    (is.0 ∙ sym is_too.0, tells Forward e.steps e.before e.after text printed is.1 is_too.1)

not_both_ways : {X : Type 0} (x y : X) (old new : List X) → new ≡ x ∷ old → old ≡ y ∷ new → ⊥
not_both_ways x y old new is is_too = omega (arith, ap length is, ap length is_too)

one_step_diff : (Tells : Telling) → TellsOne Tells → (s t : State) (one other : List ℕ) → IsStepDiff Tells s t one → IsStepDiff Tells s t other → one ≡ other
one_step_diff Tells tells s t one other (inl is) (inl is_too) = is.1 ∙ sym is_too.1
one_step_diff Tells tells s t one other (inl is) (inr is_too) = absurd (is_too.0 is.0)
one_step_diff Tells tells s t one other (inr is) (inl is_too) = absurd (is.0 is_too.0)
one_step_diff Tells tells s t one other (inr (differs, (Forward, entry, top, diff))) (inr (differs_too, (Forward, also, top_too, diff_too))) =
    tells Forward also.steps s.present t.present one other
    (subst (λ (e : Entry). Tells Forward e.steps s.present t.present one) (same_top Forward entry also s.past t.past top top_too) diff) diff_too
one_step_diff Tells tells s t one other (inr (differs, (Backward, entry, top, diff))) (inr (differs_too, (Backward, also, top_too, diff_too))) =
    tells Backward also.steps s.present t.present one other
    (subst (λ (e : Entry). Tells Backward e.steps s.present t.present one) (same_top Backward entry also s.past t.past top top_too) diff) diff_too
one_step_diff Tells tells s t one other (inr (differs, (Forward, entry, top, diff))) (inr (differs_too, (Backward, also, top_too, diff_too))) =
    absurd (not_both_ways entry also s.past t.past top top_too)
one_step_diff Tells tells s t one other (inr (differs, (Backward, entry, top, diff))) (inr (differs_too, (Forward, also, top_too, diff_too))) =
    absurd (not_both_ways also entry s.past t.past top_too top)

-- ---- one step

module _ (s : State) (one other : Answer) (built : one ≢ Err BadPattern) (built_too : other ≢ Err BadPattern) where
  -- a change has one step
  one_change_step : (change : AskedChange) (t u : State) → ChangesOne change → IsChangeStep s change one t → IsChangeStep s change other u → (one ≡ other) × (t ≡ u)
  one_change_step (editing Reads Makes) t u means is is_too =
      one_made_step s Reads (edit_reply s.next 0) (Makes s.present) (means s.present).0 (means s.present).1 one other t u built built_too is is_too
  one_change_step (reverting Reads number Reverts) t u means is is_too =
      one_made_step s Reads (revert_reply number s.next) (IsRevertIn Reverts s.present (standing_at number s)) (means s.present).0
      (one_revert_in s Reverts (means s.present).1 (standing_at number s)) one other t u built built_too is is_too
  one_change_step (moving direction through) t u means is is_too = one_move_step direction through s (entries_on direction s) one other t u is is_too
  one_change_step (forgetting n dropping) t u means is is_too =
      one_letting_go (length s.past - n) (if dropping then lost_entries s else 0) s one other t u is is_too
  one_change_step (adopting old) t u means is is_too = (is.0 ∙ sym is_too.0, is.1 ∙ sym is_too.1)
  one_change_step (writing Makes) t u means is is_too =
      one_put_step s (write_reply s.next 0) (Makes s.present) (means s.present) one other t u built built_too is is_too

  -- what is asked for has one step
  one_step_of : (asked : Asked) (text printed : List ℕ) (t u : State) → MeansOne asked → IsMachineStep s asked one text t → IsMachineStep s asked other printed u
      → (one ≡ other) × (text ≡ printed) × (t ≡ u)
  one_step_of (looking IsText) text printed t u means (outcome, is, shown, e) (also, is_too, shown_too, k) =
      let same = means s.present outcome also is is_too
      (shown_of_built outcome one text shown built) (shown_of_built also other printed shown_too built_too) in
      let both = one_shown also one other text printed (subst (λ r. ComesOut r one text) same shown) shown_too in
      (both.0, both.1, e ∙ sym k)
  one_step_of (showing number Tells) text printed t u means (step, e) (step_too, k) =
      let both = one_showing number Tells means (told_edit number s) one other text printed step step_too in
      (both.0, both.1, e ∙ sym k)
  one_step_of (listing_changes Tells) text printed t u means (is, log, e) (is_too, log_too, k) =
      (is ∙ sym is_too, one_log Tells means (told_in s) text printed log log_too, e ∙ sym k)
  one_step_of (changing change) text printed t u means (step, e) (step_too, k) =
      let same = one_change_step change t u means step step_too in
      (same.0, e ∙ sym k, same.1)
  one_step_of (previewing Tells change) text printed t u means (next, step, diff, e) (later, step_too, diff_too, k) =
      let same = one_change_step change next later means.1 step step_too in
      (same.0, one_step_diff Tells means.0 s later text printed (subst (λ v. IsStepDiff Tells s v text) same.1 diff) diff_too, e ∙ sym k)
  one_step_of listing text printed t u means is is_too = (is.0 ∙ sym is_too.0, is.1 ∙ sym is_too.1, is.2 ∙ sym is_too.2)

pub one_step : OneStep
one_step s request one other text printed t u is is_too built built_too =
    one_step_of s one other built built_too (asked_of request) text printed t u (one_meaning request) is is_too
