-- A whole text as an edit: what is found, that there is one answer, and that no store fails.
use Rattle.std.proofs.Common.{◌≡◌, ◌∙◌, inl, inr, ℕ, Bool, true, false, Option, List, Result, Ok, Err, ap, ap₂, sym, subst, refl}
use Rattle.rec_text.specs.declared.fault.Fault.{Fault}
use Rattle.rec_text.specs.declared.fault.Fault.TheVariants.{StoreFailed}
use Rattle.rec_text.specs.Faults.{IsMemoryOr, UnlessMemory}
use Rattle.rec_text.specs.Steps.{Then}
use Rattle.rec_text.proofs.lemmas.FaultLemmas.{from_fact, memory_or_weaker, ok_is_no_err}
use Rattle.rec_text.proofs.lemmas.StepLemmas.{HasOne, HasOneBut, HasOneBut-of, HasOneBut-Then}
use Rattle.rec_journal.specs.declared.event.EditStep.{EditStep}
use Rattle.rec_journal.specs.declared.event.Tool.TheVariants.{Write as ByWrite}
use Rattle.rec_diff.specs.Comparing.{step_between}
use Rattle.rec_diff.proofs.lemmas.comparing.StepLemmas.{step_leads, step_is_by, step_is_done}
use Rattle.rec_check.specs.DescribedTexts.{DescribedText, IsDescribedText}
use Rattle.rec_edit.specs.Outcome.{IsSoundUnlessForced}
use Rattle.rec_tools.specs.Writing.{IsStill, MayStand, IsWritten, edited_by_lines}
use Rattle.rec_tools.specs.proving.Editing.{HasSteps}
use Rattle.rec_tools.proofs.lemmas.outcomes.AnswerLemmas.{HasOneBut-once_read}
use Rattle.rec_tools.proofs.lemmas.outcomes.EditLemmas.{no_store_sound}
use Rattle.rec_tools.proofs.lemmas.outcomes.LeftLemmas.{told_by}
use Rattle.rec_tools.proofs.lemmas.outcomes.RevertLemmas.{HasOneBut-sound}
use Rattle.rec_tools.proofs.lemmas.printing.PutsLemmas.{no_store_then, no_store_text}

-- ---- the text that it gets

module _ (force : Bool) (text : List ℕ) where
  pub unread : (fault : Fault) → IsMemoryOr fault (IsDescribedText text (Err fault)) → IsMemoryOr fault (MayStand force text (Err fault))
  unread fault h = memory_or_weaker fault _ _ (λ none. inl (fault, none, refl)) h

  module _ (described : DescribedText) (is : IsDescribedText text (Ok described)) where
    pub stands_forced : force ≡ true → MayStand force text (Ok tt)
    stands_forced same = inr (described, is, subst (λ b. IsSoundUnlessForced b text (Ok tt)) (sym same) refl)

    stands_so : force ≡ false → (r : Result (Unit {0}) Fault) → IsSoundUnlessForced false text r → MayStand force text r
    stands_so same r sound = inr (described, is, subst (λ b. IsSoundUnlessForced b text r) (sym same) sound)

    pub stands_sound : force ≡ false → (r : Result (Unit {0}) Fault) → UnlessMemory r (IsSoundUnlessForced false text) → UnlessMemory r (MayStand force text)
    stands_sound same (Ok x) h = stands_so same (Ok x) h
    stands_sound same (Err fault) h = memory_or_weaker fault _ _ (stands_so same (Err fault)) h

-- ---- the edit

module _ (force : Bool) (over : Option (List ℕ)) (text here : List ℕ) where
  pub written-other : (fault : Fault) → IsStill over here (Err fault) → IsMemoryOr fault (IsWritten force over text here (Err fault))
  written-other fault none = from_fact fault _ (inl (fault, none, refl))

  module _ (x : Unit {0}) (still : IsStill over here (Ok x)) where
    pub written-refused : (fault : Fault) → IsMemoryOr fault (MayStand force text (Err fault)) → IsMemoryOr fault (IsWritten force over text here (Err fault))
    written-refused fault h = memory_or_weaker fault _ _ (λ none. inr (x, still, inl (fault, none, refl))) h

    pub written-made : (y : Unit {0}) → MayStand force text (Ok y) → (steps : List EditStep) → steps ≡ step_between ByWrite here text → (copy : List ℕ) → copy ≡ text
        → IsWritten force over text here (Ok (told_by copy ByWrite steps))
    written-made y stands steps are copy same = inr (x, still, inr (y, stands, ap₂ (λ t ss. Ok (told_by t ByWrite ss)) same are))

pub written_steps : (text here : List ℕ) (steps : List EditStep) → steps ≡ step_between ByWrite here text → (copy : List ℕ) → copy ≡ text → HasSteps here (told_by copy ByWrite steps)
written_steps text here steps are copy same =
    subst (λ told. HasSteps here told) (sym (ap₂ (λ t ss. told_by t ByWrite ss) same are)) (record {
      leads = step_leads ByWrite here text;
      changes = λ other. step_is_done ByWrite here text refl (λ e. other (sym e));
      by_tool = λ other. step_is_by ByWrite here text refl;
    })

-- ---- one answer

module _ (force : Bool) (over : Option (List ℕ)) (text here : List ℕ) where
  HasOne-still : HasOne (IsStill over here)
  HasOne-still (Ok x) (Ok y) is is_too = refl
  HasOne-still (Ok x) (Err fault) is is_too = absurd (is_too.1 is)
  HasOne-still (Err fault) (Ok y) is is_too = absurd (is.1 is_too)
  HasOne-still (Err fault) (Err other) is is_too = ap Err (is.0 ∙ sym is_too.0)

  pub HasOneBut-written : HasOneBut (IsWritten force over text here)
  HasOneBut-written =
      HasOneBut-Then (IsStill over here) _ (HasOneBut-of _ HasOne-still) (λ _ _.
      HasOneBut-Then (MayStand force text) _ (HasOneBut-once_read text (IsSoundUnlessForced force text) (HasOneBut-sound force text))
      (λ _ _. HasOneBut-of _ (λ one other e k. e ∙ sym k)))

  -- ---- no refusal because a store failed

  no_store_still : IsStill over here (Err StoreFailed) → ⊥
  no_store_still h = let e = h.0 in cc

  no_store_standing : MayStand force text (Err StoreFailed) → ⊥
  no_store_standing = no_store_then (IsDescribedText text) (λ _. IsSoundUnlessForced force text) (no_store_text text) (λ _. no_store_sound force text)

  pub no_store_written : IsWritten force over text here (Err StoreFailed) → ⊥
  no_store_written =
      no_store_then (IsStill over here) (λ _. Then (MayStand force text) (λ _ answer. answer ≡ Ok (ByWrite, edited_by_lines ByWrite here text))) no_store_still (λ _.
      no_store_then (MayStand force text) (λ _ answer. answer ≡ Ok (ByWrite, edited_by_lines ByWrite here text)) no_store_standing
      (λ _. ok_is_no_err (ByWrite, edited_by_lines ByWrite here text) StoreFailed ⊥))
