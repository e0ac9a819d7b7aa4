-- What a revert makes of a text: there is one answer, and no store fails.
use Rattle.std.proofs.Common.{◌≡◌, inl, inr, ℕ, Bool, true, false, List, Result, Ok, Err, ap, sym, refl, ◌∙◌}
use Rattle.rec_text.specs.declared.fault.Fault.{Fault}
use Rattle.rec_text.specs.declared.fault.Fault.TheVariants.{OutOfMemory, BadPattern, StoreFailed}
use Rattle.rec_text.specs.Steps.{Then}
use Rattle.rec_text.proofs.lemmas.FaultLemmas.{no_both, ok_is_no_err, same_fault}
use Rattle.rec_text.proofs.lemmas.StepLemmas.{HasOne, HasOneBut, HasOneBut-of, HasOneBut-Then, HasOne-Then}
use Rattle.rec_journal.specs.declared.patch.Hunk.{Hunk}
use Rattle.rec_journal.specs.declared.event.Tool.{Tool}
use Rattle.rec_journal.specs.EditTexts.{IsStandingEdit}
use Rattle.rec_journal.specs.History.{Opened, Opens}
use Rattle.rec_journal.specs.Patch.{Splices}
use Rattle.rec_journal.proofs.lemmas.patches.SplicingLemmas.{leads_to_one_text}
use Rattle.rec_journal.proofs.lemmas.texts.StandingLemmas.{one_standing_edit}
use Rattle.rec_diff.proofs.lemmas.reverting.RevertLemmas.{one_revert}
use Rattle.rec_check.specs.DescribedTexts.{IsDescribedText}
use Rattle.rec_check.specs.Violations.{AreViolationsOf}
use Rattle.rec_check.proofs.lemmas.laws.CheckLemmas.{one_check}
use Rattle.rec_edit.specs.declared.answer.Edited.{Edited}
use Rattle.rec_edit.specs.Outcome.{none_of, IsSoundUnlessForced}
use Rattle.rec_tools.specs.Reverting.{TakesBack, AreHunksBack, IsLeft, IsReadable, IsKept, IsReverted, IsRevertOf, edited_back, standing_of, unread}
use Rattle.rec_tools.specs.Asked.{Standing, Reversal}
use Rattle.rec_tools.proofs.lemmas.outcomes.AnswerLemmas.{HasOneBut-once_read}
use Rattle.rec_tools.proofs.lemmas.outcomes.EditLemmas.{no_store_sound}
use Rattle.rec_tools.proofs.lemmas.printing.PutsLemmas.{no_store_then}

-- ---- what is left

module _ (e : Standing) (here : List ℕ) where
  one_back : (one other : List Hunk) → TakesBack e here one → TakesBack e here other → one ≡ other
  one_back one other a b = one_revert e.steps e.before e.after e.later here one other a b

  HasOne-back : HasOne (AreHunksBack e here)
  HasOne-back (Ok one) (Ok other) is is_too = ap Ok (one_back one other is is_too)
  HasOne-back (Ok one) (Err fault) is is_too = absurd (is_too.1 one is)
  HasOne-back (Err fault) (Ok other) is is_too = absurd (is.1 other is_too)
  HasOne-back (Err fault) (Err other) is is_too = ap Err (is.0 ∙ sym is_too.0)

  HasOne-left : HasOne (IsLeft e here)
  HasOne-left =
      HasOne-Then (AreHunksBack e here) _ HasOne-back (λ hunks _ one other (left, leads, is) (also, leads_too, is_too).
      is ∙ ap (λ t. Ok (e.tool, edited_back e hunks t)) (leads_to_one_text.forward hunks here left also leads leads_too) ∙ sym is_too)

-- ---- what must hold of it

-- that a text is read, or isn't
abbrev IsRead : List ℕ → Result (Unit {0}) Fault → Type 0
IsRead text = Then (IsDescribedText text) (λ _ answer. answer ≡ Ok tt)

HasOneBut-read : (text : List ℕ) → HasOneBut (IsRead text)
HasOneBut-read text = HasOneBut-once_read text (λ answer. answer ≡ Ok tt) (λ one other e k _ _. e ∙ sym k)

HasOneBut-readable : {A : Type 0} (text : List ℕ) (step : Result A Fault → Type 0) → HasOneBut step → HasOneBut (Then (IsReadable text) (λ _. step))
HasOneBut-readable text step has_one one other (inl (f, (given, is, e), k)) (inl (g, (also, is_too, e_too), k_too)) built built_too =
    let same = HasOneBut-read text (Err given) (Err also) (inl (given, is, refl)) (inl (also, is_too, refl))
    (λ bad. built (k ∙ ap Err (e ∙ ap unread (same_fault given BadPattern bad)))) (λ bad. built_too (k_too ∙ ap Err (e_too ∙ ap unread (same_fault also BadPattern bad)))) in
    k ∙ ap Err (e ∙ ap unread (same_fault given also same) ∙ sym e_too) ∙ sym k_too
HasOneBut-readable text step has_one one other (inl (f, (given, is, e), k)) (inr (described, is_too, h)) built built_too =
    let same = HasOneBut-read text (Ok tt) (Err given) (inr (described, is_too, refl)) (inl (given, is, refl))
    (no_both tt BadPattern) (λ bad. built (k ∙ ap Err (e ∙ ap unread (same_fault given BadPattern bad)))) in
    absurd (no_both tt given same)
HasOneBut-readable text step has_one one other (inr (described, is, h)) (inl (g, (also, is_too, e_too), k_too)) built built_too =
    let same = HasOneBut-read text (Ok tt) (Err also) (inr (described, is, refl)) (inl (also, is_too, refl))
    (no_both tt BadPattern) (λ bad. built_too (k_too ∙ ap Err (e_too ∙ ap unread (same_fault also BadPattern bad)))) in
    absurd (no_both tt also same)
HasOneBut-readable text step has_one one other (inr (described, is, h)) (inr (also, is_too, h_too)) built built_too = has_one one other h h_too built built_too

pub HasOneBut-sound : (force : Bool) (text : List ℕ) → HasOneBut (IsSoundUnlessForced force text)
HasOneBut-sound true text = λ one other e k _ _. e ∙ sym k
HasOneBut-sound false text =
    HasOneBut-Then (AreViolationsOf text) (λ found answer. answer ≡ none_of found) (one_check text) (λ found _. HasOneBut-of _ (λ one other e k. e ∙ sym k))

-- ---- a revert

pub one_reverted : (force : Bool) (here : List ℕ) (e : Standing) → HasOneBut (IsReverted force here e)
one_reverted force here e =
    HasOneBut-Then (IsLeft e here) _ (HasOneBut-of _ (HasOne-left e here)) (λ told _.
    HasOneBut-Then (IsKept force (told.1).text) _ (HasOneBut-readable (told.1).text (IsSoundUnlessForced force (told.1).text) (HasOneBut-sound force (told.1).text))
    (λ _ _. HasOneBut-of _ (λ one other x y. x ∙ sym y)))

pub one_revert_of : (number : ℕ) (Reverts : Reversal) (o : Opened) (file journal : List ℕ) → Opens file journal o → ((e : Standing) → HasOneBut (Reverts file e))
    → HasOneBut (IsRevertOf number Reverts o file)
one_revert_of number Reverts o file journal opens has_one =
    HasOneBut-Then (IsStandingEdit o file number) (λ found. Reverts file (standing_of found)) (HasOneBut-of _ (one_standing_edit file journal o number opens))
    (λ found _. has_one (standing_of found))

-- ---- no refusal because a store failed

no_store_unread : (given : Fault) → StoreFailed ≡ unread given → ⊥
no_store_unread OutOfMemory e = cc
no_store_unread BadPattern e = cc
no_store_unread _ e = cc

no_store_readable : (text : List ℕ) → IsReadable text (Err StoreFailed) → ⊥
no_store_readable text (given, is, e) = no_store_unread given e

no_store_kept : (force : Bool) (text : List ℕ) → IsKept force text (Err StoreFailed) → ⊥
no_store_kept force text = no_store_then (IsReadable text) (λ _. IsSoundUnlessForced force text) (no_store_readable text) (λ _. no_store_sound force text)

no_store_left : (e : Standing) (here : List ℕ) → IsLeft e here (Err StoreFailed) → ⊥
no_store_left e here =
    no_store_then (AreHunksBack e here) (λ hunks answer. (left : List ℕ) × Splices hunks here left × (answer ≡ Ok (e.tool, edited_back e hunks left)))
    (λ h. (let same = h.0 in cc)) (λ hunks (left, leads, same). ok_is_no_err (e.tool, edited_back e hunks left) StoreFailed ⊥ same)

no_store_reverted : (force : Bool) (here : List ℕ) (e : Standing) → IsReverted force here e (Err StoreFailed) → ⊥
no_store_reverted force here e =
    let last : Tool × Edited → Result (Tool × Edited) Fault → Type 0 = λ told. Then (IsKept force (told.1).text) (λ _ answer. answer ≡ Ok told) in
    no_store_then (IsLeft e here) last (no_store_left e here) (λ told.
    no_store_then (IsKept force (told.1).text) (λ _ answer. answer ≡ Ok told) (no_store_kept force (told.1).text) (λ _. ok_is_no_err told StoreFailed ⊥))

no_store_standing : (number : ℕ) (o : Opened) (file : List ℕ) → IsStandingEdit o file number (Err StoreFailed) → ⊥
no_store_standing number o file (inl drifted) = let e = drifted.0 in cc
no_store_standing number o file (inr none) = let e = none.0 in cc

pub no_store_revert : (number : ℕ) (force : Bool) (o : Opened) (file : List ℕ) → IsRevertOf number (IsReverted force) o file (Err StoreFailed) → ⊥
no_store_revert number force o file =
    no_store_then (IsStandingEdit o file number) (λ found. IsReverted force file (standing_of found)) (no_store_standing number o file)
    (λ found. no_store_reverted force file (standing_of found))
