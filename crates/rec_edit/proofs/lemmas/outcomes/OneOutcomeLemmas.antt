-- Edits have one outcome, whichever way the patterns of their texts were built; a refused pattern may stand aside.
use Rattle.std.proofs.Common.{◌≡◌, ◌≢◌, ℕ, Bool, List, [], ◌∷◌, subst, Result, Ok, Err}
use Rattle.rec_text.specs.declared.fault.Fault.{Fault}
use Rattle.rec_text.specs.declared.fault.Fault.TheVariants.{BadPattern}
use Rattle.rec_text.specs.Faults.{UnlessMemory}
use Rattle.rec_text.proofs.lemmas.FaultLemmas.{memory_or_weaker}
use Rattle.rec_text.proofs.lemmas.StepLemmas.{HasOneBut, HasOneBut-of, HasOne-same, AgreeBut-like, HasOneBut-Then}
use Rattle.rec_check.specs.DescribedTexts.{IsDescribedText}
use Rattle.rec_check.proofs.lemmas.laws.AlikeLemmas.{SameTexts, AgreeLike-described}
use Rattle.rec_edit.specs.declared.answer.Edited.{Edited}
use Rattle.rec_edit.specs.Task.{Task}
use Rattle.rec_edit.specs.Outcome.{IsEditOf, IsSoundUnlessForced}
use Rattle.rec_edit.specs.Batch.{IsEditOn, AreSteps, IsBatchOutcome, EditsHaveOneOutcome}
use Rattle.rec_edit.proofs.lemmas.outcomes.OutcomeLemmas.{AreOne-edit, HasOneBut-sound}

-- ---- one edit of a text

HasOneBut-edit_on : (force : Bool) (task : Task) (text : List ℕ) → HasOneBut (IsEditOn force task text)
HasOneBut-edit_on force task text =
    AgreeBut-like SameTexts (IsDescribedText text) (IsDescribedText text) _ _ (AgreeLike-described text) (λ a b _ _ same one other is is_too _ _.
    AreOne-edit b.pieces a.schema b.schema force task same.1 one other (subst (λ ps. IsEditOf ps a.schema force task one) same.0 is) is_too)

-- ---- all edits

HasOneBut-steps : (force : Bool) (tasks : List Task) (text : List ℕ) → HasOneBut (AreSteps force tasks text)
HasOneBut-steps force [] text = HasOneBut-of _ (HasOne-same _)
HasOneBut-steps force (task ∷ tasks) text =
    HasOneBut-Then (IsEditOn force task text) _ (HasOneBut-edit_on force task text) (λ edited _.
    HasOneBut-Then (AreSteps force tasks edited.text) _ (HasOneBut-steps force tasks edited.text) (λ rest _.
    HasOneBut-of _ (HasOne-same _)))

HasOneBut-batch : (force : Bool) (tasks : List Task) (text : List ℕ) → HasOneBut (IsBatchOutcome force tasks text)
HasOneBut-batch force tasks text =
    HasOneBut-Then (AreSteps force tasks text) _ (HasOneBut-steps force tasks text) (λ made _.
    HasOneBut-Then (IsSoundUnlessForced force made.text) _ (HasOneBut-sound force made.text) (λ _ _. HasOneBut-of _ (HasOne-same _)))

pub edits_have_one_outcome : EditsHaveOneOutcome
edits_have_one_outcome force tasks text one other is is_too built built_too = HasOneBut-batch force tasks text one other is is_too built built_too

pub outcome-only : (force : Bool) (tasks : List Task) (text : List ℕ) (result : Result Edited Fault) → UnlessMemory result (IsBatchOutcome force tasks text)
    → (other : Result Edited Fault) → IsBatchOutcome force tasks text other → other ≢ Err BadPattern
    → UnlessMemory result (λ answer. (answer ≢ Err BadPattern) → answer ≡ other)
outcome-only force tasks text (Ok made) found other is built = λ built_too. edits_have_one_outcome force tasks text (Ok made) other found is built_too built
outcome-only force tasks text (Err fault) found other is built =
    memory_or_weaker fault (IsBatchOutcome force tasks text (Err fault)) ((Err fault ≢ Err BadPattern) → Err fault ≡ other)
    (λ there built_too. edits_have_one_outcome force tasks text (Err fault) other there is built_too built) found
