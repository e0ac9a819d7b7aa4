-- The one step from one text to another.
use Rattle.std.proofs.Common.{◌≡◌, ◌≢◌, false, List, ℕ, refl, subst, sym}
use Rattle.rec_journal.specs.declared.event.Tool.{Tool}
use Rattle.rec_journal.specs.declared.patch.Hunk.{Hunk}
use Rattle.rec_journal.specs.Patch.{IsPatch, Splices}
use Rattle.rec_journal.specs.Revisions.{is_batch, AreDone, LeadsBy}
use Rattle.rec_journal.specs.Event.{AreStepsBy}
use Rattle.rec_journal.proofs.lemmas.events.EventLemmas.{AreStepsBy-single}
use Rattle.rec_diff.specs.Comparing.{hunks_between, step_between}
use Rattle.rec_diff.proofs.lemmas.comparing.LeadingLemmas.{hunks_lead_between}

pub step_leads : (tool : Tool) (old new : List ℕ) → LeadsBy (step_between tool old new) old new
step_leads tool old new = (new, (hunks_lead_between old new).splice, refl)

pub step_is_by : (tool : Tool) (old new : List ℕ) → is_batch tool ≡ false → AreStepsBy tool (step_between tool old new)
step_is_by tool old new one = AreStepsBy-single tool (hunks_between old new) one

-- where the texts differ it changes something
pub step_is_done : (tool : Tool) (old new : List ℕ) → is_batch tool ≡ false → old ≢ new → AreDone (step_between tool old new)
step_is_done tool old new one differ =
    ((λ none. differ (subst (λ (hunks : List Hunk). Splices hunks old new) none (hunks_lead_between old new).splice), one), tt)

-- the hunks are a patch
pub hunks_fit : (old new : List ℕ) (hunks : List Hunk) → hunks ≡ hunks_between old new → IsPatch hunks
hunks_fit old new hunks are = subst IsPatch (sym are) (hunks_lead_between old new).is_patch
