-- Small batches by hand.
use Rattle.std.proofs.Common.{◌≡◌, ℕ, ◌+◌, List, [], ◌∷◌, true, false, refl, inl, inr, Some, None, Ok, Err}
use Rattle.rec_text.specs.declared.fault.Fault.{Fault}
use Rattle.rec_journal.specs.declared.event.Tool.TheVariants.{RecSet}
use Rattle.rec_journal.specs.declared.patch.Hunk.{Hunk}
use Rattle.rec_journal.specs.Revisions.{single_step}
use Rattle.rec_edit.specs.Outcome.{IsSound}
use Rattle.rec_edit.specs.Batch.{step_with, at_most_greatest, both_chosen, IsBatchOutcome}
use Rattle.rec_edit.specs.proving.Batches.{untouched}

-- no edit leaves the text as it is, in no step
no_edit : (text : List ℕ) → IsBatchOutcome true [] text (Ok (untouched text))
no_edit text = inr (untouched text, refl, inr (tt, refl, refl))

-- but the rules of the text are tested
broken_before : (text : List ℕ) (fault : Fault) → IsSound text (Err fault) → IsBatchOutcome false [] text (Err fault)
broken_before text fault broken = inr (untouched text, refl, inl (fault, broken, refl))

-- an edit that changes nothing is no step
idle : step_with RecSet [] ≡ []
idle = refl

one_step : (hunk : Hunk) → step_with RecSet (hunk ∷ []) ≡ single_step RecSet (hunk ∷ [])
one_step hunk = refl

-- the count of changed records stays at the greatest number
counted : at_most_greatest (2 + 3) ≡ 5
counted = refl

-- a new record beside two that are selected
selected : both_chosen None (both_chosen (Some 2) None) ≡ Some 2
selected = refl

-- none is
none_selected : both_chosen (Some 0) (Some 0) ≡ Some 0
none_selected = refl

too_many : at_most_greatest (18446744073709551615 + 7) ≡ 18446744073709551615
too_many = refl
