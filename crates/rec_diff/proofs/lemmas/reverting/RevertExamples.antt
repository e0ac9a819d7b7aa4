-- Changes of small texts that can't be taken back.
use Rattle.std.specs.Prelude.{codes}
use Rattle.std.proofs.Common.{ℕ, List, [], ◌∷◌, refl}
use Rattle.rec_journal.specs.declared.event.Tool.TheVariants.{RecSet}
use Rattle.rec_journal.specs.declared.event.EditStep.{EditStep}
use Rattle.rec_diff.specs.Reverts.{NothingReverts}
use Rattle.rec_diff.proofs.lemmas.reverting.RevertLemmas.{none_reverts}

abbrev pub step : ℕ → List ℕ → List ℕ → EditStep
step place old new = record { tool = RecSet; patch = record { at = place; old = old; new = new } ∷ [] }

-- a later edit changed the same line
pub a_later_one_overlaps : NothingReverts (step 0 (codes "a") (codes "b") ∷ []) (codes "a\n") (codes "b\n") (step 0 (codes "b") (codes "c") ∷ []) (codes "c\n")
a_later_one_overlaps =
    none_reverts (step 0 (codes "a") (codes "b") ∷ []) (codes "a\n") (codes "b\n") (step 0 (codes "b") (codes "c") ∷ []) (codes "c\n") ([], codes "\n", codes "\n", refl, refl, refl, refl)
    ([], codes "\n", codes "\n", refl, refl, refl, refl) refl

-- a line went, and later another was put in its place: which of them comes first?
pub a_later_one_puts_beside : NothingReverts (step 0 (codes "a\n") [] ∷ []) (codes "a\nz\n") (codes "z\n") (step 0 [] (codes "b\n") ∷ []) (codes "b\nz\n")
a_later_one_puts_beside =
    none_reverts (step 0 (codes "a\n") [] ∷ []) (codes "a\nz\n") (codes "z\n") (step 0 [] (codes "b\n") ∷ []) (codes "b\nz\n") ([], codes "z\n", codes "z\n", refl, refl, refl, refl)
    ([], codes "z\n", codes "z\n", refl, refl, refl, refl) refl
