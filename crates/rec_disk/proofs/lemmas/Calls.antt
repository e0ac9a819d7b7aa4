-- What is spared where nothing is done, and by a sync; and what stands where nothing moves.
use Rattle.std.proofs.Common.{◌≡◌, ◌⊎◌, ℕ, List, Option, Some, Result, sym, subst}
use Rattle.rec_disk.specs.Disk.{State, Story, Goes, AtAnyMoment, IsSync}
use Rattle.rec_disk.specs.proving.Places.{Avoids, IsUnmoved}
use Rattle.rec_disk.specs.Lasting.{SomeOf, Spares}
use Rattle.rec_disk.proofs.lemmas.Places.{spares_itself, spares-synced}
use Rattle.rec_disk.proofs.lemmas.Moments.{still, by_step, told_always}

pub spares_still : (p : List ℕ) (o n : Option Story) → n ≡ o → AtAnyMoment o n (Spares p)
spares_still p o n same = still (Spares p) o n same (spares_itself p)

pub sync_spares : {F E : Type 0} (p : List ℕ) (m : ℕ) (o n : Option Story) (result : Result F E) → Goes o n result (IsSync m result) → AtAnyMoment o n (Spares p)
sync_spares p m o n result goes =
    by_step (Spares p) (IsSync m result) (λ s. Unit {0}) o n result (spares_itself p) (λ s t u is. subst (Spares p s) (sym is) (spares-synced p s m)) (told_always (λ s. Unit {0}) o (λ s. tt)) goes

pub avoids_unmoved : (p : List ℕ) (m : ℕ) (s t : State) → IsUnmoved s t → Avoids s p m → Avoids t p m
avoids_unmoved p m s t unmoved avoids =
    subst (λ (at : List ℕ → Option ℕ). (Some m ≡ at p) ⊎ SomeOf (λ old. Some m ≡ old p) t.olds → ⊥) (sym unmoved.at)
    (subst (λ (olds : List (List ℕ → Option ℕ)). (Some m ≡ s.at p) ⊎ SomeOf (λ old. Some m ≡ old p) olds → ⊥) (sym unmoved.olds) avoids)
