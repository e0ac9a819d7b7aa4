-- The file that is put comes next, as long as what stands there is spared.
use Rattle.std.proofs.Common.{◌≡◌, inl, sym, subst, ℕ, Bool, List, Option, Some, None, IsSomeAnd}
use Rattle.rec_disk.specs.declared.disk.Disk.{Ghosts as Disk}
use Rattle.rec_disk.specs.Disk.{State, Story}
use Rattle.rec_disk.specs.Lasting.{Spares, shown}
use Rattle.rec_disk.specs.proving.Places.{IsSettled}
use Rattle.rec_disk.proofs.lemmas.Places.{outlasts_so}
use Rattle.rec_files.specs.Leftovers.{IsStopBetween}
use Rattle.rec_tools.specs.Home.{writes_by}
use Rattle.rec_files.specs.OnDisk.{Sites, IsNext, Recovers, RecoversBy}
use Rattle.rec_files.specs.proving.Recovering.{NextLasts}

module _ (sites : Sites) (journal : List ℕ) where
  shown_next : (file : List ℕ) (bytes : ℕ → List ℕ) (x : Option ℕ) → IsSomeAnd x (λ n. IsStopBetween (bytes n) file journal) → IsSomeAnd (shown bytes x) (λ old. IsStopBetween old file journal)
  shown_next file bytes None next = next
  shown_next file bytes (Some n) next = next

  pub next_settled : (crash : Bool) (file : Option (List ℕ)) (s : State) → IsNext sites journal file s → IsSettled crash sites.file s → NextLasts crash sites journal file s
  next_settled crash None s next settled = tt
  next_settled crash (Some file) s next settled =
      outlasts_so crash (λ old. old ≡ shown s.bytes (s.at sites.file)) (λ old. IsSomeAnd old (λ bytes. IsStopBetween bytes file journal)) s sites.file
      (λ old is. subst (λ old. IsSomeAnd old (λ bytes. IsStopBetween bytes file journal)) (sym is) (shown_next file s.bytes (s.at sites.file) next)) settled

  some_spared : (P Q : ℕ → Type 0) (x y : Option ℕ) → y ≡ x → ((n : ℕ) → y ≡ Some n → P n → Q n) → IsSomeAnd x P → IsSomeAnd y Q
  some_spared P Q None y is so was = absurd was
  some_spared P Q (Some n) y is so was = subst (λ y. IsSomeAnd y Q) (sym is) (so n is was)

  pub next_spared : (file : Option (List ℕ)) (s t : State) → IsNext sites journal file s → Spares sites.file s t → IsNext sites journal file t
  next_spared None s t was same = tt
  next_spared (Some file) s t was same =
      some_spared (λ n. IsStopBetween (s.bytes n) file journal) (λ n. IsStopBetween (t.bytes n) file journal) (s.at sites.file) (t.at sites.file) same.at
      (λ n at is. subst (λ l. IsStopBetween l file journal) (sym (same.bytes n (inl (sym at)))) is) was

  pub recovers_by : {D F S : Type 0} (disk : Disk D F S) (file : Option (List ℕ)) (o n : Option Story) → Recovers disk sites journal file o n → RecoversBy disk sites (writes_by journal file) o n
  recovers_by disk None o n is = is
  recovers_by disk (Some bytes) o n is = is
