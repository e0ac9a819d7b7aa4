-- What a read that goes on from a put needs is there for its parts.
use Rattle.std.proofs.Common.{◌≡◌, sym, subst, ℕ, Bool, List, Option}
use Rattle.std.specs.Option.{option_and_then}
use Rattle.rec_disk.specs.declared.disk.Disk.{Ghosts as Disk}
use Rattle.rec_disk.specs.Disk.{State, Story, Look}
use Rattle.rec_tools.specs.Home.{unread}
use Rattle.rec_tools.specs.declared.home.Which.{Which}
use Rattle.rec_files.specs.Succeeding.{Kept, IsTold, CanGoOn, HadAll, IsReadable}
use Rattle.rec_files.proofs.lemmas.Succeeding.{still_so}

module _ {D F S : Type 0} (disk : Disk D F S) (kept : Kept) (which : Which) where
  abbrev Had : State → Type 0
  Had = HadAll disk kept (unread which)

  -- the journal that was put last can be let go, or goes on
  pub can_go_on : (path : List ℕ) (o : Option Story) → path ≡ kept.journal → IsTold o Had → IsTold o (CanGoOn disk path kept.last which)
  can_go_on path o is had =
      subst (λ path. IsTold o (CanGoOn disk path kept.last which)) (sym is) (still_so Had (CanGoOn disk kept.journal kept.last which) o (λ s had. had.1) had)

  abbrev Readable : Option (Option Look) → State → Type 0
  Readable seen = IsReadable disk kept.access kept.file kept.journal seen which

  -- and then what is asked for can be read
  pub can_read_still : (seen : Option (Option Look)) (o n : Option Story) → n ≡ o → seen ≡ option_and_then (λ known. known.look) kept.old_file
      → IsTold o Had → IsTold n (Readable seen)
  can_read_still seen o n same is had =
      subst (λ n. IsTold n (Readable seen)) (sym same)
      (subst (λ seen. IsTold o (Readable seen)) (sym is) (still_so Had (Readable (option_and_then (λ known. known.look) kept.old_file)) o (λ s had. had.0) had))
