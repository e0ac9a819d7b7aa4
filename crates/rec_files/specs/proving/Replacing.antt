-- The steps in which a file and its journal are replaced.
use Rattle.std.specs.Prelude.{◌≡◌, ◌⊎◌, ◌≤◌, ℕ, Bool, true, false, List, length, Option, Some, None, IfSome}
use Rattle.rec_disk.specs.Disk.{State, Story, Look, Told, AtAnyMoment, renamed, folder_synced}
use Rattle.rec_disk.specs.declared.disk.Disk.{Ghosts as Disk}
use Rattle.rec_disk.specs.Lasting.{Spares}
use Rattle.rec_disk.specs.proving.Places.{Outlasts, IsSettled, Waits}
use Rattle.rec_tools.specs.Home.{Contents, Write}
use Rattle.rec_files.specs.OnDisk.{Places, Sites, SecurePut, LastingPut, TouchesOwn, RecoversAt}
use Rattle.rec_files.specs.OnDisk.{or_empty}
use Rattle.rec_files.specs.Succeeding.{IsAsSeen}

-- ---- what was read

abbrev pub AreAsSeen : Places → Option (Option Look) → Option (Option Look) → State → Type 0
AreAsSeen p file journal s = IsAsSeen p.file file s × IsAsSeen p.journal journal s

-- a file stands at a place, and no other program has it locked
pub record IsFreeAt (p : List ℕ) (n : ℕ) (s : State) : Type 0 where
  pub at : s.at p ≡ Some n
  pub free : s.held n ≡ false

-- what stands at a place: nothing, or a file that no other program has locked, and of which this holds
pub record IsFound (p : List ℕ) (P : ℕ → Type 0) (s : State) (found : Option ℕ) : Type 0 where
  pub at : s.at p ≡ found
  pub is : IfSome found (λ n. (s.held n ≡ false) × P n)

-- where this didn't hold before, nothing is changed
abbrev pub OnlyWhere : (State → Type 0) → Option Story → Option Story → Type 0
OnlyWhere P old new = (new ≡ old) ⊎ Told old P

-- both are spared
abbrev pub AreSpared : Places → State → State → Type 0
AreSpared p s t = Spares p.file s t × Spares p.journal s t

-- ---- steps

-- a folder is synced, where it can be
abbrev pub IsSyncing : (List ℕ → List ℕ) → (List ℕ → Bool) → List ℕ → State → State → Type 0
IsSyncing folder syncs d s t = (t ≡ folder_synced folder s d) ⊎ ((t ≡ s) × (syncs d ≡ false))

-- both wait to be put in place
pub record BothWait (sites : Sites) (journal_bytes file_bytes : List ℕ) (t : State) : Type 0 where
  pub journal : Waits t sites.new_journal journal_bytes
  pub file : Waits t sites.new_file file_bytes

-- what stands at a working place is renamed to its place, whose folder is then synced: not yet, maybe not for good,
-- for good
abbrev pub IsPlacing : (List ℕ → List ℕ) → List ℕ → List ℕ → State → State → Type 0
IsPlacing folder w p s u =
    (u ≡ s) ⊎ ((u ≡ renamed s w p) ⊎ (u ≡ folder_synced folder (renamed s w p) (folder p)))

-- it is there, and for good where its folder can be synced
abbrev pub IsPlaced : (List ℕ → List ℕ) → (List ℕ → Bool) → List ℕ → List ℕ → State → State → Type 0
IsPlaced folder syncs w p s t =
    (t ≡ folder_synced folder (renamed s w p) (folder p)) ⊎ ((t ≡ renamed s w p) × (syncs (folder p) ≡ false))

-- the paths of the file and of the journal are those to which the given ones lead
pub record AreResolved {D F S : Type 0} (disk : Disk D F S) (given_file given_journal file journal : List ℕ)
    : Type 0 where
  pub file_is : disk.place file ≡ disk.leads given_file
  pub journal_is : disk.place journal ≡ disk.leads given_journal

-- ---- what is seen of the two, whatever is left

abbrev pub HasFile : List ℕ → Option (List ℕ) → Type 0
HasFile bytes x = x ≡ Some bytes

abbrev pub HasJournal : List ℕ → Option (List ℕ) → Type 0
HasJournal bytes x = or_empty x ≡ bytes

abbrev pub Either : (Option (List ℕ) → Type 0) → (Option (List ℕ) → Type 0) → Option (List ℕ) → Type 0
Either P Q x = P x ⊎ Q x

pub record Lasts (crash : Bool) (F J : Option (List ℕ) → Type 0) (p : Places) (s : State) : Type 0 where
  pub file : Outlasts crash F s p.file
  pub journal : Outlasts crash J s p.journal

-- what stands at both is what is seen there
pub record AreSettled (crash : Bool) (p : Places) (s : State) : Type 0 where
  pub file : IsSettled crash p.file s
  pub journal : IsSettled crash p.journal s

-- these contents
abbrev pub LastAs : Bool → Places → List ℕ → List ℕ → State → Type 0
LastAs crash p file journal s = Lasts crash (HasFile file) (HasJournal journal) p s

-- while the journal is put in place, and then the file: the old contents, the old file with the new journal, or both
-- new
abbrev pub Between : Bool → Places → Contents → List ℕ → Option (List ℕ) → State → Type 0
Between crash p c journal None s = Lasts crash (HasFile c.file) (Either (HasJournal c.journal) (HasJournal journal)) p s
Between crash p c journal (Some file) s =
    Lasts crash (HasFile c.file) (Either (HasJournal c.journal) (HasJournal journal)) p s
    ⊎ Lasts crash (Either (HasFile c.file) (HasFile file)) (HasJournal journal) p s

-- ---- a put, by its places and what it writes

abbrev pub led : (List ℕ → List ℕ) → List ℕ → List ℕ → Places
led leads file journal = record { file = leads file; journal = leads journal }

-- the two of the four that are the home's
abbrev pub own_of : Sites → Places
own_of sites = record { file = sites.file; journal = sites.journal }

-- a put by the places of the home, which succeeds or not
pub record IsPut {D F S : Type 0} (disk : Disk D F S) (p : Places) (writes : List Write) (ok : Bool)
    (old new : Option Story) : Type 0 where
  pub any_moment : SecurePut disk p writes old new
  pub lasts : ok ≡ true → LastingPut disk p writes old new
  pub alone : length writes ≤ 1 → AtAnyMoment old new (Spares p.file)
  pub touches : TouchesOwn disk p old new
  pub recovers : RecoversAt disk p writes old new
