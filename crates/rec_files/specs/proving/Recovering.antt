-- What a stop or a crash leaves under the working names, at any moment.
use Rattle.std.specs.Prelude.{◌≡◌, ◌≢◌, ◌⊎◌, ℕ, Bool, true, false, List, take}
use Rattle.std.specs.Prelude.{Option, Some, None, IfSome, IsSomeAnd, IsSome}
use Rattle.rec_disk.specs.Disk.{State, IsFresh, made, removed}
use Rattle.rec_disk.specs.Lasting.{IsMoment, MayHold, MayStand}
use Rattle.rec_disk.specs.proving.Places.{Outlasts}
use Rattle.rec_files.specs.Leftovers.{IsLeftJournal, IsLeftText, IsStopBetween}
use Rattle.rec_files.specs.OnDisk.{Sites}

-- ---- single steps

-- a file is made at a place, not yet or now
abbrev pub IsMaking : List ℕ → State → State → Type 0
IsMaking w s u = (u ≡ s) ⊎ ((n : ℕ) × IsFresh s n × (u ≡ made s w n))

-- what stands there is removed, not yet or now
abbrev pub IsRemoving : List ℕ → State → State → Type 0
IsRemoving w s u = (u ≡ s) ⊎ (u ≡ removed s w)

-- nothing came to a place or was locked, no other file was written, and this one holds what it held,
-- or the first of the bytes
pub record IsWriting (n : ℕ) (bytes : List ℕ) (s u : State) : Type 0 where
  pub at : u.at ≡ s.at
  pub olds : u.olds ≡ s.olds
  pub held : u.held ≡ s.held
  pub written : ((u.bytes n ≡ s.bytes n) × (s.safe n ≡ true → u.safe n ≡ true))
      ⊎ ((k : ℕ) × (u.bytes n ≡ take k bytes))
  pub others : (m : ℕ) → m ≢ n → (u.bytes m ≡ s.bytes m) × (s.safe m ≡ true → u.safe m ≡ true)

-- files and folders were synced, and nothing else was done:
-- a crash leaves in each folder what it might have left before
pub record IsSyncedSince (folder : List ℕ → List ℕ) (s u : State) : Type 0 where
  pub at : u.at ≡ s.at
  pub held : u.held ≡ s.held
  pub bytes : u.bytes ≡ s.bytes
  pub safe : (n : ℕ) → s.safe n ≡ true → u.safe n ≡ true
  pub moments : (m : List ℕ → Option ℕ) → IsMoment true u m → (d : List ℕ)
      → (was : List ℕ → Option ℕ) × IsMoment true s was × ((p : List ℕ) → folder p ≡ d → m p ≡ was p)

-- ---- what may stand

-- whatever is left, in a folder stands what stands there
abbrev pub IsSyncedIn : Bool → (List ℕ → List ℕ) → List ℕ → State → Type 0
IsSyncedIn crash folder d s = (p : List ℕ) → folder p ≡ d → (x : Option ℕ) → MayStand crash s p x → x ≡ s.at p

-- whatever is left, nothing stands at a place, or what was made there
abbrev pub IsOwn : Bool → List ℕ → Option ℕ → State → Type 0
IsOwn crash w own s = (x : Option ℕ) → MayStand crash s w x → (x ≡ None) ⊎ (x ≡ own)

-- what stood at one moment in the file's folder and in the journal's: in one folder at the same
pub record AreTogether (crash : Bool) (folder : List ℕ → List ℕ) (sites : Sites) (s : State) (f j : List ℕ → Option ℕ)
    : Type 0 where
  pub file : IsMoment crash s f
  pub journal : IsMoment crash s j
  pub one : folder sites.file ≡ folder sites.journal → f ≡ j

-- no file stands as the new one, and none does beside what is left of the other folder, where there are two
pub record IsGone (crash : Bool) (folder : List ℕ → List ℕ) (sites : Sites) (s : State) : Type 0 where
  pub now : s.at sites.new_file ≡ None
  pub left : folder sites.file ≢ folder sites.journal → (x : Option ℕ) → MayStand crash s sites.new_file x → x ≡ None

-- a new journal stands, and does so beside what is left of the other folder, where there are two
pub record JournalStands (crash : Bool) (folder : List ℕ → List ℕ) (sites : Sites) (s : State) : Type 0 where
  pub now : IsSome (s.at sites.new_journal)
  pub left : folder sites.file ≢ folder sites.journal → (x : Option ℕ) → MayStand crash s sites.new_journal x → IsSome x

-- ---- what is told

-- whatever is left of a file, it is told to be left over as the new journal
pub record IsFine (crash : Bool) (s : State) (n : ℕ) : Type 0 where
  pub free : s.held n ≡ false
  pub is : (bytes : List ℕ) → MayHold crash s n bytes → IsLeftJournal bytes

-- so it is of whatever may stand as the new journal
abbrev pub HasLeftJournal : Bool → Sites → State → Type 0
HasLeftJournal crash sites s = (x : Option ℕ) → MayStand crash s sites.new_journal x → IfSome x (IsFine crash s)

-- and no new file stands beside it
pub record IsAlone (crash : Bool) (sites : Sites) (s : State) : Type 0 where
  pub journal : HasLeftJournal crash sites s
  pub file : (x : Option ℕ) → MayStand crash s sites.new_file x → x ≡ None

-- or one stands beside it, but none without it
pub record IsBeside (crash : Bool) (folder : List ℕ → List ℕ) (sites : Sites) (s : State) : Type 0 where
  pub journal : HasLeftJournal crash sites s
  pub file : (f j : List ℕ → Option ℕ) → AreTogether crash folder sites s f j
      → IfSome (f sites.new_file) (λ n. (s.held n ≡ false) × IsSome (j sites.new_journal))

-- or where one stands without it, it is told too
pub record CanTell (crash : Bool) (folder : List ℕ → List ℕ) (sites : Sites) (s : State) : Type 0 where
  pub journal : HasLeftJournal crash sites s
  pub file : (f j : List ℕ → Option ℕ) → AreTogether crash folder sites s f j → (bytes : ℕ → List ℕ)
      → ((n : ℕ) → MayHold crash s n (bytes n)) → IfSome (f sites.new_file) (λ n. (s.held n ≡ false)
      × (IsSome (j sites.new_journal) ⊎ IsLeftText bytes (f sites.file) n (j sites.journal)))

-- what is put as the file comes, by what is put as the journal, after whatever may stand as the file
abbrev pub NextLasts : Bool → Sites → List ℕ → Option (List ℕ) → State → Type 0
NextLasts crash sites journal None s = Unit {0}
NextLasts crash sites journal (Some file) s =
    Outlasts crash (λ old. IsSomeAnd old (λ bytes. IsStopBetween bytes file journal)) s sites.file
