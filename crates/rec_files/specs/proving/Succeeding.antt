-- What the steps of a read and of a put need, to succeed on a disk that works.
use Rattle.std.specs.Prelude.{◌≡◌, ◌≢◌, ◌≤◌, ℕ, Bool, true, List, length, Option, Some, None}
use Rattle.std.specs.Prelude.{IfSome, IsSome, IsSomeAnd, Result, IfErr}
use Rattle.rec_disk.specs.declared.disk.Disk.{Ghosts as Disk}
use Rattle.rec_disk.specs.Disk.{State, Look}
use Rattle.rec_files.specs.declared.open_file.OpenFile.{OpenFile}
use Rattle.rec_files.specs.Paths.{end_of}
use Rattle.rec_files.specs.OnDisk.{Sites}
use Rattle.rec_files.specs.Succeeding.{IsTold, Known, SawRegular, HasSeen, StandsAsSeen, IsUnlocked}
use Rattle.rec_files.specs.Succeeding.{IsRegularAt, IsStanding, IsShort, CanBeRead}

-- nobody wrote a file, or gave it other rights, since this look at it
abbrev pub IsLookStill : State → ℕ → Look → Type 0
IsLookStill s n look = (look.number ≡ n) × ((look.version ≡ s.version n) × (look.rights ≡ s.rights n))

-- nothing stands under the two working names
pub record AreFree (sites : Sites) (s : State) : Type 0 where
  pub journal : s.at sites.new_journal ≡ None
  pub file : s.at sites.new_file ≡ None

-- a journal to look at is not the file itself; and that one stands there, where it has a path
abbrev pub IsOwnJournal : Option (Option ℕ) → ℕ → Type 0
IsOwnJournal file n = IfSome file (λ found. IsSomeAnd found (λ m. m ≢ n))

module _ {D F S : Type 0} (disk : Disk D F S) where
  -- A disk that works does so after the call too; where this holds of what it tells before, the call succeeds, or else
  -- it failed for memory.
  abbrev pub Succeeds : {X E : Type 0} → (E → Type 0) → D → D → Result X E → (State → Type 0) → Type 0
  Succeeds IsMemory old new result Given =
      disk.works old → disk.works new × (IsTold (disk.story old) Given → IfErr result IsMemory)

  -- an open file isn't longer than what is read, and is as it was looked at
  pub record CanRead (opened : OpenFile D F S) (s : State) : Type 0 where
    pub short : IsShort s (disk.number opened.file)
    pub same : IsSomeAnd (disk.tells opened.seen) (IsLookStill s (disk.number opened.file))

  -- what was seen stands there, and is a regular file or nothing, and the path leads to its own place
  pub record MayWrite (known : Known) (s : State) : Type 0 where
    pub seen : HasSeen (disk.place known.path) known.look s
    pub is_regular : SawRegular disk.regular known.look
    pub straight : disk.leads known.path ≡ disk.place known.path

  -- what was read stands there, and it is a regular file or nothing
  pub record CanSettle (known : Known) (s : State) : Type 0 where
    pub at : s.at (disk.place known.path) ≡ known.number
    pub is_regular : SawRegular disk.regular known.look

  -- it can be opened to be replaced: a regular file after fewer than 40 links in a row
  pub record IsLockable (path : List ℕ) (other : Option (Option Look)) (s : State) (n : ℕ) : Type 0 where
    pub few_links : IsSome (end_of disk.link 40 path)
    pub is_regular : disk.regular n ≡ true
    pub unlocked : IsUnlocked other s n

  -- a regular file, or nothing, and no link to it
  abbrev pub IsPlain : Option (List ℕ) → Option ℕ → Type 0
  IsPlain next None = next ≡ None
  IsPlain next (Some n) = disk.regular n ≡ true

  -- what was read at a path stands as it was seen, after fewer than 40 links in a row
  pub record IsNoted (path : List ℕ) (known : Known) (s : State) : Type 0 where
    pub stands : StandsAsSeen disk known s
    pub ends : end_of disk.link 40 path ≡ Some known.path

  -- these bytes stand at a path, in a regular file, or none are there and nothing stands there
  abbrev pub IsAhead : List ℕ → List ℕ → State → Type 0
  IsAhead path bytes s = IsRegularAt disk path s × IsStanding disk path bytes s

  -- a regular file stands at a path, and is not too long
  abbrev pub CanLook : List ℕ → State → Type 0
  CanLook path s = IsSomeAnd (s.at (disk.leads path)) (CanBeRead disk s)
