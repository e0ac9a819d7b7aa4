-- What a call of the home needs, so that on a disk that works it fails for memory alone;
-- and what becomes of a home by a call.
use Rattle.std.specs.Prelude.{◌≡◌, ◌≢◌, ◌⊎◌, ◌≤◌, ℕ, Bool, true, false, List, [], ◌++◌, length, Option, Some, None}
use Rattle.std.specs.Prelude.{IfSome, IsSome, IsSomeAnd, option_map, string_bytes}
use Rattle.std.specs.List.{AllByRecursion}
use Rattle.std.specs.Option.{option_and_then}
use Rattle.std.specs.declared.io.Error.{Error}
use Rattle.rec_disk.specs.Disk.{State, Story, Look, Told, SaysOf, IsLookAt, IsMemory}
use Rattle.rec_disk.specs.declared.disk.Disk.{Ghosts as Disk}
use Rattle.rec_tools.specs.Home.{Call, Write, got, unread, put_all, put_some}
use Rattle.rec_tools.specs.declared.home.Which.{Which}
use Rattle.rec_tools.specs.declared.home.Which.TheVariants.{Base, Journal}
use Rattle.rec_files.specs.declared.access.Access.{Access}
use Rattle.rec_files.specs.declared.access.Access.TheVariants.{Look as Looks, Change as Changes}
use Rattle.rec_files.specs.declared.failure.Cause.{Cause}
use Rattle.rec_files.specs.declared.failure.Cause.TheVariants.{Itself, Working, Folder, Foreign, Unsynced}
use Rattle.rec_files.specs.declared.failure.Failure.{Failure}
use Rattle.rec_files.specs.declared.last_put.LastPut.{LastPut}
use Rattle.rec_files.specs.declared.last_put.LastPut.TheVariants.{Nothing, Locked, LetGo}
use Rattle.rec_files.specs.declared.target.Target.{Target}
use Rattle.rec_files.specs.declared.both.Both.{Both}
use Rattle.rec_files.specs.declared.files.DiskHome.{DiskHome}
use Rattle.rec_disk.specs.Paths.{working_name}
use Rattle.rec_files.specs.Paths.{path_of, end_of}
use Rattle.rec_files.specs.OnDisk.{Sites, sites_of, AreLeft, IsHomeCall, or_empty}
use Rattle.rec_disk.specs.Lasting.{shown}

-- the disk tells its story, and this holds of its state
abbrev pub IsTold : Option Story → (State → Type 0) → Type 0
IsTold None P = ⊥
IsTold (Some a) P = P a.now

-- nothing of the two is open, neither what was read nor what was made
pub record IsShut {D F S : Type 0} (both : Both D F S) : Type 0 where
  pub file : IfSome both.file (λ target. target.old ≡ None)
  pub journal : IfSome both.journal (λ target. target.old ≡ None)
  pub made_file : both.made.file ≡ None
  pub made_journal : both.made.journal ≡ None

abbrev pub error_of : Cause → Error
error_of (Itself error) = error
error_of (Working error) = error
error_of (Folder error) = error
error_of (Foreign error) = error
error_of (Unsynced error) = error

-- memory ran out
abbrev pub IsForMemory : Cause → Type 0
IsForMemory cause = IsMemory (error_of cause)

abbrev pub FailedForMemory : Failure → Type 0
FailedForMemory failure = IsForMemory failure.cause

-- ---- the two, as they were read

-- what is known of one of them: its path as it was given, and after links, and of what was read there
-- its number and the look at it
pub record Known : Type 0 where
  pub given : List ℕ
  pub path : List ℕ
  pub number : Option ℕ
  pub look : Option (Option Look)

-- ---- what was seen

-- the look, if there is one, was at a regular file
abbrev pub SawRegular : (ℕ → Bool) → Option (Option Look) → Type 0
SawRegular regular None = Unit {0}
SawRegular regular (Some look) = IsSomeAnd look (λ look. regular look.number ≡ true)

-- or at another file than this one
abbrev pub SawAnother : ℕ → Option (Option Look) → Type 0
SawAnother n None = Unit {0}
SawAnother n (Some look) = IsSomeAnd look (λ look. look.number ≢ n)

-- nothing stands at a place where nothing was seen; else what the look says, where it says it
abbrev pub IsAsSeen : List ℕ → Option (Option Look) → State → Type 0
IsAsSeen p None s = s.at p ≡ None
IsAsSeen p (Some look) s = SaysOf (IsLookAt s p) look

-- the look, if there is one, was taken at the place, and what it saw stands there
abbrev pub HasSeen : List ℕ → Option (Option Look) → State → Type 0
HasSeen p None s = s.at p ≡ None
HasSeen p (Some look) s = IsSomeAnd look (IsLookAt s p)

-- they are four places
pub record AreApart (sites : Sites) : Type 0 where
  pub file_new_file : sites.file ≢ sites.new_file
  pub journal_new_journal : sites.journal ≢ sites.new_journal
  pub pair : sites.journal ≢ sites.file
  pub file_new_journal : sites.file ≢ sites.new_journal
  pub journal_new_file : sites.journal ≢ sites.new_file
  pub new_pair : sites.new_journal ≢ sites.new_file

-- a file isn't longer than what is read
abbrev pub IsShort : State → ℕ → Type 0
IsShort s n = length (s.bytes n) ≤ 1_073_741_824

-- ---- what can be read

-- it can be locked: no other program has locked it, and it is not the other of the two
pub record IsUnlocked (other : Option (Option Look)) (s : State) (n : ℕ) : Type 0 where
  pub free : s.held n ≡ false
  pub another : SawAnother n other

-- something stands at a path, and this holds of it; or a journal is missing whose path is not empty
abbrev pub IsThere : Which → List ℕ → (ℕ → Type 0) → Option ℕ → Type 0
IsThere Base path P found = IsSomeAnd found P
IsThere Journal path P None = path ≢ []
IsThere Journal path P (Some n) = P n

-- what the disk said of the other of the two: the file is read first
abbrev pub other_for : Which → Option (Option Look) → Option (Option Look)
other_for Base seen = None
other_for Journal seen = seen

-- ---- the journal that was put last

-- this holds, where the journal that was put last is still locked
abbrev pub IfLocked : LastPut → Type 0 → Type 0
IfLocked Nothing P = Unit {0}
IfLocked Locked P = P
IfLocked (LetGo bytes) P = Unit {0}

-- the bytes that stood there when its lock was let go, if it was
abbrev pub let_go : LastPut → Option (List ℕ)
let_go Nothing = None
let_go Locked = None
let_go (LetGo bytes) = Some bytes.items

-- the one text comes first in the other
abbrev pub BeginsWith : List ℕ → List ℕ → Type 0
BeginsWith first text = (rest : List ℕ) × (text ≡ first ++ rest)

-- ---- what a home knows

-- what a home was given, and what it knows of what it read, and of what it put last
pub record Kept : Type 0 where
  pub access : Access
  pub file : Option (List ℕ)
  pub journal : List ℕ
  pub last : LastPut
  pub old_file : Option Known
  pub old_journal : Option Known

-- ---- by what is known of a disk: its places, its links, its files, its story, and whether it works

module _ {D F S : Type 0} (disk : Disk D F S) where
  -- what is known of one of the two, and what a home knows
  abbrev pub known : Target D F S → Known
  known target = record {
    given = string_bytes target.given;
    path = target.names;
    number = option_map (λ opened. disk.number opened.file) target.old;
    look = option_map (λ opened. disk.tells opened.seen) target.old;
  }

  abbrev pub kept : {R : Type 0} → DiskHome R D F S → Kept
  kept home = record {
    access = home.access;
    file = option_map string_bytes home.file;
    journal = string_bytes home.journal;
    last = home.last;
    old_file = option_map known home.both.file;
    old_journal = option_map known home.both.journal;
  }

  -- ---- what still stands

  -- what was read still stands there
  pub record StillStands (known : Known) (s : State) : Type 0 where
    pub at : s.at (disk.place known.path) ≡ known.number
    pub seen : HasSeen (disk.place known.path) known.look s

  -- as it was seen, and the path as it was given leads there
  pub record StandsAsSeen (known : Known) (s : State) : Type 0 where
    pub at : s.at (disk.place known.path) ≡ known.number
    pub seen : HasSeen (disk.place known.path) known.look s
    pub led : disk.leads known.given ≡ disk.place known.path

  -- both are as they were seen, and the journal is a regular file or missing
  pub record AreUnchanged (file journal : Known) (s : State) : Type 0 where
    pub file_stands : StandsAsSeen file s
    pub journal_stands : StandsAsSeen journal s
    pub is_regular : SawRegular disk.regular journal.look

  -- these bytes stand at a path, or none are there and nothing stands there
  abbrev pub IsStanding : List ℕ → List ℕ → State → Type 0
  IsStanding path bytes s = bytes ≡ or_empty (shown s.bytes (s.at (disk.leads path)))

  -- what stands at a path is a regular file, or nothing does
  abbrev pub IsRegularAt : List ℕ → State → Type 0
  IsRegularAt path s = IfSome (s.at (disk.leads path)) (λ n. disk.regular n ≡ true)

  -- a regular file that is not too long can be read
  abbrev pub CanBeRead : State → ℕ → Type 0
  CanBeRead s n = IsShort s n × (disk.regular n ≡ true)

  -- ---- what is left over

  -- under a name, which leads to its own place, stands a regular file, and it is neither of the two
  pub record IsOther (name : List ℕ) (file journal : Known) (n : ℕ) : Type 0 where
    pub is_regular : disk.regular n ≡ true
    pub not_file : SawAnother n file.look
    pub not_journal : SawAnother n journal.look
    pub straight : disk.leads name ≡ disk.place name

  -- what stands under the working name of the file can be compared with the two
  pub record CanCompare (file journal : Known) (n : ℕ) (s : State) : Type 0 where
    pub short : IsShort s n
    pub file_stands : StillStands file s
    pub file_short : IfSome file.number (IsShort s)
    pub journal_stands : StillStands journal s
    pub journal_short : IfSome journal.number (IsShort s)

  -- ---- where a put begins

  -- What stands under the two working names was left over and isn't locked; it is a regular file, and neither of the
  -- two; and where it has to be compared with the two, nothing of it is too long. The four are apart.
  pub record CanClear (file journal : Known) (s : State) : Type 0 where
    pub apart : AreApart (sites_of disk.place file.path journal.path)
    pub left : AreLeft (sites_of disk.place file.path journal.path) s
    pub new_journal : IfSome (s.at (disk.place (working_name journal.path)))
        (IsOther (working_name journal.path) file journal)
    pub new_file : IfSome (s.at (disk.place (working_name file.path))) (λ n.
        IsOther (working_name file.path) file journal n
        × (IsSome (s.at (disk.place (working_name journal.path))) ⊎ CanCompare file journal n s))

  -- and both are as they were seen, after fewer than 40 links in a row at each of the given paths,
  -- and the file is a regular one
  pub record CanPrepare (given_file given_journal : List ℕ) (file journal : Known) (s : State) : Type 0 where
    pub unchanged : AreUnchanged file journal s
    pub is_regular : SawRegular disk.regular file.look
    pub file_end : end_of disk.link 40 given_file ≡ Some file.path
    pub journal_end : end_of disk.link 40 given_journal ≡ Some journal.path
    pub clear : CanClear file journal s

  -- ---- what a call needs

  -- What a request reads of the two, by its paths, and by what the disk said of the file when that was read: a regular
  -- file that is not too long, and a journal may be missing. Where the request only looks, the journal is not the file
  -- that stands there. Where it may write, fewer than 40 links in a row stand at the path, no other program has locked
  -- what is there, and the journal is not the file that was read.
  pub record IsReadable (access : Access) (file : Option (List ℕ)) (journal : List ℕ) (seen : Option (Option Look))
      (which : Which) (s : State) : Type 0 where
    pub given : which ≡ Base → IsSome file
    pub there : IsThere which (path_of file journal which) (CanBeRead s)
        (s.at (disk.leads (path_of file journal which)))
    pub apart : access ≡ Looks → which ≡ Journal → IfSome (s.at (disk.leads journal)) (λ n. IfSome file (λ path.
        IsSomeAnd (s.at (disk.leads path)) (λ m. m ≢ n)))
    pub free : access ≡ Changes → IfSome (s.at (disk.leads (path_of file journal which)))
        (λ n. IsUnlocked (other_for which seen) s n × IsSome (end_of disk.link 40 (path_of file journal which)))

  -- A read of the file can let go of the journal that was put last: that can be read before, or it is missing. And for
  -- a read of the journal the one that was let go still comes first in what stands there.
  abbrev pub CanGoOn : List ℕ → LastPut → Which → State → Type 0
  CanGoOn journal last Base s = IfLocked last (IsThere Journal journal (CanBeRead s) (s.at (disk.leads journal)))
  CanGoOn journal last Journal s = IfSome (let_go last)
      (λ last. BeginsWith last (or_empty (shown s.bytes (s.at (disk.leads journal)))))

  -- What a put needs: what is put can be read again, and it may begin with what was read.
  pub record CanPut (kept : Kept) (writes : List Write) (s : State) : Type 0 where
    pub short : AllByRecursion (λ write. length write.bytes ≤ 1_073_741_824) writes
    pub begins : IsSomeAnd kept.old_file (λ file. IsSomeAnd kept.old_journal (λ journal.
        CanPrepare (path_of kept.file kept.journal Base) kept.journal file journal s))

  -- what a call that failed needed was there
  abbrev pub HadAll : Kept → Call → State → Type 0
  HadAll kept (unread which) s = IsReadable kept.access kept.file kept.journal
      (option_and_then (λ known. known.look) kept.old_file) which s × CanGoOn kept.journal kept.last which s
  HadAll kept (put_some writes k) s = CanPut kept writes s
  HadAll kept _ s = ⊥

  -- A disk that works does so after the call too. And if the call failed though all was there that it needed, it failed
  -- for memory, as the home noted last.
  pub record IsExcused {R : Type 0} (old : DiskHome R D F S) (call : Call) (new : DiskHome R D F S) : Type 0 where
    pub works_still : disk.works old.disk → disk.works new.disk
    pub for_memory : disk.works old.disk → IsTold (disk.story old.disk) (HadAll (kept old) call)
        → IsSomeAnd new.failure FailedForMemory

  -- ---- what is read and then replaced

  -- what stands at a path was seen, and no other program had locked it
  pub record IsReadFree (path : List ℕ) (look : Option (Option Look)) (s : State) : Type 0 where
    pub seen : HasSeen (disk.leads path) look s
    pub free : IfSome (s.at (disk.leads path)) (λ n. disk.regular n ≡ true → s.held n ≡ false)

  -- a read notes what it saw, and a read of the journal leaves what is noted of the file
  abbrev pub NotesRead : Kept → Kept → Option Story → Call → Type 0
  NotesRead old new story (got Base bytes) = IfSome old.file (λ path.
      IsSomeAnd new.old_file (λ file. Told story (IsReadFree path file.look)))
  NotesRead old new story (got Journal bytes) = (new.old_file ≡ old.old_file)
      × IsSomeAnd new.old_journal (λ journal. Told story (IsReadFree old.journal journal.look))
  NotesRead old new story _ = Unit {0}

  -- a home with a journal reads regular files alone, standard input aside; one without one reads a pipe too
  abbrev pub ReadsRegular : Kept → Option Story → Call → Type 0
  ReadsRegular kept story (got which bytes) = kept.journal ≢ [] → IfSome kept.file (λ _.
      Told story (IsRegularAt (path_of kept.file kept.journal which)))
  ReadsRegular kept story _ = Unit {0}

  -- both stand as it is noted of them
  abbrev pub AreAsNoted : Kept → State → Type 0
  AreAsNoted kept s =
      IsSomeAnd kept.old_file (λ file. IsAsSeen (disk.leads (path_of kept.file kept.journal Base)) file.look s)
      × IsSomeAnd kept.old_journal (λ journal. IsAsSeen (disk.leads kept.journal) journal.look s)

  -- a put that succeeds finds both so, and one that fails and doesn't changes nothing
  abbrev pub ReplacesNoted : Kept → Option Story → Call → Option Story → Type 0
  ReplacesNoted kept old (put_all writes) new = Told old (AreAsNoted kept)
  ReplacesNoted kept old (put_some writes k) new = (new ≡ old) ⊎ Told old (AreAsNoted kept)
  ReplacesNoted kept old _ new = Unit {0}

  -- A home that put a journal holds it locked, and both as it read them. The next read of the file notes what stands
  -- of the journal, before its lock is let go; and the next one of the journal finds this at its beginning: who wrote
  -- there meanwhile only added to it.
  abbrev pub GoesOn : Kept → Kept → Option Story → Call → Type 0
  GoesOn kept now story (got Base bytes) = IfLocked kept.last (IsSomeAnd (let_go now.last)
      (λ last. Told story (IsStanding kept.journal last)))
  GoesOn kept now story (got Journal bytes) = IfSome (let_go kept.last) (λ last. BeginsWith last bytes)
  GoesOn kept now story (put_all writes) =
      (now.last ≡ Locked) × ((now.old_file ≡ kept.old_file) × (now.old_journal ≡ kept.old_journal))
  GoesOn kept now story _ = Unit {0}

  -- what was let go is what was before, or it is what stands at the journal's path
  abbrev pub IsLastOf : List ℕ → LastPut → LastPut → Option Story → Type 0
  IsLastOf journal old new story = IfSome (let_go new)
      (λ last. (let_go old ≡ Some last) ⊎ Told story (IsStanding journal last))

  -- what a home may do stays; one with a journal reads regular files alone; one that may write reads nothing that
  -- another program has locked, and notes what it reads; nothing is replaced but what is noted; and what is read after
  -- a put goes on from the journal that was put
  pub record IsCareful {R : Type 0} (old : DiskHome R D F S) (call : Call) (new : DiskHome R D F S) : Type 0 where
    pub access : new.access ≡ old.access
    pub only_regular : ReadsRegular (kept old) (disk.story old.disk) call
    pub reads : old.access ≡ Changes → NotesRead (kept old) (kept new) (disk.story old.disk) call
    pub puts : ReplacesNoted (kept old) (disk.story old.disk) call (disk.story new.disk)
    pub goes_on : GoesOn (kept old) (kept new) (disk.story old.disk) call
    pub last : IsLastOf (string_bytes old.journal) old.last new.last (disk.story old.disk)

  -- what becomes of a home by a call
  abbrev pub HomeGoes : {R : Type 0} → DiskHome R D F S → Call → DiskHome R D F S → Type 0
  HomeGoes old call new = IsHomeCall disk old call new × (IsExcused old call new × IsCareful old call new)
