-- What a file and its journal hold on a disk, and what a stop of the program or a crash of the machine leaves of them.
use Rattle.std.specs.Prelude.{◌≡◌, ◌≢◌, ◌⊎◌, ◌≤◌, ℕ, Bool, true, false, List, [], ◌∷◌, length, take, Option, Some}
use Rattle.std.specs.Prelude.{None, IfSome, option_map, IsSome, IsSomeAnd, Err, string_bytes}
use Rattle.rec_text.specs.declared.fault.Fault.TheVariants.{StoreFailed}
use Rattle.rec_disk.specs.Disk.{State, Story, Told, AtAnyMoment}
use Rattle.rec_disk.specs.declared.disk.Disk.{Ghosts as Disk}
use Rattle.rec_disk.specs.declared.log.Rights.{Rights}
use Rattle.rec_disk.specs.Rights.{Lets, AreLet, narrow, own_mode}
use Rattle.rec_disk.specs.Lasting.{Left, Leaves, LeavesAt, LeavesInOrder, Spares, shown}
use Rattle.rec_tools.specs.Home.{Contents, Write, Call, got, lacked, unread, put_all, put_some, written, left_by}
use Rattle.rec_tools.specs.Home.{TellsOf, CountsFailure, content_of}
use Rattle.rec_tools.specs.declared.home.Which.{Which}
use Rattle.rec_tools.specs.declared.home.Which.TheVariants.{Base}
use Rattle.rec_journal.specs.History.{IsRegular}
use Rattle.rec_tools.specs.Asked.{Asked}
use Rattle.rec_tools.specs.Attempts.{Answer}
use Rattle.rec_tools.specs.Stands.{Stands}
use Rattle.rec_tools.specs.Answers.{IsOldOrNext}
use Rattle.rec_tools.specs.States.{State as Machine}
use Rattle.rec_disk.specs.Paths.{working_name}
use Rattle.rec_files.specs.declared.files.DiskHome.{DiskHome}
use Rattle.rec_files.specs.Leftovers.{BeginsAsJournal, IsLeftJournal, IsLeftText, IsStopBetween}

-- the places to which the paths of the two lead
pub record Places : Type 0 where
  pub file : List ℕ
  pub journal : List ℕ

-- with those of the names under which they are written
pub record Sites : Type 0 where
  pub file : List ℕ
  pub journal : List ℕ
  pub new_file : List ℕ
  pub new_journal : List ℕ

-- by the paths of both
abbrev pub sites_of : (List ℕ → List ℕ) → List ℕ → List ℕ → Sites
sites_of place file journal = record {
  file = place file;
  journal = place journal;
  new_file = place (working_name file);
  new_journal = place (working_name journal);
}

-- a journal that is missing reads as empty
abbrev pub or_empty : Option (List ℕ) → List ℕ
or_empty None = []
or_empty (Some bytes) = bytes

-- the contents, where a file stands
abbrev pub with_file : Option (List ℕ) → List ℕ → Option Contents
with_file None journal = None
with_file (Some bytes) journal = Some (record { file = bytes; journal = journal })

abbrev pub contents_at : Places → State → Option Contents
contents_at p s = with_file (shown s.bytes (s.at p.file)) (or_empty (shown s.bytes (s.at p.journal)))

-- standard input has no place
abbrev pub contents_on : Option Places → Option Story → Option Contents
contents_on None story = None
contents_on (Some p) None = None
contents_on (Some p) (Some story) = contents_at p story.now

abbrev pub places_by : (List ℕ → List ℕ) → Option (List ℕ) → List ℕ → Option Places
places_by leads None journal = None
places_by leads (Some file) journal = Some (record { file = leads file; journal = leads journal })

-- ---- stops and crashes

-- these contents are read of what is left
pub record Shows (p : Places) (left : Left) (c : Contents) : Type 0 where
  pub file : shown left.bytes (left.at p.file) ≡ Some c.file
  pub journal : or_empty (shown left.bytes (left.at p.journal)) ≡ c.journal

-- whatever is left, these contents are read
abbrev pub Holds : Bool → Places → Contents → State → Type 0
Holds crash p c s = (left : Left) → Leaves crash s left → Shows p left c

-- of both is left what might have been left of the state before
abbrev pub AreAsBefore : Bool → Places → State → Left → Type 0
AreAsBefore crash p before left = LeavesAt crash before left p.file × LeavesAt crash before left p.journal

-- whatever is left, it might have been left before, or the first of the writes are made: none, some or all of them
abbrev pub IsSecure : Bool → Places → Contents → List Write → State → State → Type 0
IsSecure crash p c writes before s = (left : Left) → Leaves crash s left → AreAsBefore crash p before left
    ⊎ ((k : ℕ) × (k ≤ length writes) × Shows p left (written c (take k writes)))

-- ---- what a put may touch

-- what stands under the two working names, if anything does, no other program has locked, and a put that was stopped
-- left it: a new journal; and beside one any file, or else the text of an edit whose journal is in place
pub record AreLeft (sites : Sites) (s : State) : Type 0 where
  pub journal : IfSome (s.at sites.new_journal) (λ n. (s.held n ≡ false) × IsLeftJournal (s.bytes n))
  pub file : IfSome (s.at sites.new_file) (λ n. (s.held n ≡ false)
      × (IsSome (s.at sites.new_journal) ⊎ IsLeftText s.bytes (s.at sites.file) n (s.at sites.journal)))

-- by the journal that is put, the file that is put comes next after the one that stands there
abbrev pub IsNext : Sites → List ℕ → Option (List ℕ) → State → Type 0
IsNext sites journal None s = Unit {0}
IsNext sites journal (Some file) s = IsSomeAnd (s.at sites.file) (λ n. IsStopBetween (s.bytes n) file journal)

-- whatever a stop or a crash leaves in order, what stands under the working names can be told to be left over
abbrev pub AreTold : Bool → (List ℕ → List ℕ) → Sites → State → Type 0
AreTold crash folder sites s = (left : Left) → LeavesInOrder crash folder s left
    → AreLeft sites (record s { at = left.at; bytes = left.bytes })

abbrev pub second : List Write → Option (List ℕ)
second [] = None
second (write ∷ writes) = Some write.bytes

-- all places but the four stay as they are
abbrev pub SparesStrangers : Sites → Option Story → Option Story → Type 0
SparesStrangers sites old new = (p : List ℕ) → p ≢ sites.file → p ≢ sites.journal → p ≢ sites.new_file
    → p ≢ sites.new_journal → AtAnyMoment old new (Spares p)

-- ---- rights

-- the rights of what stands at a place
abbrev pub rights_at : State → List ℕ → Option Rights
rights_at s p = option_map s.rights (s.at p)

-- these are what was wanted, as far as the system lets it
abbrev pub AreLetOf : Lets → Option Rights → Rights → Type 0
AreLetOf lets wanted rights = IfSome wanted (λ wanted. AreLet lets wanted rights)

-- a new file gets the rights of the one in whose place it is put
abbrev pub FileGets : Sites → State → Rights → Type 0
FileGets sites s rights = AreLetOf s.lets (rights_at s sites.file) rights

-- and a new journal those of its file to read and to write, no more than an older one had
abbrev pub JournalGets : Sites → State → Rights → Type 0
JournalGets sites s rights =
    AreLetOf s.lets (option_map (λ model. narrow model (rights_at s sites.journal)) (rights_at s sites.file)) rights

-- what stands at a place stood there before, with the rights that it had, or this holds of its rights and its bytes
abbrev pub IsNewAt : List ℕ → (Rights → List ℕ → Type 0) → State → State → Type 0
IsNewAt p IsNew s u = (n : ℕ) → u.at p ≡ Some n
    → ((s.at p ≡ Some n) × (u.rights n ≡ s.rights n)) ⊎ IsNew (u.rights n) (u.bytes n)

-- what is made is empty, and its owner's alone, until it gets its rights
abbrev pub IsEmptyOr : (Rights → Type 0) → Rights → List ℕ → Type 0
IsEmptyOr Gets rights bytes = ((rights.mode ≡ own_mode) × (bytes ≡ [])) ⊎ Gets rights

-- what is new of the four has its rights, before its first byte
pub record GivesRights (sites : Sites) (s u : State) : Type 0 where
  pub file : IsNewAt sites.file (λ rights bytes. FileGets sites s rights) s u
  pub journal : IsNewAt sites.journal (λ rights bytes. JournalGets sites s rights) s u
  pub new_file : IsNewAt sites.new_file (IsEmptyOr (FileGets sites s)) s u
  pub new_journal : IsNewAt sites.new_journal (IsEmptyOr (JournalGets sites s)) s u

-- ---- calls

-- these contents are read
abbrev pub IsRead : Places → Contents → State → Type 0
IsRead p c s = contents_at p s ≡ Some c

abbrev pub writes_of : Call → List Write
writes_of (got which bytes) = []
writes_of (lacked which) = []
writes_of (unread which) = []
writes_of (put_all writes) = writes
writes_of (put_some writes k) = writes

-- all of its writes were made
abbrev pub IsWhole : Call → Type 0
IsWhole (put_all writes) = Unit {0}
IsWhole _ = ⊥

-- whatever is left, it might have been left before, or it stands for the state as it was or for the machine's next
abbrev pub StandsThen : Bool → Places → Machine → Asked → State → State → Type 0
StandsThen crash p s asked before u = (left : Left) → Leaves crash u left → AreAsBefore crash p before left
    ⊎ ((t : Machine) × IsOldOrNext s asked t × ((c : Contents) × Shows p left c × Stands c t))

-- ---- by what is known of a disk: its places, its folders, its links and its story

module _ {D F S : Type 0} (disk : Disk D F S) where
  -- the places of a home, and its contents
  abbrev pub places_of : {R : Type 0} → DiskHome R D F S → Option Places
  places_of home = places_by disk.leads (option_map string_bytes home.file) (string_bytes home.journal)

  abbrev pub contents_of : {R : Type 0} → DiskHome R D F S → Option Contents
  contents_of home = contents_on (places_of home) (disk.story home.disk)

  -- a crash is only spoken of where the folders of both can be synced
  abbrev pub CanSync : Bool → Places → Type 0
  CanSync crash p = crash ≡ true
      → (disk.syncs (disk.folder p.file) ≡ true) × (disk.syncs (disk.folder p.journal) ≡ true)

  -- or where the working names stand in the folders of their files too
  abbrev pub CanSyncAll : Bool → Sites → Type 0
  CanSyncAll crash sites = crash ≡ true → ((disk.folder sites.new_file ≡ disk.folder sites.file)
      × (disk.folder sites.new_journal ≡ disk.folder sites.journal))
      × ((disk.syncs (disk.folder sites.file) ≡ true) × (disk.syncs (disk.folder sites.journal) ≡ true))

  -- ---- a put

  -- at any moment of a put a stop or a crash leaves what it might have left before, or the first of the writes made
  abbrev pub SecurePut : Places → List Write → Option Story → Option Story → Type 0
  SecurePut p writes old new = (crash : Bool) (c : Contents) → CanSync crash p → Told old (IsRead p c)
      → AtAnyMoment old new (IsSecure crash p c writes)

  -- and after it any later one leaves all of them
  abbrev pub LastingPut : Places → List Write → Option Story → Option Story → Type 0
  LastingPut p writes old new = (crash : Bool) (c : Contents) → CanSync crash p → Told old (IsRead p c)
      → Told new (Holds crash p (written c writes))

  -- nothing is changed; or nothing but the file and its journal and what stands under their working names, where
  -- nobody's file stood before, and what is new of these has its rights
  abbrev pub TouchesOwn : Places → Option Story → Option Story → Type 0
  TouchesOwn p old new = (new ≡ old)
      ⊎ ((file journal : List ℕ) × (disk.place file ≡ p.file) × (disk.place journal ≡ p.journal)
      × Told old (AreLeft (sites_of disk.place file journal))
      × SparesStrangers (sites_of disk.place file journal) old new
      × AtAnyMoment old new (GivesRights (sites_of disk.place file journal)))

  -- Stop a put at any moment, or crash the machine: what is left under the working names can be told to be left over,
  -- so that the next put isn't refused for it.
  abbrev pub Recovers : Sites → List ℕ → Option (List ℕ) → Option Story → Option Story → Type 0
  Recovers sites journal file old new = (crash : Bool) → CanSyncAll crash sites → BeginsAsJournal journal
      → Told old (IsNext sites journal file) → Told old (AreTold crash disk.folder sites)
      → AtAnyMoment old new (λ s u. AreTold crash disk.folder sites u)

  -- by what is put: the journal, and then a file or none
  abbrev pub RecoversBy : Sites → List Write → Option Story → Option Story → Type 0
  RecoversBy sites [] old new = Unit {0}
  RecoversBy sites (journal ∷ writes) old new = Recovers sites journal.bytes (second writes) old new

  -- nothing is changed; or so a put recovers, by some paths of the two
  abbrev pub RecoversAt : Places → List Write → Option Story → Option Story → Type 0
  RecoversAt p writes old new = (new ≡ old) ⊎ ((file journal : List ℕ)
      × Told old (λ s. (disk.place file ≡ p.file) × (disk.place journal ≡ p.journal))
      × RecoversBy (sites_of disk.place file journal) writes old new)

  -- ---- a call

  -- At any moment of a call a stop or a crash leaves what it might have left before, or the first of its writes made,
  -- and after a whole one all of them; a read changes nothing, a put of the journal alone doesn't touch the file, no
  -- call touches what is somebody else's, and whatever a stop or a crash leaves under the working names can be told
  -- to be left over.
  pub record IsCallAt (p : Places) (old : Option Story) (call : Call) (new : Option Story) : Type 0 where
    pub any_moment : SecurePut p (writes_of call) old new
    pub lasts : IsWhole call → LastingPut p (writes_of call) old new
    pub still : writes_of call ≡ [] → new ≡ old
    pub alone : length (writes_of call) ≤ 1 → AtAnyMoment old new (Spares p.file)
    pub touches : TouchesOwn p old new
    pub recovers : RecoversAt p (writes_of call) old new

  -- The home's paths stay; the file is read only where it stands; a call tells what stands there, and leaves what its
  -- writes say; and it is one at their places. Of standard input nothing is said.
  pub record IsHomeCall {R : Type 0} (old : DiskHome R D F S) (call : Call) (new : DiskHome R D F S) : Type 0 where
    pub same : places_of new ≡ places_of old
    pub there : (bytes : List ℕ) → call ≡ got Base bytes
        → IfSome (places_of old) (λ p. Told (disk.story old.disk) (λ s. IsSome (s.at p.file)))
    pub counts : CountsFailure old.failed call new.failed
    pub follows : IfSome (contents_of old) (λ c. TellsOf c call × (contents_of new ≡ Some (left_by c call)))
    pub calls : IfSome (places_of old) (λ p. IsCallAt p (disk.story old.disk) call (disk.story new.disk))

  -- these bytes are a content of a home, where its contents are told
  abbrev pub IsReadOf : {R : Type 0} → DiskHome R D F S → Which → List ℕ → Type 0
  IsReadOf home which bytes = IfSome (contents_of home) (λ c. bytes ≡ content_of c which)

  -- ---- a request

  -- From contents that stand for a state: at any moment of the request whatever is left might have been left before,
  -- or stands for that state or for the next.
  abbrev pub SecureRequest : Places → Asked → Option Story → Option Story → Type 0
  SecureRequest p asked old new = (crash : Bool) (c : Contents) (s : Machine) → CanSync crash p
      → Told old (IsRead p c) → Stands c s → IsRegular c.journal → AtAnyMoment old new (StandsThen crash p s asked)

  -- the request changed nothing, or what is there after it is there whatever is left
  abbrev pub LastingRequest : Places → Option Story → Option Story → Type 0
  LastingRequest p old new = (new ≡ old) ⊎ ((crash : Bool) (c : Contents) → CanSync crash p → Told old (IsRead p c)
      → Told new (λ u. (d : Contents) × Holds crash p d u))

  -- Nothing is changed; or at any moment, whatever a stop or a crash leaves in order under the working names, by some
  -- paths of the two, can be told to be left over, if it could before.
  abbrev pub RecoversThen : Places → Option Story → Option Story → Type 0
  RecoversThen p old new = (new ≡ old) ⊎ ((file journal : List ℕ)
      × Told old (λ s. (disk.place file ≡ p.file) × (disk.place journal ≡ p.journal))
      × ((crash : Bool) → CanSyncAll crash (sites_of disk.place file journal)
      → Told old (AreTold crash disk.folder (sites_of disk.place file journal))
      → AtAnyMoment old new (λ s u. AreTold crash disk.folder (sites_of disk.place file journal) u)))

  -- so it is of a request, from contents with a regular journal
  abbrev pub RecoversRequest : Places → Option Story → Option Story → Type 0
  RecoversRequest p old new = (c : Contents) → Told old (IsRead p c) → IsRegular c.journal → RecoversThen p old new

  -- all that is said of a request on a disk, by its answer
  pub record IsRequestAt (p : Places) (asked : Asked) (answer : Answer) (old new : Option Story) : Type 0 where
    pub any_moment : SecureRequest p asked old new
    pub lasting : (answer ≡ Err StoreFailed) ⊎ LastingRequest p old new
    pub touches : TouchesOwn p old new
    pub recovers : RecoversRequest p old new

  -- the same is asked for again and again, and so it is with each of these answers
  abbrev pub AreRequestsAt : Places → Asked → List Answer → Option Story → Option Story → Type 0
  AreRequestsAt p asked [] old new = new ≡ old
  AreRequestsAt p asked (answer ∷ answers) old new =
      (mid : Option Story) × IsRequestAt p asked answer old mid × AreRequestsAt p asked answers mid new
