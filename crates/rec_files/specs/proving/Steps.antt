-- The steps in which a file and its journal are replaced, what each does to a disk, and what it needs.
use Rattle.std.specs.Prelude.{◌≡◌, ◌≢◌, ◌⊎◌, ◌≤◌, ℕ, Bool, true, false, List, [], ◌∷◌, length, take, Option, Some, None}
use Rattle.std.specs.Prelude.{IfSome, IsSome, IsSomeAnd, option_map}
use Rattle.std.specs.Option.{option_and_then}
use Rattle.rec_disk.specs.declared.disk.Disk.{Ghosts as Disk}
use Rattle.rec_disk.specs.Disk.{State, Story, next, IsFresh, made, wrote, synced, renamed, removed}
use Rattle.rec_disk.specs.Disk.{IsGiven, rights_seen}
use Rattle.rec_disk.specs.declared.log.Rights.{Rights}
use Rattle.rec_disk.specs.Rights.{narrow}
use Rattle.rec_disk.specs.Paths.{working_name}
use Rattle.rec_tools.specs.declared.home.Which.{Which}
use Rattle.rec_tools.specs.declared.home.Which.TheVariants.{Base, Journal}
use Rattle.rec_files.specs.declared.steps.Act.{Act}
use Rattle.rec_files.specs.declared.steps.Act.TheVariants.{Make, Part, Fit, Narrow, Clash, Measure, Look, Write}
use Rattle.rec_files.specs.declared.steps.Act.TheVariants.{Keep, Place, Sync, SyncLast, Settle, Remove, Clear}
use Rattle.rec_files.specs.declared.steps.Step.{Step}
use Rattle.rec_files.specs.declared.steps.Made.{Made}
use Rattle.rec_files.specs.declared.steps.Pair.{Pair}
use Rattle.rec_files.specs.declared.target.Target.{Target}
use Rattle.rec_files.specs.OnDisk.{Sites, sites_of, AreLeft}
use Rattle.rec_files.specs.Succeeding.{Known, known, AreApart, AreUnchanged, SawRegular, StandsAsSeen}
use Rattle.rec_files.specs.proving.Replacing.{AreAsSeen, AreResolved, IsSyncing, led}
use Rattle.rec_files.specs.proving.Succeeding.{CanSettle}

-- one of the two, the other one, and what is put in its place
pub record Side : Type 0 where
  pub own : Known
  pub other : Known
  pub bytes : List ℕ

-- both
pub record Task : Type 0 where
  pub file : Known
  pub journal : Known
  pub file_bytes : List ℕ
  pub journal_bytes : List ℕ

abbrev pub side_of : Task → Which → Side
side_of task Base = record { own = task.file; other = task.journal; bytes = task.file_bytes }
side_of task Journal = record { own = task.journal; other = task.file; bytes = task.journal_bytes }

-- the numbers of what was made for both
pub record Numbers : Type 0 where
  pub file : Option ℕ
  pub journal : Option ℕ

abbrev pub number_of : Numbers → Which → Option ℕ
number_of numbers Base = numbers.file
number_of numbers Journal = numbers.journal

abbrev pub other_than : Which → Which
other_than Base = Journal
other_than Journal = Base

module _ {D F S : Type 0} (disk : Disk D F S) where
  abbrev pub side_by : Target D F S → Target D F S → List ℕ → Side
  side_by own other bytes = record { own = known disk own; other = known disk other; bytes = bytes }

  abbrev pub task_of : Target D F S → Target D F S → List ℕ → List ℕ → Task
  task_of file journal file_bytes journal_bytes = record {
    file = known disk file;
    journal = known disk journal;
    file_bytes = file_bytes;
    journal_bytes = journal_bytes;
  }

  abbrev pub task_by : Pair D F S → Task
  task_by pair = task_of pair.file.now pair.journal.now pair.file_bytes.now pair.journal_bytes.now

  abbrev pub numbers : Made D F S → Numbers
  numbers made = record { file = option_map disk.number made.file; journal = option_map disk.number made.journal }

-- a story goes on by one step, or stays as it is
abbrev pub Moves : Option Story → Option Story → (State → Type 0) → (State → State → Type 0) → Type 0
Moves None None Rests Does = Unit {0}
Moves None (Some b) Rests Does = ⊥
Moves (Some a) new Rests Does = (Rests a.now × (new ≡ Some a)) ⊎ ((t : State) × Does a.now t × (new ≡ Some (next a t)))

-- ---- single acts

-- the rights of what was read of one of the two, and those that a new journal gets, of its file and of the older one
abbrev pub rights_of : Known → Option Rights
rights_of known = option_and_then rights_seen known.look

abbrev pub narrow_of : Known → Known → Option Rights
narrow_of file journal = option_map (λ model. narrow model (rights_of journal)) (rights_of file)

module _ {D F S : Type 0} (disk : Disk D F S) (side : Side) where
  abbrev pub at_of : List ℕ
  at_of = disk.place side.own.path

  abbrev pub new_of : List ℕ
  new_of = disk.place (working_name side.own.path)

  -- by the number of what was made for it, and whether it succeeded: nothing is done on the disk
  abbrev pub Rests : Act → Bool → Option ℕ → State → Type 0
  Rests Part ok x s = ok ≡ true → disk.folder at_of ≡ disk.folder (disk.place side.other.path)
  Rests Fit ok x s = ok ≡ true → side.own.look ≡ None
  Rests Narrow ok x s = ok ≡ true → side.other.look ≡ None
  Rests Clash ok x s = Unit {0}
  Rests Measure ok x s = Unit {0}
  Rests Look ok x s = Unit {0}
  Rests Settle ok x s = ok ≡ true → s.at at_of ≡ None
  Rests Remove ok x s = ok ≡ true → IfSome x (λ n. s.at new_of ≢ Some n)
  Rests Clear ok x s = ok ≡ true → x ≡ None
  Rests _ ok x s = ok ≡ false

  -- by that before and after: one state comes after another
  abbrev pub Does : Act → Bool → Option ℕ → Option ℕ → State → State → Type 0
  Does Make ok x y s t = (n : ℕ) × (s.at new_of ≡ None) × IsFresh s n × (t ≡ made s new_of n) × (y ≡ Some n)
  Does Part ok x y s t = (y ≡ x) × IsSyncing disk.folder disk.syncs (disk.folder at_of) s t
  Does Fit ok x y s t = (y ≡ x) × IsSomeAnd x (λ n. IsGiven n (rights_of side.own) ok s t)
  Does Narrow ok x y s t = (y ≡ x) × IsSomeAnd x (λ n. IsGiven n (narrow_of side.other side.own) ok s t)
  Does Write ok x y s t = (y ≡ x) × IsSomeAnd x (λ n. (k : ℕ) × (t ≡ wrote s n (take k side.bytes))
      × (ok ≡ true → take k side.bytes ≡ side.bytes))
  Does Keep ok x y s t = (y ≡ x) × IsSomeAnd x (λ n. t ≡ synced s n)
  Does Settle ok x y s t = (y ≡ x) × ((n : ℕ) × (t ≡ synced s n) × (ok ≡ true → s.at at_of ≡ Some n))
  Does Place ok x y s t = (y ≡ x) × (t ≡ renamed s new_of at_of)
  Does Sync ok x y s t = (y ≡ x) × IsSyncing disk.folder disk.syncs (disk.folder at_of) s t
  Does SyncLast ok x y s t = (y ≡ x) × IsSyncing disk.folder disk.syncs (disk.folder at_of) s t
  Does Remove ok x y s t = t ≡ removed s new_of
  Does Clear ok x y s t = t ≡ removed s new_of
  Does _ ok x y s t = ⊥

  abbrev pub Acts : Act → Bool → Option ℕ → Option ℕ → Option Story → Option Story → Type 0
  Acts act ok x y old new = Moves old new (λ s. (y ≡ x) × Rests act ok x s) (Does act ok x y)

  -- what was made stands under its working name, and what was read in its place
  abbrev pub CanPlace : ℕ → State → Type 0
  CanPlace n s = (s.at new_of ≡ Some n) × StandsAsSeen disk side.own s

  -- what an act needs, to succeed on a disk that works
  abbrev pub Needs : Act → Option ℕ → State → Type 0
  Needs Make x s = s.at new_of ≡ None
  Needs Fit x s = IsSome x
  Needs Narrow x s = IsSome x
  Needs Clash x s = IsSomeAnd x (λ n. s.at (disk.place side.other.path) ≢ Some n)
  Needs Measure x s = length side.bytes ≤ 1_073_741_824
  Needs Look x s = IfSome x (λ n. s.at new_of ≡ Some n) × StandsAsSeen disk side.own s
  Needs Write x s = IsSome x
  Needs Keep x s = IsSome x
  Needs Place x s = IsSomeAnd x (λ n. CanPlace n s)
  Needs Settle x s = CanSettle disk side.own s
  Needs Remove x s = ⊥
  Needs Clear x s = s.at new_of ≡ x
  Needs _ x s = Unit {0}

-- what it checks of the bytes alone
abbrev pub Fits : Act → List ℕ → Type 0
Fits Measure bytes = length bytes ≤ 1_073_741_824
Fits _ bytes = Unit {0}

-- ---- lists of steps

module _ {D F S : Type 0} (disk : Disk D F S) (task : Task) where
  abbrev pub StepRests : Step → Bool → Numbers → Numbers → State → Type 0
  StepRests step ok x y s = (y ≡ x) × Rests disk (side_of task step.0) step.1 ok (number_of x step.0) s

  abbrev pub StepDoes : Step → Bool → Numbers → Numbers → State → State → Type 0
  StepDoes step ok x y s t = (number_of y (other_than step.0) ≡ number_of x (other_than step.0))
      × Does disk (side_of task step.0) step.1 ok (number_of x step.0) (number_of y step.0) s t

  abbrev pub Takes : Step → Bool → Numbers → Numbers → Option Story → Option Story → Type 0
  Takes step ok x y old new = Moves old new (StepRests step ok x y) (StepDoes step ok x y)

  -- the steps are taken in turn, up to the first that fails
  abbrev pub Plays : List Step → Bool → Numbers → Numbers → Option Story → Option Story → Type 0
  Plays [] ok x y old new = (ok ≡ true) × (y ≡ x) × (new ≡ old)
  Plays (step ∷ steps) ok x y old new = ((ok ≡ false) × Takes step false x y old new)
      ⊎ ((mid : Option Story) × (z : Numbers) × Takes step true x z old mid × Plays steps ok z y mid new)

  abbrev pub StepNeeds : Step → Numbers → State → Type 0
  StepNeeds step x s = Needs disk (side_of task step.0) step.1 (number_of x step.0) s

  -- each finds what it needs
  abbrev pub CanPlay : List Step → Numbers → State → Type 0
  CanPlay [] x s = Unit {0}
  CanPlay (step ∷ steps) x s = StepNeeds step x s
      × (((y : Numbers) → StepRests step true x y s → CanPlay steps y s)
      × ((y : Numbers) (t : State) → StepDoes step true x y s t → CanPlay steps y t))

abbrev pub StepFits : Task → Step → Type 0
StepFits task step = Fits step.1 (side_of task step.0).bytes

-- ---- the lists

abbrev pub of_file : Act → Step
of_file act = record { 0 = Base; 1 = act }

abbrev pub of_journal : Act → Step
of_journal act = record { 0 = Journal; 1 = act }

-- what was found is removed, the file's first; then both are synced as they were read, and their folders
abbrev pub settling : List Step
settling = of_file Settle ∷ of_file Sync ∷ of_journal Settle ∷ of_journal Sync ∷ []

abbrev pub ready : Option ℕ → List Step
ready (Some n) = of_file Clear ∷ of_file Part ∷ of_journal Clear ∷ settling
ready None = of_file Clear ∷ settling

-- both are made, then written, and then put in place, the journal first
abbrev pub both_placed : List Step
both_placed = of_journal Place ∷ of_journal Sync ∷ of_file Place ∷ of_file SyncLast ∷ []

abbrev pub file_written : List Step
file_written = of_file Write ∷ of_file Keep ∷ of_file Look ∷ both_placed

abbrev pub both_written : List Step
both_written = of_journal Write ∷ of_journal Keep ∷ of_file Measure ∷ file_written

abbrev pub both_made : List Step
both_made =
    of_journal Make ∷ of_journal Part ∷ of_file Make ∷ of_file Fit ∷ of_file Clash ∷ of_journal Narrow ∷ both_written

-- or the journal alone
abbrev pub alone_placed : List Step
alone_placed = of_journal Place ∷ of_journal SyncLast ∷ []

abbrev pub alone_written : List Step
alone_written = of_journal Write ∷ of_journal Keep ∷ of_file Look ∷ alone_placed

abbrev pub alone_made : List Step
alone_made = of_journal Make ∷ of_journal Part ∷ of_journal Narrow ∷ alone_written

abbrev pub list_for : Option (List ℕ) → List Step
list_for (Some file) = both_made
list_for None = alone_made

-- what was made is removed, the file's first
abbrev pub removing : Option ℕ → List Step
removing (Some n) = of_file Remove ∷ of_file Part ∷ of_journal Remove ∷ []
removing None = of_journal Remove ∷ []

-- ---- a put

-- this stands under the working names, and was left there by a put that was stopped
pub record AreFound (sites : Sites) (x : Numbers) (s : State) : Type 0 where
  pub file : s.at sites.new_file ≡ x.file
  pub journal : s.at sites.new_journal ≡ x.journal
  pub left : AreLeft sites s

-- what holds where a put begins: both are as they were seen, at the ends of the given paths
pub record MayBegin {D F S : Type 0} (disk : Disk D F S) (given_file given_journal : List ℕ) (file journal : Known)
    (x : Numbers) (s : State) : Type 0 where
  pub seen : AreAsSeen (led disk.leads given_file given_journal) file.look journal.look s
  pub found : AreFound (sites_of disk.place file.path journal.path) x s
  pub apart : AreApart (sites_of disk.place file.path journal.path)
  pub resolved : AreResolved disk given_file given_journal file.path journal.path

module _ {D F S : Type 0} (disk : Disk D F S) (task : Task) (file : Option (List ℕ)) where
  -- what its steps need
  pub record CanReplace (x : Numbers) (s : State) : Type 0 where
    pub short : IfSome file (λ bytes. length bytes ≤ 1_073_741_824)
    pub apart : AreApart (sites_of disk.place task.file.path task.journal.path)
    pub found : AreFound (sites_of disk.place task.file.path task.journal.path) x s
    pub unchanged : AreUnchanged disk task.file task.journal s
    pub is_regular : SawRegular disk.regular task.file.look

  -- both are replaced, or the journal alone; or that fails, and what was made is removed
  abbrev pub Replaces : Bool → Option Story → Option Story → Type 0
  Replaces ok old new = (y : Numbers) × (mid : Option Story)
      × Plays disk task (list_for file) ok (record { file = None; journal = None }) y old mid
      × ((new ≡ mid) ⊎ ((ok ≡ false)
      × ((z : Numbers) × (done : Bool) × Plays disk task (removing y.file) done y z mid new)))

  -- after what was found is removed, and both are settled
  abbrev pub Puts : Numbers → Bool → Option Story → Option Story → Type 0
  Puts x ok old new = (y : Numbers) × (((ok ≡ false) × Plays disk task (ready x.journal) false x y old new)
      ⊎ ((mid : Option Story) × Plays disk task (ready x.journal) true x y old mid × Replaces ok mid new))
