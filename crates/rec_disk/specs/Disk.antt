-- A disk: what stands at its places, what a stop or a crash may leave of it, and what each call does.
use Rattle.std.specs.Prelude.{◌≡◌, ◌≢◌, ◌⊎◌, ℕ, suc, Bool, true, false, List, [], ◌∷◌, ◌++◌, length, take, map}
use Rattle.std.specs.Prelude.{bytes_eq, ◌==◌, if◌then◌else◌}
use Rattle.std.specs.Prelude.{Option, Some, None, Result, Ok, Err, IfErr, IfSome, option_map}
use Rattle.std.specs.Option.{option_and_then}
use Rattle.std.specs.List.{AllByRecursion}
use Rattle.std.specs.IoError.{error_kind}
use Rattle.std.specs.declared.io.Error.{Error}
use Rattle.std.specs.declared.io.ErrorKind.TheVariants.{OutOfMemory}
use Rattle.rec_disk.specs.declared.log.Rights.{Rights}
use Rattle.rec_disk.specs.Rights.{Lets, AreLet, narrow, own_mode}

-- ---- states

-- the same function but at one argument: at a place, or at the number of a file
abbrev pub put : {X : Type 0} → (List ℕ → X) → List ℕ → X → List ℕ → X
put f p x q = if bytes_eq q p then x else f q

abbrev pub set : {X : Type 0} → (ℕ → X) → ℕ → X → ℕ → X
set f n x m = if m == n then x else f m

-- A place is a name in a folder; several paths may lead to it. A file has a number, under however many names it stands.
pub record State : Type 0 where
  -- the number of the file at each place
  pub at : List ℕ → Option ℕ
  -- what stood at the places since their folders were synced, the newest first
  pub olds : List (List ℕ → Option ℕ)
  -- of each file its bytes, whether they are synced, and the version, which each write changes
  pub bytes : ℕ → List ℕ
  pub safe : ℕ → Bool
  pub version : ℕ → ℕ
  -- the files that another program has locked
  pub held : ℕ → Bool
  -- of each file its rights, and to whom the system lets it be given
  pub rights : ℕ → Rights
  pub lets : Lets

-- no file has, or lately had, this number
pub record IsFresh (s : State) (n : ℕ) : Type 0 where
  pub now : (p : List ℕ) → s.at p ≢ Some n
  pub before : AllByRecursion (λ old. (p : List ℕ) → old p ≢ Some n) s.olds

-- ---- changes

-- of a file that is made its owner alone may read it: whoever that is
abbrev pub made : State → List ℕ → ℕ → State
made s p n = record s {
  at = put s.at p (Some n);
  olds = s.at ∷ s.olds;
  bytes = set s.bytes n [];
  safe = set s.safe n true;
  held = set s.held n false;
  rights = set s.rights n (record (s.rights n) { mode = own_mode });
}

abbrev pub gave : State → ℕ → Rights → State
gave s n rights = record s { rights = set s.rights n rights }

abbrev pub wrote : State → ℕ → List ℕ → State
wrote s n bytes = record s {
  bytes = set s.bytes n bytes;
  safe = set s.safe n false;
  version = set s.version n (suc (s.version n));
}

abbrev pub synced : State → ℕ → State
synced s n = record s { safe = set s.safe n true }

abbrev pub renamed : State → List ℕ → List ℕ → State
renamed s from to = record s { at = put (put s.at from None) to (s.at from); olds = s.at ∷ s.olds }

abbrev pub removed : State → List ℕ → State
removed s p = record s { at = put s.at p None; olds = s.at ∷ s.olds }

-- what once stood at a place, or, in a folder that was synced, what stands there
abbrev pub kept_in : (List ℕ → List ℕ) → State → List ℕ → (List ℕ → Option ℕ) → List ℕ → Option ℕ
kept_in folder s synced_one old p = if bytes_eq (folder p) synced_one then s.at p else old p

abbrev pub folder_synced : (List ℕ → List ℕ) → State → List ℕ → State
folder_synced folder s synced_one = record s { olds = map (kept_in folder s synced_one) s.olds }

-- ---- looks

-- what a look at a file says of it, where it says it
pub record Look : Type 0 where
  pub number : ℕ
  pub version : ℕ
  pub length : ℕ
  pub rights : Rights
  -- a symbolic link
  pub is_link : Bool

abbrev pub SaysOf : (Look → Type 0) → Option Look → Type 0
SaysOf P None = Unit {0}
SaysOf P (Some look) = P look

-- the look is one at a file
pub record IsLookFor (s : State) (n : ℕ) (look : Look) : Type 0 where
  pub number : look.number ≡ n
  pub version : look.version ≡ s.version n
  pub length : look.length ≡ length (s.bytes n)
  pub rights : look.rights ≡ s.rights n

-- the look is one at a place, where a file stands
pub record IsLookAt (s : State) (p : List ℕ) (look : Look) : Type 0 where
  pub number : s.at p ≡ Some look.number
  pub version : look.version ≡ s.version look.number
  pub rights : look.rights ≡ s.rights look.number

-- the two are of one file, which nobody wrote, or gave other rights, between them
pub record AreAlike (one other : Look) : Type 0 where
  pub number : one.number ≡ other.number
  pub version : one.version ≡ other.version
  pub rights : one.rights ≡ other.rights

-- the rights of which a look tells, and those that a new journal gets by looks at its file and at the older journal
abbrev pub rights_seen : Option Look → Option Rights
rights_seen look = option_map (λ look. look.rights) look

abbrev pub narrow_seen : Option Look → Option (Option Look) → Option Rights
narrow_seen model older =
    option_map (λ model. narrow model (option_and_then rights_seen older)) (rights_seen model)

-- ---- calls

module _ {F E : Type 0} where
  -- a file was made where none stood
  abbrev pub IsMake : (F → ℕ) → List ℕ → Result F E → State → State → Type 0
  IsMake number p (Ok file) s t = (s.at p ≡ None) × IsFresh s (number file) × (t ≡ made s p (number file))
  IsMake number p (Err _) s t = ⊥

  -- a write that failed may have written the first of the bytes
  abbrev pub IsWrite : ℕ → List ℕ → Result F E → State → State → Type 0
  IsWrite n bytes (Ok _) s t = t ≡ wrote s n bytes
  IsWrite n bytes (Err _) s t = (k : ℕ) × (t ≡ wrote s n (take k bytes))

  -- a sync, a rename or a removal that failed may have been made
  abbrev pub IsSync : ℕ → Result F E → State → State → Type 0
  IsSync n result s t = t ≡ synced s n

  abbrev pub IsRename : List ℕ → List ℕ → Result F E → State → State → Type 0
  IsRename from to result s t = t ≡ renamed s from to

  abbrev pub IsRemove : List ℕ → Result F E → State → State → Type 0
  IsRemove p result s t = t ≡ removed s p

-- The rights that were wanted, as far as the system lets them be given. A call that failed may have given owner and
-- group alone.
abbrev pub IsGiven : ℕ → Option Rights → Bool → State → State → Type 0
IsGiven n wanted true s t =
    (rights : Rights) × IfSome wanted (λ wanted. AreLet s.lets wanted rights) × (t ≡ gave s n rights)
IsGiven n wanted false s t = (rights : Rights) × (rights.mode ≡ (s.rights n).mode) × (t ≡ gave s n rights)

-- where folders can't be synced, nothing is done, and the answer is false
abbrev pub IsFolderSync : {E : Type 0} → (List ℕ → List ℕ) → List ℕ → Result Bool E → State → State → Type 0
IsFolderSync folder p (Ok true) s t = t ≡ folder_synced folder s (folder p)
IsFolderSync folder p (Ok false) s t = t ≡ s
IsFolderSync folder p (Err _) s t = ⊥

-- ---- failures

abbrev pub IsMemory : Error → Type 0
IsMemory error = error_kind error ≡ OutOfMemory

-- A disk that works did so before and does after, and the call failed for memory, or for this.
abbrev pub IsExcused : {X : Type 0} → Type 0 → Type 0 → Result X Error → (Error → Type 0) → Type 0
IsExcused before after result P = before → after × IfErr result (λ error. IsMemory error ⊎ P error)

-- ---- all moments

-- the state now, and those at each moment before, the newest first
pub record Story : Type 0 where
  pub now : State
  pub past : List State

abbrev pub next : Story → State → Story
next a t = record { now = t; past = a.now ∷ a.past }

-- Where a disk tells its story, a call makes a step. One that fails may make none.
abbrev pub Goes : {X E : Type 0} → Option Story → Option Story → Result X E → (State → State → Type 0) → Type 0
Goes None None result Step = Unit {0}
Goes None (Some b) result Step = ⊥
Goes (Some a) new (Ok _) Step = (t : State) × Step a.now t × (new ≡ Some (next a t))
Goes (Some a) new (Err _) Step = (new ≡ Some a) ⊎ ((t : State) × Step a.now t × (new ≡ Some (next a t)))

-- where a disk tells its story, this holds of the state
abbrev pub Told : Option Story → (State → Type 0) → Type 0
Told None P = Unit {0}
Told (Some a) P = P a.now

-- where a disk tells its story, the first state stands so to the last one and to each in between
abbrev pub AtAnyMoment : Option Story → Option Story → (State → State → Type 0) → Type 0
AtAnyMoment None None R = Unit {0}
AtAnyMoment None (Some b) R = ⊥
AtAnyMoment (Some a) None R = ⊥
AtAnyMoment (Some a) (Some b) R =
    R a.now b.now × ((later : List State) × (b.past ≡ later ++ a.past) × AllByRecursion (R a.now) later)
