-- What a stop of the program or a crash of the machine may leave of a disk, and what is seen at a place whatever they
-- leave.
use Rattle.std.specs.Prelude.{◌≡◌, ◌⊎◌, ◌≤◌, ◌==◌, ℕ, Bool, true, List, [], ◌∷◌, length, take, Option, Some, None}
use Rattle.std.specs.Prelude.{if◌then◌else◌}
use Rattle.std.specs.List.{list_all}
use Rattle.rec_disk.specs.Disk.{State}

abbrev pub SomeOf : {X : Type 0} → (X → Type 0) → List X → Type 0
SomeOf P [] = ⊥
SomeOf P (x ∷ xs) = P x ⊎ SomeOf P xs

-- what a stop (false) or a crash (true) may bring back, and the files that stay as they are: a stop loses nothing
abbrev pub lost : Bool → State → List (List ℕ → Option ℕ)
lost crash s = if crash then s.olds else []

abbrev pub kept : Bool → State → ℕ → Bool
kept crash s n = if crash then s.safe n else true

-- at a place may stand then what stands there, or after a crash what stood there since its folder was synced
abbrev pub MayStand : Bool → State → List ℕ → Option ℕ → Type 0
MayStand crash s p x = (x ≡ s.at p) ⊎ SomeOf (λ old. x ≡ old p) (lost crash s)

-- what is there then
pub record Left : Type 0 where
  pub at : List ℕ → Option ℕ
  pub bytes : ℕ → List ℕ

-- at a place something by itself, and in a file that isn't synced, after a crash, any bytes
pub record LeavesAt (crash : Bool) (s : State) (left : Left) (p : List ℕ) : Type 0 where
  pub at : MayStand crash s p (left.at p)
  pub bytes : (n : ℕ) → left.at p ≡ Some n → kept crash s n ≡ true → left.bytes n ≡ s.bytes n

-- and so at each
abbrev pub Leaves : Bool → State → Left → Type 0
Leaves crash s left = (p : List ℕ) → LeavesAt crash s left p

-- what stood at all places together at one moment: now, or before a crash at one since a folder was synced
abbrev pub IsMoment : Bool → State → (List ℕ → Option ℕ) → Type 0
IsMoment crash s at = (at ≡ s.at) ⊎ SomeOf (λ old. at ≡ old) (lost crash s)

-- the first of the bytes, or zeros, no more than there are bytes
abbrev pub IsPart : List ℕ → List ℕ → Type 0
IsPart bytes part =
    ((k : ℕ) × (part ≡ take k bytes)) ⊎ ((list_all (λ byte. byte == 0) part ≡ true) × (length part ≤ length bytes))

-- a file has its bytes then, or where they are not kept a part of them
abbrev pub MayHold : Bool → State → ℕ → List ℕ → Type 0
MayHold crash s n bytes = IsPart (s.bytes n) bytes × (kept crash s n ≡ true → bytes ≡ s.bytes n)

-- Of a disk that keeps the changes in one folder in their order: the places of a folder stand as they stood together at
-- one moment, and in a file that isn't synced is a beginning of it, or zeros.
pub record LeavesInOrder (crash : Bool) (folder : List ℕ → List ℕ) (s : State) (left : Left) : Type 0 where
  pub at : (d : List ℕ) → (m : List ℕ → Option ℕ) × IsMoment crash s m × ((p : List ℕ) → folder p ≡ d → left.at p ≡ m p)
  pub bytes : (n : ℕ) → MayHold crash s n (left.bytes n)

-- the bytes of a file, if there is one
abbrev pub shown : (ℕ → List ℕ) → Option ℕ → Option (List ℕ)
shown bytes None = None
shown bytes (Some n) = Some (bytes n)

-- From the one state to the other nothing came to the place, and no file there was written, locked or let go, or given
-- other rights, or became less safe: what a stop or a crash may leave there is what it might have left before.
pub record Spares (p : List ℕ) (s t : State) : Type 0 where
  pub at : t.at p ≡ s.at p
  pub may : (x : Option ℕ) → MayStand true t p x → MayStand true s p x
  pub bytes : (n : ℕ) → MayStand true t p (Some n) → t.bytes n ≡ s.bytes n
  pub version : (n : ℕ) → MayStand true t p (Some n) → t.version n ≡ s.version n
  pub held : (n : ℕ) → MayStand true t p (Some n) → t.held n ≡ s.held n
  pub safe : (n : ℕ) → MayStand true t p (Some n) → s.safe n ≡ true → t.safe n ≡ true
  pub rights : (n : ℕ) → MayStand true t p (Some n) → t.rights n ≡ s.rights n
  pub lets : t.lets ≡ s.lets
