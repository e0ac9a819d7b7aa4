-- What is seen at a place whatever a stop or a crash leaves.
use Rattle.std.specs.Prelude.{◌≡◌, ℕ, Bool, true, List, Option, Some, None}
use Rattle.rec_disk.specs.Disk.{State}
use Rattle.rec_disk.specs.Lasting.{kept, MayStand, shown}

abbrev pub StaysSafe : Bool → State → Option ℕ → Type 0
StaysSafe crash s None = Unit {0}
StaysSafe crash s (Some n) = kept crash s n ≡ true

-- this holds of what stands so at a place, then too
pub record IsSeen (crash : Bool) (P : Option (List ℕ) → Type 0) (s : State) (x : Option ℕ) : Type 0 where
  pub seen : P (shown s.bytes x)
  pub stays : StaysSafe crash s x

-- this holds of whatever may stand at the place
abbrev pub Outlasts : Bool → (Option (List ℕ) → Type 0) → State → List ℕ → Type 0
Outlasts crash P s p = (x : Option ℕ) → MayStand crash s p x → IsSeen crash P s x

-- what stands at the place is what is seen there then
abbrev pub IsSettled : Bool → List ℕ → State → Type 0
IsSettled crash p s = Outlasts crash (λ x. x ≡ shown s.bytes (s.at p)) s p

-- the file doesn't stand at the place, and a crash doesn't bring it there
abbrev pub Avoids : State → List ℕ → ℕ → Type 0
Avoids s p n = ¬ MayStand true s p (Some n)

-- a file with these bytes stands at the place, and its bytes are synced
pub record Waits (s : State) (p bytes : List ℕ) : Type 0 where
  pub n : ℕ
  pub at : s.at p ≡ Some n
  pub is : s.bytes n ≡ bytes
  pub safe : s.safe n ≡ true

-- nothing stands, or stood, anywhere else than before
pub record IsUnmoved (s t : State) : Type 0 where
  pub at : t.at ≡ s.at
  pub olds : t.olds ≡ s.olds
