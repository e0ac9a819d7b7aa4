-- What a sink has taken of what a call prints, and how its count of failures stands.
use Rattle.std.specs.Prelude.{◌≡◌, ◌⊎◌, ℕ, ◌≤◌, List, Option, Result, Ok, Err, MatchResult, IsErrOf}
use Rattle.std.specs.Io.KnownBytes.{Appends, Keeps}
use Rattle.rec_text.specs.declared.fault.Fault.{Fault}
use Rattle.rec_text.specs.declared.fault.Fault.TheVariants.{OutOfMemory, StoreFailed}
use Rattle.rec_text.specs.Sink.{AppendsPrefix, HasRisen}

-- What went out of a call that prints a text or refuses it: at success the whole text; where memory ran out or the sink
-- failed, a prefix of it; at another refusal nothing.
abbrev pub Puts : {X : Type 0} → (Result (List ℕ) Fault → Type 0) → Option (List ℕ) → Option (List ℕ) → Result X Fault
    → Type 0
Puts IsText old new (Ok done) = (text : List ℕ) × IsText (Ok text) × Appends old new text
Puts IsText old new (Err OutOfMemory) =
    Keeps old new ⊎ ((text : List ℕ) × IsText (Ok text) × AppendsPrefix old new text)
Puts IsText old new (Err StoreFailed) = (text : List ℕ) × IsText (Ok text) × AppendsPrefix old new text
Puts IsText old new (Err fault) = IsText (Err fault) × Keeps old new

-- A sink tells what it holds and how often it failed. A call took it from `old` to `new`.
module _ {S : Type 0} (contents : S → Option (List ℕ)) (failures : S → ℕ) (old new : S) where
  -- the sink took the whole text, and didn't fail
  pub record HasTaken (text : List ℕ) : Type 0 where
    pub whole : Appends (contents old) (contents new) text
    pub sound : failures new ≡ failures old

  -- the sink took a prefix of the text; then memory ran out, and the sink didn't fail, or it failed
  pub record HasStopped (text : List ℕ) (fault : Fault) : Type 0 where
    pub prefix : AppendsPrefix (contents old) (contents new) text
    pub counted : failures old ≤ failures new
    pub cause : ((fault ≡ OutOfMemory) × (failures new ≡ failures old))
        ⊎ ((fault ≡ StoreFailed) × HasRisen (failures old) (failures new))

  -- the call prints this text; where it is refused, a prefix of it
  abbrev pub Prints : {X : Type 0} → List ℕ → Result X Fault → Type 0
  Prints text result = MatchResult result (λ _. HasTaken text) (HasStopped text)

  -- This went out of the call, and either it answers that the store failed, or the sink didn't fail in it.
  pub record PrintsAndCounts {X : Type 0} (WentOut : Option (List ℕ) → Option (List ℕ) → Result X Fault → Type 0)
      (result : Result X Fault) : Type 0 where
    pub printed : WentOut (contents old) (contents new) result
    pub counted : failures old ≤ failures new
    pub told : IsErrOf result StoreFailed ⊎ (failures new ≡ failures old)
    pub store_failed : IsErrOf result StoreFailed → HasRisen (failures old) (failures new)
