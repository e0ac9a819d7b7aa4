-- A home in memory: what it holds, and which of its calls fail.
use Rattle.std.specs.Prelude.{◌≡◌, ◌⊎◌, ℕ, ◌+◌, ◌-◌, ◌^◌, ◌<◌, min, List, [], ◌∷◌, length, take, Option, Some, None}
use Rattle.std.specs.Prelude.{◌==◌, if◌then◌else◌}
use Rattle.rec_tools.specs.declared.memory.Failing.{Failing}
use Rattle.rec_tools.specs.declared.memory.MemoryHome.{MemoryHome}
use Rattle.rec_tools.specs.Home.{Contents, Write, written, Call, got, lacked, unread, put_all, put_some, left_by}
use Rattle.rec_tools.specs.Home.{TellsOf, CountsOne, CountsFailure}

-- how many writes the call of this number leaves where it fails, as the first fault that is given for it says
abbrev pub writes_left : List Failing → ℕ → Option ℕ
writes_left [] call = None
writes_left (failing ∷ faults) call = if failing.call == call then Some failing.left else writes_left faults call

-- the two contents
abbrev pub held : MemoryHome → Contents
held home = record { file = home.file; journal = home.journal }

-- of the writes the first are made, fewer than `most` and not all
abbrev pub IsCut : Contents → ℕ → List Write → Contents → Type 0
IsCut old most writes new = (k : ℕ) × (k < min most (length writes)) × (new ≡ written old (take k writes))

-- as many writes as these are made; or fewer, and one more refused copy was counted
abbrev pub LeavesOf : ℕ → ℕ → ℕ → ℕ → Type 0
LeavesOf most k old new = ((k ≡ most) × (new ≡ old)) ⊎ ((k < most) × CountsOne old new)

-- Where the list gives a fault, the call fails, and a put leaves as many of its writes as the fault says, or fewer
-- where it finds no memory for a copy. Where it gives none, only a put that finds none fails, and it doesn't leave all.
-- That a copy found no memory is counted, from the old count to the new one.
abbrev pub IsScripted : Option ℕ → Call → ℕ → ℕ → Type 0
IsScripted None (got which bytes) old new = new ≡ old
IsScripted None (lacked which) old new = new ≡ old
IsScripted None (unread which) old new = ⊥
IsScripted None (put_all writes) old new = new ≡ old
IsScripted None (put_some writes k) old new = (k < length writes) × CountsOne old new
IsScripted (Some left) (got which bytes) old new = ⊥
IsScripted (Some left) (lacked which) old new = ⊥
IsScripted (Some left) (unread which) old new = new ≡ old
IsScripted (Some left) (put_all writes) old new = ⊥
IsScripted (Some left) (put_some writes k) old new = LeavesOf (min left (length writes)) k old new

-- a call of a home in memory
pub record IsCall (old : MemoryHome) (call : Call) (new : MemoryHome) : Type 0 where
  pub scripted : IsScripted (writes_left old.faults.items old.calls) call old.refused new.refused
  pub tells : TellsOf (held old) call
  pub left : held new ≡ left_by (held old) call
  pub counts : CountsFailure old.failed call new.failed
  pub numbered : new.calls ≡ min (old.calls + 1) (2 ^ 64 - 1)
  pub faults : new.faults.items ≡ old.faults.items
