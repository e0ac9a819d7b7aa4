-- The two contents that a home keeps, the calls of a home and how each went, and what they leave.
use Rattle.std.specs.Prelude.{◌≡◌, ◌⊎◌, ℕ, ◌≤◌, List, [], ◌∷◌, length, take, Option, Some, None, Result, Ok, Err}
use Rattle.rec_text.specs.declared.fault.Fault.{Fault}
use Rattle.rec_text.specs.declared.fault.Fault.TheVariants.{OutOfMemory}
use Rattle.rec_text.specs.Sink.{HasRisen, one_more}
use Rattle.rec_tools.specs.declared.home.Which.{Which}
use Rattle.rec_tools.specs.declared.home.Which.TheVariants.{Base, Journal}

-- ---- the contents

pub record Contents : Type 0 where
  pub file : List ℕ
  pub journal : List ℕ

abbrev pub content_of : Contents → Which → List ℕ
content_of c Base = c.file
content_of c Journal = c.journal

-- one content is now these bytes, and the other is as before
abbrev pub with_content : Contents → Which → List ℕ → Contents
with_content c Base bytes = record { file = bytes; journal = c.journal }
with_content c Journal bytes = record { file = c.file; journal = bytes }

-- ---- writes

-- bytes that are to be put instead of a content
pub record Write : Type 0 where
  pub which : Which
  pub bytes : List ℕ

-- the journal is put in place before the file, so that where only the first is there it tells what became of the edit
abbrev pub writes_by : List ℕ → Option (List ℕ) → List Write
writes_by journal None = record { which = Journal; bytes = journal } ∷ []
writes_by journal (Some file) = record { which = Journal; bytes = journal } ∷ record { which = Base; bytes = file } ∷ []

-- the contents after writes, one after the other
abbrev pub written : Contents → List Write → Contents
written c [] = c
written c (w ∷ writes) = written (with_content c w.which w.bytes) writes

-- ---- calls

-- a call of a home, and how it went
pub data Call : Type 0 where
  -- these bytes were read
  got : Which → List ℕ → Call
  -- memory ran out at a read
  lacked : Which → Call
  -- a read failed
  unread : Which → Call
  -- all of these were put in place
  put_all : List Write → Call
  -- a put of these failed, and left the first n of them in place
  put_some : List Write → ℕ → Call

-- the contents after a call
abbrev pub left_by : Contents → Call → Contents
left_by c (got which bytes) = c
left_by c (lacked which) = c
left_by c (unread which) = c
left_by c (put_all writes) = written c writes
left_by c (put_some writes k) = written c (take k writes)

-- the contents after calls
abbrev pub left_by_all : Contents → List Call → Contents
left_by_all c [] = c
left_by_all c (call ∷ calls) = left_by_all (left_by c call) calls

-- what was read is what stood there
abbrev pub TellsOf : Contents → Call → Type 0
TellsOf c (got which bytes) = bytes ≡ content_of c which
TellsOf c (lacked which) = Unit {0}
TellsOf c (unread which) = Unit {0}
TellsOf c (put_all writes) = Unit {0}
TellsOf c (put_some writes k) = Unit {0}

-- what each of the calls read is what stood there at its time
abbrev pub TellAll : Contents → List Call → Type 0
TellAll c [] = Unit {0}
TellAll c (call ∷ calls) = TellsOf c call × TellAll (left_by c call) calls

-- ---- failures

abbrev pub Fails : Call → Type 0
Fails (got which bytes) = ⊥
Fails (lacked which) = ⊥
Fails (unread which) = Unit {0}
Fails (put_all writes) = ⊥
Fails (put_some writes k) = Unit {0}

-- one of the calls failed
abbrev pub HasFailed : List Call → Type 0
HasFailed [] = ⊥
HasFailed (call ∷ calls) = Fails call ⊎ HasFailed calls

-- one more failure was counted; at its greatest value a count stays
abbrev pub CountsOne : ℕ → ℕ → Type 0
CountsOne old new = (old ≤ new) × (new ≡ one_more old)

-- a failure counts one, and any other call none
abbrev pub CountsFailure : ℕ → Call → ℕ → Type 0
CountsFailure old (got which bytes) new = new ≡ old
CountsFailure old (lacked which) new = new ≡ old
CountsFailure old (unread which) new = CountsOne old new
CountsFailure old (put_all writes) new = new ≡ old
CountsFailure old (put_some writes k) new = CountsOne old new

-- a count of failures rose from the one to the other
abbrev pub Rose : {H : Type 0} → (H → ℕ) → H → H → Type 0
Rose {H} failures old new = HasRisen (failures old) (failures new)

-- ---- how a home goes through calls

-- from the one home the calls lead to the other, each as the home's own step says
abbrev pub Went : {H : Type 0} → (H → Call → H → Type 0) → H → List Call → H → Type 0
Went {H} goes old [] new = new ≡ old
Went {H} goes old (call ∷ calls) new = (mid : H) × goes old call mid × Went goes mid calls new

-- by the calls the one home, which told of these contents, became the other, which tells of what they leave of them
abbrev pub WentOn : {H : Type 0} → (H → Call → H → Type 0) → (H → Option Contents) → Contents → H → List Call → H
    → Type 0
WentOn goes told c old calls new = Went goes old calls new × (told new ≡ Some (left_by_all c calls))

-- the call that a read with this answer was
abbrev pub read_call : Which → Result (List ℕ) Fault → Call
read_call which (Ok bytes) = got which bytes
read_call which (Err OutOfMemory) = lacked which
read_call which (Err _) = unread which

-- a call that a put of these with this answer may have been
abbrev pub IsPutCall : {X : Type 0} → List Write → Result X Fault → Call → Type 0
IsPutCall writes (Ok _) call = call ≡ put_all writes
IsPutCall writes (Err _) call = (k : ℕ) × (k ≤ length writes) × (call ≡ put_some writes k)
