-- What requests do, call by call, whether the home fails or not.
use Rattle.std.specs.Prelude.{◌≡◌, ◌⊎◌, ℕ, ◌≤◌, List, [], ◌∷◌, ◌++◌, length, map, take, Option, Some, Result, Ok, Err}
use Rattle.rec_text.specs.declared.fault.Fault.{Fault}
use Rattle.rec_text.specs.declared.fault.Fault.TheVariants.{OutOfMemory, StoreFailed}
use Rattle.rec_text.specs.Sink.{HasRisen}
use Rattle.rec_tools.specs.declared.home.Which.{Which}
use Rattle.rec_tools.specs.declared.home.Which.TheVariants.{Base as TheFile, Journal as TheJournal}
use Rattle.rec_tools.specs.declared.request.Request.{Request}
use Rattle.rec_tools.specs.declared.request.Reply.{Reply}
use Rattle.rec_tools.specs.Home.{Contents, content_of, Write, written, Call, got, lacked, unread, put_all, put_some}
use Rattle.rec_tools.specs.Home.{TellAll, Went}
use Rattle.rec_tools.specs.Printouts.{Printed, IsBoth, IsSilence}
use Rattle.rec_tools.specs.Requests.{asked_of}
use Rattle.rec_tools.specs.Asked.{Asked, reads_of}
use Rattle.rec_tools.specs.Outcomes.{Outcome, IsRequestOutcome}

abbrev pub Answer : Type 0
Answer = Result Reply Fault

-- ---- calls

-- these contents were read, in this order
abbrev pub gots : Contents → List Which → List Call
gots c whiches = map (λ which. got which (content_of c which)) whiches

-- these were written, by one call unless there are none
abbrev pub puts : List Write → List Call
puts [] = []
puts (w ∷ writes) = put_all (w ∷ writes) ∷ []

-- one of the reads found no memory or failed, and none came after it
abbrev pub StopsReading : List Which → List Call → Fault → Type 0
StopsReading [] [] fault = ⊥
StopsReading [] (call ∷ calls) fault = ⊥
StopsReading (which ∷ rest) [] fault = ⊥
StopsReading (which ∷ rest) (call ∷ calls) fault =
    ((call ≡ lacked which) × (calls ≡ []) × (fault ≡ OutOfMemory))
    ⊎ (((call ≡ unread which) × (calls ≡ []) × (fault ≡ StoreFailed))
    ⊎ ((bytes : List ℕ) × (call ≡ got which bytes) × StopsReading rest calls fault))

-- the call that was to write these failed, and none came after it; where there are none, no call was to
abbrev pub StopsWriting : List Write → List Call → Type 0
StopsWriting [] calls = ⊥
StopsWriting (w ∷ writes) calls =
    (k : ℕ) × (k ≤ length (w ∷ writes)) × (calls ≡ put_some (w ∷ writes) k ∷ [])

-- both contents were read, or a read found no memory or failed
abbrev pub AreRead : Result (List ℕ × List ℕ) Fault → List Call → Type 0
AreRead (Ok pair) calls = calls ≡ got TheFile pair.0 ∷ got TheJournal pair.1 ∷ []
AreRead (Err fault) calls = StopsReading (TheFile ∷ TheJournal ∷ []) calls fault

-- the writes of an outcome were made, and its reply is the answer; or their call failed
abbrev pub IsAnswered : Outcome → Answer → List Call → Type 0
IsAnswered o answer calls =
    ((answer ≡ Ok o.reply) × (calls ≡ puts o.writes)) ⊎ ((answer ≡ Err StoreFailed) × StopsWriting o.writes calls)

-- ---- one request

-- a prefix of the text that is printed
abbrev pub IsPrefix : Contents → Asked → List ℕ → Type 0
IsPrefix c asked printed = (o : Outcome) × (n : ℕ) × IsRequestOutcome c asked (Ok o) × (printed ≡ take n o.text)

-- What was asked for on the contents is answered so, by these calls, and this went out.
module _ (c : Contents) (asked : Asked) (answer : Answer) (calls : List Call) (p : Printed) where
  -- the contents weren't read
  pub record IsUnread : Type 0 where
    pub fault : Fault
    pub stops : StopsReading (reads_of asked) calls fault
    pub answered : answer ≡ Err fault
    pub silent : IsSilence p

  -- memory ran out after the reads, before anything was written; the sink didn't fail
  pub record RanShort : Type 0 where
    pub read : calls ≡ gots c (reads_of asked)
    pub answered : answer ≡ Err OutOfMemory
    pub printed : (p.text ≡ []) ⊎ IsPrefix c asked p.text
    pub kept : p.after ≡ p.before

  -- it was refused
  pub record IsRefused : Type 0 where
    pub read : calls ≡ gots c (reads_of asked)
    pub fault : Fault
    pub outcome : IsRequestOutcome c asked (Err fault)
    pub answered : answer ≡ Err fault
    pub silent : IsSilence p

  -- the sink failed, before anything was written
  pub record StopsPrinting : Type 0 where
    pub read : calls ≡ gots c (reads_of asked)
    pub answered : answer ≡ Err StoreFailed
    pub printed : IsPrefix c asked p.text
    pub risen : HasRisen p.before p.after

  -- it was done, or a write failed; the sink didn't fail
  pub record IsCarriedOut : Type 0 where
    pub o : Outcome
    pub outcome : IsRequestOutcome c asked (Ok o)
    pub following : List Call
    pub calls_are : calls ≡ gots c (reads_of asked) ++ following
    pub answered : IsAnswered o answer following
    pub printed : p.text ≡ o.text
    pub kept : p.after ≡ p.before

  abbrev pub Does : Type 0
  Does = IsUnread ⊎ (RanShort ⊎ (IsRefused ⊎ (StopsPrinting ⊎ IsCarriedOut)))

-- ---- what a failed write leaves

-- of the outcome's writes the first k are there, and the others are not
abbrev pub IsCutShort : Contents → Asked → Option Contents → Type 0
IsCutShort c asked new = (o : Outcome) × (k : ℕ) × IsRequestOutcome c asked (Ok o)
    × (new ≡ Some (written c (take k o.writes)))

-- ---- on a home

-- By these calls the one home became the other. They tell of some contents, and whatever contents they tell of, this
-- was done.
abbrev pub Attempts : {H : Type 0} → (H → Call → H → Type 0) → H → H → Asked → Answer → List Call → Printed → Type 0
Attempts goes old new asked answer calls p = Went goes old calls new
    × ((c : Contents) × TellAll c calls) × ((c : Contents) → TellAll c calls → Does c asked answer calls p)

-- One answer for each request, by calls of its own on the home that the request before it left; what is printed is what
-- each of them prints, one after another.
abbrev pub AttemptsAll : {H : Type 0} → (H → Call → H → Type 0) → H → H → List Request → List Answer → List Call
    → Printed → Type 0
AttemptsAll goes old new [] [] calls p = (new ≡ old) × (calls ≡ []) × IsSilence p
AttemptsAll goes old new [] (answer ∷ answers) calls p = ⊥
AttemptsAll goes old new (request ∷ requests) [] calls p = ⊥
AttemptsAll {H} goes old new (request ∷ requests) (answer ∷ answers) calls p =
    (mid : H) × (now later : List Call) × (first rest : Printed) × (calls ≡ now ++ later) × IsBoth p first rest
    × Attempts goes old mid (asked_of request) answer now first × AttemptsAll goes mid new requests answers later rest
