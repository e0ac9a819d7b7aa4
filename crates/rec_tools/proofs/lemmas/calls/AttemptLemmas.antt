-- The calls of a request's parts: reads, and how a decision is carried out.
use Rattle.std.proofs.Common.{◌≡◌, ◌⊎◌, inl, inr, ℕ, ◌≤◌, List, [], ◌∷◌, length, Option, Some, None, Result, Ok, Err, IsErrAnd, ap, sym, subst, refl, ◌∙◌}
use Rattle.rec_text.specs.declared.fault.Fault.{Fault}
use Rattle.rec_text.specs.declared.fault.Fault.TheVariants.{OutOfMemory, StoreFailed}
use Rattle.rec_tools.specs.declared.home.Which.{Which}
use Rattle.rec_tools.specs.declared.request.Reply.{Reply}
use Rattle.rec_tools.specs.Home.{writes_by, Call, got, put_all, put_some, read_call, IsPutCall}
use Rattle.rec_tools.specs.Outcomes.{replacing}
use Rattle.rec_tools.specs.Attempts.{puts, StopsReading, StopsWriting, IsAnswered}
use Rattle.rec_tools.specs.proving.Silently.{ByCalls}
use Rattle.rec_tools.proofs.lemmas.calls.CallLemmas.{one_call}

-- ---- refusals

-- a read's own refusals
abbrev pub IsReadFault : Fault → Type 0
IsReadFault fault = (fault ≡ OutOfMemory) ⊎ (fault ≡ StoreFailed)

-- what the exit of a `?` returns
pub refused_with : {X : Type 0} (answer : Result X Fault) (fault : Fault) → IsErrAnd answer (λ given. given ≡ fault) → answer ≡ Err fault
refused_with (Ok value) fault h = absurd h
refused_with (Err given) fault h = ap Err h

-- ---- reads

stops_at_first : (which : Which) (rest : List Which) (fault : Fault) → IsReadFault fault → StopsReading (which ∷ rest) (read_call which (Err fault) ∷ []) fault
stops_at_first which rest fault (inl e) = subst (λ f. StopsReading (which ∷ rest) (read_call which (Err f) ∷ []) f) (sym e) (inl (refl, refl, refl))
stops_at_first which rest fault (inr e) = subst (λ f. StopsReading (which ∷ rest) (read_call which (Err f) ∷ []) f) (sym e) (inr (inl (refl, refl, refl)))

-- the first read stopped
pub read-stopped : {H : Type 0} (goes : H → Call → H → Type 0) (old new : H) (which : Which) (rest : List Which) (fault : Fault)
    → goes old (read_call which (Err fault)) new → IsReadFault fault → ByCalls goes old new (λ calls. StopsReading (which ∷ rest) calls fault)
read-stopped goes old new which rest fault step why =
    (read_call which (Err fault) ∷ [], one_call goes old new _ step, stops_at_first which rest fault why)

-- the read after it stopped
pub next_read-stopped : {H : Type 0} (goes : H → Call → H → Type 0) (old mid new : H) (first which : Which) (rest : List Which) (bytes : List ℕ) (fault : Fault)
    → goes old (got first bytes) mid → goes mid (read_call which (Err fault)) new → IsReadFault fault
    → ByCalls goes old new (λ calls. StopsReading (first ∷ which ∷ rest) calls fault)
next_read-stopped goes old mid new first which rest bytes fault step next why =
    let stopped = read-stopped goes mid new which rest fault next why in
    (got first bytes ∷ stopped.0, (mid, step, stopped.1), inr (inr (bytes, refl, stopped.2)))

-- ---- a decision to put these in place

-- a put of these was one call
abbrev pub IsPutBy : {H X : Type 0} → (H → Call → H → Type 0) → H → H → List ℕ → Option (List ℕ) → Result X Fault → Type 0
IsPutBy goes old new journal file result = (call : Call) × IsPutCall (writes_by journal file) result call × goes old call new

-- a put that failed, as a stop of its writes
stops_put : (journal : List ℕ) (file : Option (List ℕ)) (k : ℕ) (call : Call) → k ≤ length (writes_by journal file) → call ≡ put_some (writes_by journal file) k
    → StopsWriting (writes_by journal file) (call ∷ [])
stops_put journal None k call le e = (k, le, ap (λ made. made ∷ []) e)
stops_put journal (Some bytes) k call le e = (k, le, ap (λ made. made ∷ []) e)

puts_all : (journal : List ℕ) (file : Option (List ℕ)) → put_all (writes_by journal file) ∷ [] ≡ puts (writes_by journal file)
puts_all journal None = refl
puts_all journal (Some bytes) = refl

module _ {H : Type 0} (goes : H → Call → H → Type 0) (old new : H) (journal bytes : List ℕ) (file given : Option (List ℕ)) (same : bytes ≡ journal) (same_too : given ≡ file)
    (reply : Reply) where
  -- by the bytes of the decision
  known : {X : Type 0} (result : Result X Fault) → IsPutBy goes old new bytes given result → IsPutBy goes old new journal file result
  known result put = subst (λ j. IsPutBy goes old new j file result) same (subst (λ f. IsPutBy goes old new bytes f result) same_too put)

  pub put-stopped : (X : Type 0) (fault : Fault) → fault ≡ StoreFailed → IsPutBy {X = X} goes old new bytes given (Err fault)
      → ByCalls goes old new (IsAnswered (replacing journal file reply) (Err fault))
  put-stopped X fault why put =
      let (call, (k, le, e), step) = known {X = X} (Err fault) put in
      (call ∷ [], one_call goes old new call step, inr (ap Err why, stops_put journal file k call le e))

  pub put-made : (X : Type 0) (x : X) → IsPutBy goes old new bytes given (Ok x)
      → ByCalls goes old new (IsAnswered (replacing journal file reply) (Ok reply))
  put-made X x put =
      let (call, e, step) = known (Ok x) put in
      (call ∷ [], one_call goes old new call step, inl (refl, ap (λ made. made ∷ []) e ∙ puts_all journal file))
