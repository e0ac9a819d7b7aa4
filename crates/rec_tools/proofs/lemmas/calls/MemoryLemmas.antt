-- A put of a home in memory that fails is one call, as its list of failures says.
use Rattle.std.proofs.Common.{arith, ◌≡◌, ◌∙◌, inl, inr, ℕ, ◌+◌, ◌-◌, ◌^◌, ◌≤◌, min, List, length, take, Option, Some, None, Result, Ok, Err, OnOk, OnErr, refl, ap, sym, subst}
use Rattle.std.specs.Prelude.{MatchResult}
use Rattle.std.proofs.lemmas.List.{take_min}
use Rattle.rec_tools.specs.declared.memory.MemoryHome.{MemoryHome}
use Rattle.rec_tools.specs.Home.{Write, written, Call, put_some, CountsOne}
use Rattle.rec_tools.specs.Memory.{writes_left, held, IsCut, IsScripted, IsCall}

-- the fault of this number was sought, and counted
pub record Sought (old mid : MemoryHome) : Type 0 where
  pub contents : held mid ≡ held old
  pub numbered : mid.calls ≡ min (old.calls + 1) (2 ^ 64 - 1)
  pub faults : mid.faults.items ≡ old.faults.items
  pub refused : mid.refused ≡ old.refused

module _ (old mid new : MemoryHome) (writes : List Write) (sought : Sought old mid)
    (calls : new.calls ≡ mid.calls) (faults : new.faults.items ≡ mid.faults.items) where
  -- what the list says of the call
  abbrev said : Option ℕ
  said = writes_left old.faults.items old.calls

  abbrev pub Failed : Type 0
  Failed = (call : Call) × ((k : ℕ) × (k ≤ length writes) × (call ≡ put_some writes k)) × IsCall old call new

  failed : (k : ℕ) → k ≤ length writes → IsScripted said (put_some writes k) old.refused new.refused → held new ≡ written (held mid) (take k writes) → CountsOne old.failed new.failed → Failed
  failed k le scripted left counted = (
    put_some writes k,
    (k, le, refl),
    record {
      scripted = scripted;
      tells = tt;
      left = left ∙ ap (λ c. written c (take k writes)) sought.contents;
      counts = counted;
      numbered = calls ∙ sought.numbered;
      faults = faults ∙ sought.faults;
    },
  )

  -- a refused copy was counted from there on
  counted_since : CountsOne mid.refused new.refused → CountsOne old.refused new.refused
  counted_since counted = subst (λ n. CountsOne n new.refused) sought.refused counted

  -- the list gives no fault, and there was no memory for a copy
  pub put-short : said ≡ None → IsCut (held mid) 2 writes (held new) → CountsOne mid.refused new.refused → CountsOne old.failed new.failed → Failed
  put-short none (k, lt, left) short counted =
      failed k (omega arith) (subst (λ f. IsScripted f (put_some writes k) old.refused new.refused) (sym none) (omega arith, counted_since short)) left counted

  -- the list says how many are left
  pub put-failing : {X E : Type 0} (result : Result X E) (most : ℕ) → said ≡ Some most → CountsOne old.failed new.failed
      → OnOk result (held new ≡ written (held mid) (take most writes)) → OnErr result (IsCut (held mid) most writes (held new))
      → MatchResult result (λ _. new.refused ≡ mid.refused) (λ _. CountsOne mid.refused new.refused) → Failed
  put-failing (Ok u) most some counted put cut same =
      failed (min most (length writes)) (omega arith)
      (subst (λ f. IsScripted f (put_some writes (min most (length writes))) old.refused new.refused) (sym some) (inl (refl, same ∙ sought.refused)))
      (put ∙ ap (written (held mid)) (sym (take_min most writes))) counted
  put-failing (Err e) most some counted put (k, lt, left) short =
      failed k (omega arith) (subst (λ f. IsScripted f (put_some writes k) old.refused new.refused) (sym some) (inr (lt, counted_since short))) left counted
