-- How a home goes through calls: what it holds afterwards, and how often it failed.
use Rattle.std.proofs.Common.{◌≡◌, ◌⊎◌, inl, inr, ℕ, ◌≤◌, ◌^◌, ◌-◌, List, [], ◌∷◌, ◌++◌, Option, Some, None, ap, subst, refl, ◌∙◌, arith}
use Rattle.std.specs.Prelude.{IfSome}
use Rattle.std.proofs.lemmas.Bool.{cases_lt}
use Rattle.rec_text.specs.Sink.{HasRisen}
use Rattle.rec_tools.specs.Home.{Contents, Call, got, lacked, unread, put_all, put_some, left_by, left_by_all, TellsOf, TellAll, Fails, HasFailed, CountsOne, CountsFailure, Went}

-- ---- calls after calls

pub one_call : {H : Type 0} (goes : H → Call → H → Type 0) (old new : H) (call : Call) → goes old call new → Went goes old (call ∷ []) new
one_call goes old new call step = (new, step, refl)

pub went_on : {H : Type 0} (goes : H → Call → H → Type 0) (old mid new : H) (calls later : List Call)
    → Went goes old calls mid → Went goes mid later new → Went goes old (calls ++ later) new
went_on goes old mid new [] later went more = subst (λ home. Went goes home later new) went more
went_on goes old mid new (call ∷ calls) later went more = (went.0, went.1, went_on goes went.0 mid new calls later went.2 more)

pub left_by_all-append : (c : Contents) (calls later : List Call) → left_by_all c (calls ++ later) ≡ left_by_all (left_by_all c calls) later
left_by_all-append c [] later = refl
left_by_all-append c (call ∷ calls) later = left_by_all-append (left_by c call) calls later

pub TellAll-prefix : (c : Contents) (calls later : List Call) → TellAll c (calls ++ later) → TellAll c calls
TellAll-prefix c [] later told = tt
TellAll-prefix c (call ∷ calls) later told = (told.0, TellAll-prefix (left_by c call) calls later told.1)

pub TellAll-rest : (c : Contents) (calls later : List Call) → TellAll c (calls ++ later) → TellAll (left_by_all c calls) later
TellAll-rest c [] later told = told
TellAll-rest c (call ∷ calls) later told = TellAll-rest (left_by c call) calls later told.1

pub TellAll-join : (c : Contents) (calls later : List Call) → TellAll c calls → TellAll (left_by_all c calls) later → TellAll c (calls ++ later)
TellAll-join c [] later told more = more
TellAll-join c (call ∷ calls) later told more = (told.0, TellAll-join (left_by c call) calls later told.1 more)

pub HasFailed-prefix : (calls later : List Call) → HasFailed calls → HasFailed (calls ++ later)
HasFailed-prefix [] later failed = absurd failed
HasFailed-prefix (call ∷ calls) later (inl failed) = inl failed
HasFailed-prefix (call ∷ calls) later (inr failed) = inr (HasFailed-prefix calls later failed)

pub HasFailed-rest : (calls later : List Call) → HasFailed later → HasFailed (calls ++ later)
HasFailed-rest [] later failed = failed
HasFailed-rest (call ∷ calls) later failed = inr (HasFailed-rest calls later failed)

-- the calls that came first failed, or those that came then
pub HasFailed-parts : (calls later : List Call) → HasFailed (calls ++ later) → HasFailed calls ⊎ HasFailed later
HasFailed-parts [] later failed = inr failed
HasFailed-parts (call ∷ calls) later (inl failed) = inl (inl failed)
HasFailed-parts (call ∷ calls) later (inr failed) = elim (HasFailed-parts calls later failed) [ inl first ↦ inl (inr first) | inr rest ↦ inr rest ]

-- ---- failures, counted

at_greatest : (n m k : ℕ) → n ≤ m → m ≤ k → m ≡ 2 ^ 64 - 1 → HasRisen n k
at_greatest n m k le more e = grind arith

pub rises_before : (n m k : ℕ) → n ≤ m → m ≤ k → HasRisen n m → HasRisen n k
rises_before n m k le more (inl lt) = inl (omega arith)
rises_before n m k le more (inr e) = at_greatest n m k le more e

pub rises_after : (n m k : ℕ) → n ≤ m → HasRisen m k → HasRisen n k
rises_after n m k le (inl lt) = inl (omega arith)
rises_after n m k le (inr e) = inr e

never_falls : (n : ℕ) (call : Call) (m : ℕ) → CountsFailure n call m → n ≤ m
never_falls n (got which bytes) m counted = omega arith
never_falls n (lacked which) m counted = omega arith
never_falls n (unread which) m counted = counted.0
never_falls n (put_all writes) m counted = omega arith
never_falls n (put_some writes k) m counted = counted.0

one_rises : (n m : ℕ) → CountsOne n m → HasRisen n m
one_rises n m counted =
    elim (cases_lt n (2 ^ 64 - 1)) [
      | inl less ↦ inl (omega (arith, counted.1))
      | inr most ↦ inr (omega (arith, counted.1))
    ]

rises : (n : ℕ) (call : Call) (m : ℕ) → CountsFailure n call m → Fails call → HasRisen n m
rises n (got which bytes) m counted failed = absurd failed
rises n (lacked which) m counted failed = absurd failed
rises n (unread which) m counted failed = one_rises n m counted
rises n (put_all writes) m counted failed = absurd failed
rises n (put_some writes k) m counted failed = one_rises n m counted

stays : (n : ℕ) (call : Call) (m : ℕ) → CountsFailure n call m → (Fails call → ⊥) → m ≡ n
stays n (got which bytes) m counted held = counted
stays n (lacked which) m counted held = counted
stays n (unread which) m counted held = absurd (held tt)
stays n (put_all writes) m counted held = counted
stays n (put_some writes k) m counted held = absurd (held tt)

-- a home whose count of failures follows its calls
module _ {H : Type 0} (goes : H → Call → H → Type 0) (failures : H → ℕ)
    (counts : (old new : H) (call : Call) → goes old call new → CountsFailure (failures old) call (failures new)) where
  pub failures_never_fall : (old new : H) (calls : List Call) → Went goes old calls new → failures old ≤ failures new
  failures_never_fall old new [] went = omega (arith, ap failures went)
  failures_never_fall old new (call ∷ calls) went =
      omega (arith, never_falls _ call _ (counts old went.0 call went.1), failures_never_fall went.0 new calls went.2)

  pub failures_rise : (old new : H) (calls : List Call) → Went goes old calls new → HasFailed calls → HasRisen (failures old) (failures new)
  failures_rise old new [] went failed = absurd failed
  failures_rise old new (call ∷ calls) went (inl failed) =
      let counted = counts old went.0 call went.1 in
      rises_before _ _ _ (never_falls _ call _ counted) (failures_never_fall went.0 new calls went.2) (rises _ call _ counted failed)
  failures_rise old new (call ∷ calls) went (inr failed) =
      rises_after _ _ _ (never_falls _ call _ (counts old went.0 call went.1)) (failures_rise went.0 new calls went.2 failed)

  pub failures_stay : (old new : H) (calls : List Call) → Went goes old calls new → (HasFailed calls → ⊥) → failures new ≡ failures old
  failures_stay old new [] went held = ap failures went
  failures_stay old new (call ∷ calls) went held =
      failures_stay went.0 new calls went.2 (λ failed. held (inr failed)) ∙ stays _ call _ (counts old went.0 call went.1) (λ failed. held (inl failed))

-- ---- what a home holds

-- the calls tell what stood there, and what they leave stands there afterwards
abbrev pub Follows : Option Contents → List Call → Option Contents → Type 0
Follows old calls new = IfSome old (λ c. TellAll c calls × (new ≡ Some (left_by_all c calls)))

follows_first : (old mid new : Option Contents) (call : Call) (calls : List Call)
    → IfSome old (λ c. TellsOf c call × (mid ≡ Some (left_by c call))) → Follows mid calls new → Follows old (call ∷ calls) new
follows_first None mid new call calls first rest = tt
follows_first (Some c) mid new call calls first rest =
    let then : Follows (Some (left_by c call)) calls new = subst (λ o. Follows o calls new) first.1 rest in
    ((first.0, then.0), then.1)

follows_none : (old new : Option Contents) → new ≡ old → Follows old [] new
follows_none None new same = tt
follows_none (Some c) new same = (tt, same)

-- a home whose contents follow its calls
module _ {H : Type 0} (goes : H → Call → H → Type 0) (contents : H → Option Contents)
    (follows : (old new : H) (call : Call) → goes old call new → IfSome (contents old) (λ c. TellsOf c call × (contents new ≡ Some (left_by c call)))) where
  pub contents_follow : (old new : H) (calls : List Call) → Went goes old calls new → Follows (contents old) calls (contents new)
  contents_follow old new [] went = follows_none (contents old) (contents new) (ap contents went)
  contents_follow old new (call ∷ calls) went =
      follows_first (contents old) (contents went.0) (contents new) call calls (follows old went.0 call went.1) (contents_follow went.0 new calls went.2)
