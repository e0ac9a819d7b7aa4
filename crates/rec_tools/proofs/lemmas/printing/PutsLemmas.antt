-- What goes out of a request that prints, by the steps of which one may refuse it.
use Rattle.std.proofs.Common.{◌≡◌, inl, inr, ℕ, List, Option, Some, None, Result, Ok, Err, refl, ap, subst, sym, arith}
use Rattle.std.specs.Io.KnownBytes.{Keeps}
use Rattle.rec_text.specs.declared.fault.Fault.{Fault}
use Rattle.rec_text.specs.declared.fault.Fault.TheVariants.{OutOfMemory, NoSuchType, StoreFailed}
use Rattle.rec_text.specs.Elements.{Piece}
use Rattle.rec_text.specs.Reading.{IsReading}
use Rattle.rec_text.specs.Faults.{IsMemoryOr}
use Rattle.rec_check.specs.declared.set.Set_.{Set_}
use Rattle.rec_check.specs.Schemas.{IsSchema}
use Rattle.rec_select.specs.Taken.{PrintsAndCounts, Puts}
use Rattle.rec_tools.specs.declared.request.Reply.{Reply}
use Rattle.rec_tools.specs.declared.request.Reply.TheVariants.{Shown}
use Rattle.rec_check.specs.DescribedTexts.{DescribedText, AreDescribed, IsDescribedText}
use Rattle.rec_tools.specs.Printouts.{PutsPrintout, IsShownText, IsTextWith}
use Rattle.rec_tools.specs.Asked.{Printout}
use Rattle.rec_tools.specs.Steps.{Then}
use Rattle.rec_text.proofs.lemmas.FaultLemmas.{ok_is_no_err, same_fault}

-- ---- what went out

abbrev pub IsText : Type 1
IsText = Result (List ℕ) Fault → Type 0

abbrev pub IsPrintout : Type 1
IsPrintout = Result Printout Fault → Type 0

keeps_all : (old : Option (List ℕ)) → Keeps old old
keeps_all None = tt
keeps_all (Some xs) = refl

-- each text that may be put is one of these, with a reply
abbrev pub HaveReplies : IsText → IsPrintout → Type 0
HaveReplies P Q = (text : List ℕ) → P (Ok text) → (reply : Reply) × Q (Ok (record { text = text; reply = reply }))

-- a text that was cut short, or refused, is so with the reply that it would have had
pub PutsPrintout-err : (X : Type 0) (P : IsText) (Q : IsPrintout) (old new : Option (List ℕ)) (fault : Fault) → HaveReplies P Q → ((f : Fault) → P (Err f) → Q (Err f))
    → Puts {X = X} P old new (Err fault) → PutsPrintout Q old new (Err fault)
PutsPrintout-err X P Q old new OutOfMemory replies f (inl kept) = inl kept
PutsPrintout-err X P Q old new OutOfMemory replies f (inr h) = let reply = replies h.0 h.1 in inr (record { text = h.0; reply = reply.0 }, reply.1, h.2)
PutsPrintout-err X P Q old new StoreFailed replies f h = let reply = replies h.0 h.1 in (record { text = h.0; reply = reply.0 }, reply.1, h.2)
PutsPrintout-err X P Q old new _ replies f h = (f _ h.0, h.1)

pub PutsPrintout-err_shown : (X : Type 0) (P Q : IsText) (old new : Option (List ℕ)) (fault : Fault) → ((r : Result (List ℕ) Fault) → P r → Q r)
    → Puts {X = X} P old new (Err fault) → PutsPrintout (IsShownText Q) old new (Err fault)
PutsPrintout-err_shown X P Q old new fault f put =
    PutsPrintout-err X P (IsShownText Q) old new fault (λ text is. (Shown, (f (Ok text) is, refl))) (λ g. f (Err g)) put

-- what puts a text with its reply, or refuses it, does so also where more is known of it
pub PutsPrintout-weaker : (P Q : IsPrintout) (old new : Option (List ℕ)) (result : Result Reply Fault) → ((r : Result Printout Fault) → P r → Q r)
    → PutsPrintout P old new result → PutsPrintout Q old new result
PutsPrintout-weaker P Q old new (Ok reply) f h = (h.0, f _ h.1, h.2)
PutsPrintout-weaker P Q old new (Err OutOfMemory) f (inl kept) = inl kept
PutsPrintout-weaker P Q old new (Err OutOfMemory) f (inr h) = inr (h.0, f _ h.1, h.2)
PutsPrintout-weaker P Q old new (Err StoreFailed) f h = (h.0, f _ h.1, h.2)
PutsPrintout-weaker P Q old new (Err _) f h = (f _ h.0, h.1)

-- the same of a text with a reply
pub IsTextWith-weaker : (reply : Reply) (P Q : IsText) → ((r : Result (List ℕ) Fault) → P r → Q r) → (r : Result Printout Fault) → IsTextWith reply P r → IsTextWith reply Q r
IsTextWith-weaker reply P Q f (Ok p) h = (f _ h.0, h.1)
IsTextWith-weaker reply P Q f (Err fault) h = f _ h

-- ---- the same, and how the count of the sink's failures stands

abbrev pub WentOutOf : Type 0 → Type 1
WentOutOf X = Option (List ℕ) → Option (List ℕ) → Result X Fault → Type 0

module _ {S : Type 0} {contents : S → Option (List ℕ)} {failures : S → ℕ} where
  -- a refusal before anything was put
  pub refused_before : (Q : IsPrintout) (out : S) (fault : Fault) → (Q (Err StoreFailed) → ⊥)
      → IsMemoryOr fault (Q (Err fault)) → PrintsAndCounts contents failures out out (PutsPrintout Q) (Err fault)
  refused_before Q out OutOfMemory never h =
      record { printed = inl (keeps_all (contents out)); counted = omega arith; told = inr refl; store_failed = λ failed. cc }
  refused_before Q out StoreFailed never h = absurd (never h)
  refused_before Q out _ never h = record { printed = (h, keeps_all (contents out)); counted = omega arith; told = inr refl; store_failed = λ failed. cc }

  -- the refusal of a call that printed is that of the whole
  pub refused_within : {X Y : Type 0} {P : WentOutOf X} {Q : WentOutOf Y} {old new : S} {fault : Fault} → PrintsAndCounts contents failures old new P (Err fault)
      → (P (contents old) (contents new) (Err fault) → Q (contents old) (contents new) (Err fault)) → PrintsAndCounts contents failures old new Q (Err fault)
  refused_within h f = record {
    printed = f h.printed;
    counted = h.counted;
    told = elim h.told [ inl e ↦ inl (ap Err (same_fault _ _ e)) | inr kept ↦ inr kept ];
    store_failed = λ failed. h.store_failed (ap Err (same_fault _ _ failed));
  }

  -- a call that printed all is the last
  pub printed_all : {X Y : Type 0} {P : WentOutOf X} {Q : WentOutOf Y} {old new : S} {done : X} {reply : Y} → PrintsAndCounts contents failures old new P (Ok done)
      → (P (contents old) (contents new) (Ok done) → Q (contents old) (contents new) (Ok reply)) → PrintsAndCounts contents failures old new Q (Ok reply)
  printed_all {done = done} h f = record {
    printed = f h.printed;
    counted = h.counted;
    told = elim h.told [ inl e ↦ absurd (ok_is_no_err done StoreFailed ⊥ (sym e)) | inr kept ↦ inr kept ];
    store_failed = λ failed. cc;
  }

  -- more is known of what was printed
  pub printed_weaker : {X : Type 0} {P Q : WentOutOf X} {old new : S} {result : Result X Fault} → PrintsAndCounts contents failures old new P result
      → (P (contents old) (contents new) result → Q (contents old) (contents new) result) → PrintsAndCounts contents failures old new Q result
  printed_weaker h f = record { printed = f h.printed; counted = h.counted; told = h.told; store_failed = h.store_failed }

-- ---- no step answers that a store failed

pub no_store_then : {A B : Type 0} (first : Result A Fault → Type 0) (next : A → Result B Fault → Type 0)
    → (first (Err StoreFailed) → ⊥) → ((a : A) → next a (Err StoreFailed) → ⊥) → Then first next (Err StoreFailed) → ⊥
no_store_then first next never nor (inl (fault, refused, e)) = never (subst (λ f. first (Err f)) (sym (same_fault _ _ e)) refused)
no_store_then first next never nor (inr (a, done, h)) = nor a h

no_store_described : (pieces : List Piece) → AreDescribed pieces (Err StoreFailed) → ⊥
no_store_described pieces = no_store_then (IsSchema pieces) (λ schema answer. answer ≡ Ok (record { pieces = pieces; schema = schema })) (λ h. h)
    (λ schema e. ok_is_no_err {A = DescribedText} (record { pieces = pieces; schema = schema }) StoreFailed ⊥ e)

pub no_store_text : (file : List ℕ) → IsDescribedText file (Err StoreFailed) → ⊥
no_store_text file = no_store_then (IsReading file) AreDescribed (λ h. h) no_store_described

-- the set of a type, or that there is none
pub no_store_type : (found : Option Set_) → ◌≡◌ {A = Result Set_ Fault} (elim found [ None ↦ Err NoSuchType | Some s ↦ Ok s ]) (Err StoreFailed) → ⊥
no_store_type None e = cc
no_store_type (Some s) e = cc
