-- Texts put to a sink one after another, and what a call puts out that prints a text.
use Rattle.std.proofs.Common.{◌≡◌, ◌⊎◌, inl, inr, ℕ, ◌+◌, ◌≤◌, List, [], ◌++◌, Option, Result, Ok, Err, length, length-append, take, refl, ap, sym, subst, ◌∙◌, arith}
use Rattle.std.proofs.lemmas.List.{take-append-le, take_all}
use Rattle.std.proofs.Math.Seq.{take-append-add}
use Rattle.std.proofs.KnownBytes.{Appends-nil, Appends-trans}
use Rattle.std.specs.Io.KnownBytes.{Appends}
use Rattle.std.specs.Result.{IsErrAnd, OnOk, OnErr, IsOkUnless}
use Rattle.rec_text.specs.declared.fault.Fault.{Fault}
use Rattle.rec_text.specs.declared.fault.Fault.TheVariants.{OutOfMemory, StoreFailed}
use Rattle.rec_text.specs.Faults.{IsOkUnlessEither}
use Rattle.rec_text.specs.Sink.{AppendsPrefix, HasRisen}
use Rattle.rec_select.specs.Taken.{HasTaken, HasStopped, Prints, PrintsAndCounts, Puts}

-- ---- prefixes

AppendsPrefix-append : (old new : Option (List ℕ)) (a b : List ℕ) → AppendsPrefix old new a → AppendsPrefix old new (a ++ b)
AppendsPrefix-append old new a b (n, fits, put) =
    let P : List ℕ → Type 0 = λ bytes. Appends old new bytes in
    (n, omega (arith, length-append a b), subst P (sym (take-append-le n a b fits)) put)

AppendsPrefix-whole : (old new : Option (List ℕ)) (a : List ℕ) → Appends old new a → AppendsPrefix old new a
AppendsPrefix-whole old new a put =
    let P : List ℕ → Type 0 = λ bytes. Appends old new bytes in
    (length a, omega arith, subst P (sym (take_all (length a) a (omega arith))) put)

AppendsPrefix-after : (old mid new : Option (List ℕ)) (a b : List ℕ) → Appends old mid a → AppendsPrefix mid new b → AppendsPrefix old new (a ++ b)
AppendsPrefix-after old mid new a b first (n, fits, put) =
    let P : List ℕ → Type 0 = λ bytes. Appends old new bytes in
    (length a + n, omega (arith, length-append a b), subst P (sym (take-append-add a b n)) (Appends-trans old mid new a (take n b) first put))

-- ---- one text after another

module _ {S : Type 0} {contents : S → Option (List ℕ)} {failures : S → ℕ} where
  pub HasTaken-nil : (out : S) → HasTaken contents failures out out []
  HasTaken-nil out = record { whole = Appends-nil (contents out); sound = refl }

  pub HasTaken-as : {old new : S} {a b : List ℕ} → a ≡ b → HasTaken contents failures old new a → HasTaken contents failures old new b
  HasTaken-as {old} {new} same taken = subst (HasTaken contents failures old new) same taken

  pub HasStopped-as : {old new : S} {fault : Fault} {a b : List ℕ} → a ≡ b → HasStopped contents failures old new a fault → HasStopped contents failures old new b fault
  HasStopped-as {old} {new} {fault} same stopped =
      let P : List ℕ → Type 0 = λ text. HasStopped contents failures old new text fault in
      subst P same stopped

  pub HasTaken-append : {old mid new : S} {a b : List ℕ} → HasTaken contents failures old mid a → HasTaken contents failures mid new b → HasTaken contents failures old new (a ++ b)
  HasTaken-append {old} {mid} {new} {a} {b} first next =
      record { whole = Appends-trans (contents old) (contents mid) (contents new) a b first.whole next.whole; sound = next.sound ∙ first.sound }

  -- the first text is taken, and the next one stops
  pub HasStopped-append : {old mid new : S} {a b : List ℕ} {fault : Fault} → HasTaken contents failures old mid a → HasStopped contents failures mid new b fault
      → HasStopped contents failures old new (a ++ b) fault
  HasStopped-append {old} {mid} {new} {a} {b} {fault} first next =
      let P : ℕ → Type 0 = λ n. ((fault ≡ OutOfMemory) × (failures new ≡ n)) ⊎ ((fault ≡ StoreFailed) × HasRisen n (failures new)) in
      record {
        prefix = AppendsPrefix-after (contents old) (contents mid) (contents new) a b first.whole next.prefix;
        counted = omega (arith, first.sound, next.counted);
        cause = subst P first.sound next.cause;
      }

  -- what stops in a prefix of a text stops in the text
  pub HasStopped-prefix : {old new : S} {fault : Fault} {a : List ℕ} → (b : List ℕ) → HasStopped contents failures old new a fault → HasStopped contents failures old new (a ++ b) fault
  HasStopped-prefix {old} {new} {a = a} b stopped =
      record { prefix = AppendsPrefix-append (contents old) (contents new) a b stopped.prefix; counted = stopped.counted; cause = stopped.cause }

  -- a text is taken, the next one stops, and the rest is left
  pub HasStopped-within : {old mid new : S} {a b : List ℕ} {fault : Fault} → (text rest : List ℕ) → text ≡ (a ++ b) ++ rest
      → HasTaken contents failures old mid a → HasStopped contents failures mid new b fault → HasStopped contents failures old new text fault
  HasStopped-within text rest parts first next = HasStopped-as (sym parts) (HasStopped-prefix rest (HasStopped-append first next))

  -- the sink fails in a text
  pub HasStopped-failed : {old new : S} {fault : Fault} {a : List ℕ} → AppendsPrefix (contents old) (contents new) a → failures old ≤ failures new
      → HasRisen (failures old) (failures new) → fault ≡ StoreFailed → HasStopped contents failures old new a fault
  HasStopped-failed prefix counted risen e = record { prefix = prefix; counted = counted; cause = inr (e, risen) }

  -- ---- at the exit of a `?`

  pub Prints-stopped : {X : Type 0} {text : List ℕ} {old new : S} {fault : Fault} → (r : Result X Fault)
      → IsErrAnd r (λ y. y ≡ fault) → HasStopped contents failures old new text fault → Prints contents failures old new text r
  Prints-stopped (Ok x) e stopped = absurd e
  Prints-stopped {text = text} {old} {new} (Err y) e stopped = subst (HasStopped contents failures old new text) (sym e) stopped

  -- after a text that was taken
  pub Prints-append : {X : Type 0} {old mid : S} {a : List ℕ} → HasTaken contents failures old mid a → (new : S) (b : List ℕ) (r : Result X Fault)
      → Prints contents failures mid new b r → Prints contents failures old new (a ++ b) r
  Prints-append first new b (Ok done) next = HasTaken-append first next
  Prints-append first new b (Err fault) next = HasStopped-append first next

-- ---- where the answer is that of the last call

module _ {S : Type 0} (contents : S → Option (List ℕ)) (failures : S → ℕ) (old new : S) where
  pub Prints-as : {X : Type 0} {a b : List ℕ} → a ≡ b → (r : Result X Fault) → Prints contents failures old new a r → Prints contents failures old new b r
  Prints-as same (Ok done) taken = HasTaken-as same taken
  Prints-as same (Err fault) stopped = HasStopped-as same stopped

  pub Prints-put : {X : Type 0} (text : List ℕ) (r : Result X Fault) → OnOk r (Appends (contents old) (contents new) text)
      → OnErr r (AppendsPrefix (contents old) (contents new) text) → OnOk r (failures new ≡ failures old) → failures old ≤ failures new
      → OnErr r (HasRisen (failures old) (failures new)) → IsOkUnless r StoreFailed → Prints contents failures old new text r
  Prints-put text (Ok done) all prefix kept counted failed refusals = record { whole = all; sound = kept }
  Prints-put text (Err fault) all prefix kept counted failed refusals = HasStopped-failed prefix counted failed refusals

not_memory : {X : Type 0} (fault : Fault) (r : Result X Fault) → r ≡ Err fault → fault ≡ OutOfMemory → r ≡ Err StoreFailed → ⊥
not_memory fault r is e f = cc

-- ---- the clauses of a call that prints a text

module _ {S X : Type 0} (contents : S → Option (List ℕ)) (failures : S → ℕ) (old new : S) (text : List ℕ) where
  pub Puts-prints : (IsText : Result (List ℕ) Fault → Type 0) → IsText (Ok text) → (r : Result X Fault) → Prints contents failures old new text r → Puts IsText (contents old) (contents new) r
  Puts-prints IsText is (Ok done) taken = (text, is, taken.whole)
  Puts-prints IsText is (Err fault) stopped =
      let P : Fault → Type 0 = λ f. Puts {X = X} IsText (contents old) (contents new) (Err f) in
      elim stopped.cause [ inl e ↦ subst P (sym e.0) (inr (text, is, stopped.prefix)) | inr e ↦ subst P (sym e.0) (text, is, stopped.prefix) ]

  -- a call that prints a text of a relation
  pub PrintsAndCounts-prints : (IsText : Result (List ℕ) Fault → Type 0) → IsText (Ok text) → (r : Result X Fault) → Prints contents failures old new text r
      → PrintsAndCounts contents failures old new (Puts IsText) r
  PrintsAndCounts-prints IsText is (Ok done) taken = record {
    printed = Puts-prints IsText is (Ok done) taken;
    counted = omega (arith, taken.sound);
    told = inr taken.sound;
    store_failed = λ failed. cc;
  }
  PrintsAndCounts-prints IsText is (Err fault) stopped = record {
    printed = Puts-prints IsText is (Err fault) stopped;
    counted = stopped.counted;
    told = elim stopped.cause [ inl e ↦ inr e.1 | inr e ↦ inl (ap Err e.0) ];
    store_failed = λ failed. elim stopped.cause [ inl e ↦ absurd (not_memory {X = X} fault (Err fault) refl e.0 failed) | inr e ↦ e.1 ];
  }

  pub refusals-prints : (r : Result X Fault) → Prints contents failures old new text r → IsOkUnlessEither r OutOfMemory StoreFailed
  refusals-prints (Ok done) taken = tt
  refusals-prints (Err fault) stopped = elim stopped.cause [ inl e ↦ inl e.0 | inr e ↦ inr e.0 ]
