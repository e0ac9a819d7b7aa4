-- The history that is printed: its text, line by line, and what goes out of it.
use Rattle.std.proofs.Common.{◌≡◌, inl, inr, ℕ, true, false, List, [], ◌∷◌, ◌++◌, map, flat_map, reverse, Option, Result, Ok, Err, sym, ap, ap₂, subst, refl, ◌∙◌, arith}
use Rattle.std.specs.Prelude.{codes, if◌then◌else◌}
use Rattle.std.proofs.lemmas.List.{map-append, reverse-append}
use Rattle.std.proofs.lemmas.List.Folds.{flat_map-map}
use Rattle.std.proofs.lemmas.Grind.{flat_map-append}
use Rattle.rec_text.specs.declared.fault.Fault.{Fault}
use Rattle.rec_text.specs.declared.fault.Fault.TheVariants.{StoreFailed}
use Rattle.rec_text.specs.Faults.{IsMemoryOr}
use Rattle.rec_select.specs.Taken.{HasTaken, HasStopped, PrintsAndCounts}
use Rattle.rec_select.proofs.lemmas.info.InfoLemmas.{IsTakenTo, IsTakenTo-more, IsTakenTo-stopped}
use Rattle.rec_select.proofs.lemmas.printing.PutsLemmas.{PrintsAndCounts-prints}
use Rattle.rec_journal.specs.declared.event.Revision.{Revision}
use Rattle.rec_journal.specs.declared.event.Tool.{Tool}
use Rattle.rec_journal.specs.declared.history.steps.Step.{Step}
use Rattle.rec_journal.specs.History.{Opened, IsOpening}
use Rattle.rec_journal.specs.Listing.{step_of, steps_of}
use Rattle.rec_tools.specs.declared.request.Reply.{Reply}
use Rattle.rec_tools.specs.declared.request.Reply.TheVariants.{Shown}
use Rattle.rec_tools.specs.proving.Listed.{line_of}
use Rattle.rec_tools.specs.Printouts.{step_line, history_text, printed_history, history_reply, IsHistory, IsShownText, PutsPrintout}
use Rattle.rec_tools.specs.Asked.{Printout}
use Rattle.rec_text.proofs.lemmas.FaultLemmas.{memory_or_weaker, no_both, ok_is_no_err, same_value}
use Rattle.rec_tools.proofs.lemmas.printing.PutsLemmas.{HaveReplies, PutsPrintout-err, refused_before, refused_within, no_store_then}

-- ---- the text

pub reverse-map : {A B : Type 0} (f : A → B) (xs : List A) → reverse (map f xs) ≡ map f (reverse xs)
reverse-map f [] = refl
reverse-map f (x ∷ xs) =
    reverse-append (f x ∷ []) (map f xs)
    ∙ ap (λ ys. ys ++ f x ∷ []) (reverse-map f xs)
    ∙ sym (map-append f (reverse xs) (x ∷ []))
    ∙ ap (map f) (sym (reverse-append (x ∷ []) xs))

abbrev of_edit : Revision → ℕ × Tool
of_edit e = (e.number, e.tool)

-- the lines of the steps of a history are its text
lines-steps_of : (o : Opened) → flat_map line_of (steps_of o) ≡ history_text (map of_edit o.past) (map of_edit o.future)
lines-steps_of o =
    let done : flat_map line_of (map (step_of true) (reverse o.past)) ≡ flat_map (step_line (codes "done")) (reverse (map of_edit o.past)) =
    flat_map-map line_of (step_of true) (reverse o.past)
    ∙ sym (flat_map-map (step_line (codes "done")) of_edit (reverse o.past))
    ∙ ap (flat_map (step_line (codes "done"))) (sym (reverse-map of_edit o.past)) in
    let undone : flat_map line_of (map (step_of false) o.future) ≡ flat_map (step_line (codes "undone")) (map of_edit o.future) =
    flat_map-map line_of (step_of false) o.future ∙ sym (flat_map-map (step_line (codes "undone")) of_edit o.future) in
    flat_map-append line_of (map (step_of true) (reverse o.past)) (map (step_of false) o.future) ∙ ap₂ (λ xs ys. xs ++ ys) done undone

pub printed_history-open : (o : Opened) → o.drifted ≡ false → flat_map line_of (steps_of o) ≡ printed_history o
printed_history-open o settled =
    lines-steps_of o ∙ ap (λ b. if b then codes "drifted\n" else history_text (map of_edit o.past) (map of_edit o.future)) (sym settled)

-- ---- line by line

lines-cons : (step : Step) (steps left : List Step) → steps ≡ step ∷ left → flat_map line_of steps ≡ line_of step ++ flat_map line_of left
lines-cons step steps left e = ap (flat_map line_of) e

module _ {S : Type 0} {contents : S → Option (List ℕ)} {failures : S → ℕ} {text : List ℕ} {old mid new : S} (step : Step) (steps left : List Step)
    (so_far : IsTakenTo contents failures old mid text (flat_map line_of steps)) (e : steps ≡ step ∷ left) where
  pub next_taken : HasTaken contents failures mid new (line_of step) → IsTakenTo contents failures old new text (flat_map line_of left)
  next_taken taken = IsTakenTo-more (line_of step) _ so_far (lines-cons step steps left e) taken

  pub next_stopped : {fault : Fault} → HasStopped contents failures mid new (line_of step) fault → HasStopped contents failures old new text fault
  next_stopped stopped = IsTakenTo-stopped (line_of step) (flat_map line_of left) so_far (lines-cons step steps left e) stopped

-- ---- what goes out of a history

abbrev listed : Opened → Printout
listed o = record { text = printed_history o; reply = history_reply o }

module _ {S : Type 0} {contents : S → Option (List ℕ)} {failures : S → ℕ} (file journal : List ℕ) where
  pub history-refused : (out : S) (fault : Fault) → IsMemoryOr fault (IsOpening file journal (Err fault))
      → PrintsAndCounts contents failures out out (PutsPrintout (IsHistory file journal)) (Err fault)
  history-refused out fault h =
      refused_before (IsHistory file journal) out fault
      (no_store_then (IsOpening file journal) (λ o answer. answer ≡ Ok (listed o)) (λ h. h) (λ o e. ok_is_no_err (listed o) StoreFailed ⊥ e))
      (memory_or_weaker fault _ _ (λ refused. inl (fault, refused, refl)) h)

-- ---- what goes out of a text with its reply

-- it is this text that went out
abbrev IsAllOf : List ℕ → Result (List ℕ) Fault → Type 0
IsAllOf text answer = answer ≡ Ok text

reply_of_all : (IsPrintout : Result Printout Fault → Type 0) (text : List ℕ) (reply : Reply) → IsPrintout (Ok (record { text = text; reply = reply }))
    → HaveReplies (IsAllOf text) IsPrintout
reply_of_all IsPrintout text reply is other e =
    (reply, subst (λ xs. IsPrintout (Ok (record { text = xs; reply = reply }))) (sym (same_value other text e)) is)

no_refusal_of_all : (IsPrintout : Result Printout Fault → Type 0) (text : List ℕ) (fault : Fault) → IsAllOf text (Err fault) → IsPrintout (Err fault)
no_refusal_of_all IsPrintout text fault e = absurd (no_both text fault (sym e))

module _ {S : Type 0} {contents : S → Option (List ℕ)} {failures : S → ℕ} {old new : S}
    (IsPrintout : Result Printout Fault → Type 0) (text : List ℕ) (reply : Reply) (is : IsPrintout (Ok (record { text = text; reply = reply }))) where
  pub printout-cut_short : {fault : Fault} → HasStopped contents failures old new text fault → PrintsAndCounts contents failures old new (PutsPrintout IsPrintout) (Err fault)
  printout-cut_short {fault} stopped =
      refused_within
      (PrintsAndCounts-prints {X = Unit {0}} contents failures old new text (IsAllOf text) refl (Err fault) stopped)
      (PutsPrintout-err (Unit {0}) (IsAllOf text) IsPrintout (contents old) (contents new) fault
      (reply_of_all IsPrintout text reply is) (no_refusal_of_all IsPrintout text))

  pub printout-whole : HasTaken contents failures old new text → PrintsAndCounts contents failures old new (PutsPrintout IsPrintout) (Ok reply)
  printout-whole taken = record {
    printed = (text, is, taken.whole);
    counted = omega (arith, taken.sound);
    told = inr taken.sound;
    store_failed = λ failed. cc;
  }

-- the same of one that is shown
module _ {S : Type 0} {contents : S → Option (List ℕ)} {failures : S → ℕ} {old new : S} (IsText : Result (List ℕ) Fault → Type 0) (text : List ℕ) (is : IsText (Ok text)) where
  pub shown-cut_short : {fault : Fault} → HasStopped contents failures old new text fault → PrintsAndCounts contents failures old new (PutsPrintout (IsShownText IsText)) (Err fault)
  shown-cut_short stopped = printout-cut_short (IsShownText IsText) text Shown (is, refl) stopped

  pub shown-whole : HasTaken contents failures old new text → PrintsAndCounts contents failures old new (PutsPrintout (IsShownText IsText)) (Ok Shown)
  shown-whole taken = printout-whole (IsShownText IsText) text Shown (is, refl) taken
