-- What goes out where it is shown what edits made.
use Rattle.std.proofs.Common.{◌≡◌, inl, inr, ◌∙◌, ℕ, true, false, List, map, Option, Result, Ok, Err, refl, sym, Bool, subst, ap}
use Rattle.std.specs.Prelude.{codes, if◌then◌else◌}
use Rattle.rec_text.specs.declared.fault.Fault.{Fault}
use Rattle.rec_text.specs.declared.fault.Fault.TheVariants.{StoreFailed}
use Rattle.rec_text.specs.Faults.{IsMemoryOr}
use Rattle.rec_journal.specs.declared.patch.Direction.TheVariants.{Forward}
use Rattle.rec_journal.specs.EditTexts.{WithTexts, WalkAt, GoesOver, IsEditTexts, IsWalk}
use Rattle.rec_journal.specs.History.{Opened, IsOpening}
use Rattle.rec_select.specs.Taken.{HasTaken, HasStopped, PrintsAndCounts}
use Rattle.rec_diff.specs.declared.style.DiffStyle.{DiffStyle}
use Rattle.rec_diff.proofs.lemmas.DiffLemmas.{some_diff}
use Rattle.rec_tools.specs.declared.request.Reply.{Reply}
use Rattle.rec_tools.specs.declared.request.Reply.TheVariants.{Shown, Drifted as HasDrifted}
use Rattle.rec_tools.specs.Printouts.{told_of, history_reply, IsLog, IsShownEdit, IsLogOf, IsWholeLog, IsTextWith, IsShownText, PutsPrintout}
use Rattle.rec_tools.specs.proving.Logs.{IsEditDiff}
use Rattle.rec_text.proofs.lemmas.FaultLemmas.{memory_or_weaker, no_both, same_value}
use Rattle.rec_tools.proofs.lemmas.outcomes.StoreLemmas.{no_store_shown, no_store_log}
use Rattle.rec_tools.proofs.lemmas.printing.ListedLemmas.{shown-cut_short, shown-whole}
use Rattle.rec_tools.proofs.lemmas.printing.LogLemmas.{texts-steps, texts_have_steps, some_log}
use Rattle.rec_tools.proofs.lemmas.printing.PutsLemmas.{PutsPrintout-weaker, refused_before, printed_weaker, IsTextWith-weaker}
use Rattle.rec_tools.specs.Requests.{as_diff}

-- ---- one edit

-- there is a diff of an edit of the history
edit_diff : (number : Option ℕ) (style : DiffStyle) (file : List ℕ) (o : Opened) (made : WithTexts) → IsEditTexts o file number (Ok made) → (text : List ℕ) × IsEditDiff style made text
edit_diff number style file o made is = some_diff Forward style made.edit.steps made.before made.after (texts-steps number file o made is)

module _ {S : Type 0} {contents : S → Option (List ℕ)} {failures : S → ℕ} (number : Option ℕ) (style : DiffStyle) (file journal : List ℕ) where
  pub shown-no_opening : (out : S) (fault : Fault) → IsMemoryOr fault (IsOpening file journal (Err fault))
      → PrintsAndCounts contents failures out out (PutsPrintout (IsShownText (IsShownEdit number (as_diff style) file journal))) (Err fault)
  shown-no_opening out fault h =
      refused_before (IsShownText (IsShownEdit number (as_diff style) file journal)) out fault (no_store_shown number (as_diff style) file journal)
      (memory_or_weaker fault _ _ (λ refused. inl (fault, refused, refl)) h)

  pub shown-no_texts : (o : Opened) → IsOpening file journal (Ok o) → (out : S) (fault : Fault) → IsMemoryOr fault (IsEditTexts o file number (Err fault))
      → PrintsAndCounts contents failures out out (PutsPrintout (IsShownText (IsShownEdit number (as_diff style) file journal))) (Err fault)
  shown-no_texts o opens out fault h =
      refused_before (IsShownText (IsShownEdit number (as_diff style) file journal)) out fault (no_store_shown number (as_diff style) file journal)
      (memory_or_weaker fault _ _ (λ refused. inr (o, opens, inl (fault, refused, refl))) h)

  module _ {old new : S} (o : Opened) (opens : IsOpening file journal (Ok o)) (made : WithTexts) (is : IsEditTexts o file number (Ok made)) where
    pub edit-cut_short : (fault : Fault) → ((text : List ℕ) → IsEditDiff style made text → HasStopped contents failures old new text fault)
        → PrintsAndCounts contents failures old new (PutsPrintout (IsShownText (IsShownEdit number (as_diff style) file journal))) (Err fault)
    edit-cut_short fault stopped =
        let diff = edit_diff number style file o made is in
        shown-cut_short (IsShownEdit number (as_diff style) file journal) diff.0 (inr (o, opens, inr (made, is, diff.1))) (stopped diff.0 diff.1)

    pub edit-whole : ((text : List ℕ) → IsEditDiff style made text → HasTaken contents failures old new text)
        → PrintsAndCounts contents failures old new (PutsPrintout (IsShownText (IsShownEdit number (as_diff style) file journal))) (Ok Shown)
    edit-whole taken =
        let diff = edit_diff number style file o made is in
        shown-whole (IsShownEdit number (as_diff style) file journal) diff.0 (inr (o, opens, inr (made, is, diff.1))) (taken diff.0 diff.1)

-- ---- all edits

no_store_log_of : (style : DiffStyle) (file : List ℕ) (o : Opened) → IsShownText (IsLogOf (as_diff style) file o) (Err StoreFailed) → ⊥
no_store_log_of style file o h = let e = h.0 in cc

no_walk : (style : DiffStyle) (file : List ℕ) (o : Opened) (fault : Fault) → o.drifted ≡ false → IsWalk o file (Err fault) → IsLogOf (as_diff style) file o (Err fault)
no_walk style file o fault settled (e, inl drifted) = absurd (let both = sym drifted ∙ settled in cc)
no_walk style file o fault settled (e, inr (opened, none)) = (e, opened, none)

-- there is a log of the edits of a walk
record HasLog (style : DiffStyle) (file : List ℕ) (o : Opened) (walk : Option WalkAt) : Type 0 where
  all : List WithTexts
  goes : GoesOver walk all
  text : List ℕ
  log : IsLog (as_diff style) (map told_of all) text
  logs : IsLogOf (as_diff style) file o (Ok text)

walk_log : (style : DiffStyle) (file : List ℕ) (o : Opened) (walk : Option WalkAt) → IsWalk o file (Ok walk) → HasLog style file o walk
walk_log style file o walk (settled, all, are, goes) =
    let some = some_log style all (texts_have_steps o file all are) in
    record { all = all; goes = goes; text = some.0; log = some.1; logs = inr (settled, (all, are, some.1)) }

module _ {S : Type 0} {contents : S → Option (List ℕ)} {failures : S → ℕ} (style : DiffStyle) (file : List ℕ) (o : Opened) (settled : o.drifted ≡ false) where
  pub log-refused : (out : S) (fault : Fault) → IsMemoryOr fault (IsWalk o file (Err fault))
      → PrintsAndCounts contents failures out out (PutsPrintout (IsShownText (IsLogOf (as_diff style) file o))) (Err fault)
  log-refused out fault h =
      refused_before (IsShownText (IsLogOf (as_diff style) file o)) out fault (no_store_log_of style file o) (memory_or_weaker fault _ _ (no_walk style file o fault settled) h)

  module _ {old new : S} (walk : Option WalkAt) (is : IsWalk o file (Ok walk)) where
    pub log-cut_short : (fault : Fault)
        → ((all : List WithTexts) → GoesOver walk all → (text : List ℕ) → IsLog (as_diff style) (map told_of all) text → HasStopped contents failures old new text fault)
        → PrintsAndCounts contents failures old new (PutsPrintout (IsShownText (IsLogOf (as_diff style) file o))) (Err fault)
    log-cut_short fault stopped =
        let has = walk_log style file o walk is in
        shown-cut_short (IsLogOf (as_diff style) file o) has.text has.logs (stopped has.all has.goes has.text has.log)

    pub log-whole : ((all : List WithTexts) → GoesOver walk all → (text : List ℕ) → IsLog (as_diff style) (map told_of all) text → HasTaken contents failures old new text)
        → PrintsAndCounts contents failures old new (PutsPrintout (IsShownText (IsLogOf (as_diff style) file o))) (Ok Shown)
    log-whole taken =
        let has = walk_log style file o walk is in
        shown-whole (IsLogOf (as_diff style) file o) has.text has.logs (taken has.all has.goes has.text has.log)

-- ---- the whole log

abbrev reply_if : Bool → Reply
reply_if drifted = if drifted then HasDrifted else Shown

drifted_log : (style : DiffStyle) (file : List ℕ) (o : Opened) → o.drifted ≡ true → (r : Result (List ℕ) Fault) → r ≡ Ok (codes "drifted\n") → IsLogOf (as_diff style) file o r
drifted_log style file o drifted (Ok text) e = inl (drifted, same_value text (codes "drifted\n") e)
drifted_log style file o drifted (Err fault) e = absurd (no_both {A = List ℕ} (codes "drifted\n") fault (sym e))

module _ {S : Type 0} {contents : S → Option (List ℕ)} {failures : S → ℕ} (style : DiffStyle) (file journal : List ℕ) where
  pub log-no_opening : (out : S) (fault : Fault) → IsMemoryOr fault (IsOpening file journal (Err fault))
      → PrintsAndCounts contents failures out out (PutsPrintout (IsWholeLog (as_diff style) file journal)) (Err fault)
  log-no_opening out fault h =
      refused_before (IsWholeLog (as_diff style) file journal) out fault (no_store_log (as_diff style) file journal) (memory_or_weaker fault _ _ (λ refused. inl (fault, refused, refl)) h)

  module _ {old new : S} (o : Opened) (opens : IsOpening file journal (Ok o)) (answer : Result Reply Fault) where
    with_reply : (reply : Reply) → reply ≡ history_reply o → PrintsAndCounts contents failures old new (PutsPrintout (IsTextWith reply (IsLogOf (as_diff style) file o))) answer
        → PrintsAndCounts contents failures old new (PutsPrintout (IsWholeLog (as_diff style) file journal)) answer
    with_reply reply same h =
        printed_weaker h
        (PutsPrintout-weaker (IsTextWith reply (IsLogOf (as_diff style) file o)) (IsWholeLog (as_diff style) file journal)
        (contents old) (contents new) answer
        (λ r is. inr (o, opens, subst (λ told. IsTextWith told (IsLogOf (as_diff style) file o) r) same is)))

    pub log-settled : o.drifted ≡ false → PrintsAndCounts contents failures old new (PutsPrintout (IsShownText (IsLogOf (as_diff style) file o))) answer
        → PrintsAndCounts contents failures old new (PutsPrintout (IsWholeLog (as_diff style) file journal)) answer
    log-settled settled h = with_reply Shown (ap reply_if (sym settled)) h

    pub log-drifted : o.drifted ≡ true → PrintsAndCounts contents failures old new (PutsPrintout (IsTextWith HasDrifted (λ answer. answer ≡ Ok (codes "drifted\n")))) answer
        → PrintsAndCounts contents failures old new (PutsPrintout (IsWholeLog (as_diff style) file journal)) answer
    log-drifted drifted h =
        with_reply HasDrifted (ap reply_if (sym drifted))
        (printed_weaker h
        (PutsPrintout-weaker _ _ (contents old) (contents new) answer
        (IsTextWith-weaker HasDrifted (λ answer. answer ≡ Ok (codes "drifted\n")) (IsLogOf (as_diff style) file o) (drifted_log style file o drifted))))
