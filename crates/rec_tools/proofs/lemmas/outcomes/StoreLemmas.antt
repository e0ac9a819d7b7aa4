-- What is asked for is never refused because a store failed: that comes of calls alone.
use Rattle.std.proofs.Common.{◌≡◌, inl, inr, ℕ, Bool, List, Option, Some, None, Result, Ok, Err}
use Rattle.rec_text.specs.declared.fault.Fault.{Fault}
use Rattle.rec_text.specs.declared.fault.Fault.TheVariants.{StoreFailed}
use Rattle.rec_journal.specs.declared.event.Tool.{Tool}
use Rattle.rec_journal.specs.EditTexts.{WithTexts, IsEditTexts, none_such}
use Rattle.rec_journal.specs.History.{Opened, IsOpening}
use Rattle.rec_edit.specs.declared.answer.Edited.{Edited}
use Rattle.rec_tools.specs.declared.request.Reply.{Reply}
use Rattle.rec_tools.specs.declared.request.Look.{Look}
use Rattle.rec_tools.specs.declared.request.Look.TheVariants.{Show, Info, Check, History, Diff, Log}
use Rattle.rec_tools.specs.declared.request.Change.{Change}
use Rattle.rec_tools.specs.declared.request.Change.TheVariants.{Edit, Batch, Undo, Redo, Revert, Forget, Adopt, Write}
use Rattle.rec_tools.specs.declared.request.Request.{Request}
use Rattle.rec_tools.specs.declared.request.Request.TheVariants.{Look as Looks, Change as Changes, Preview as Previews}
use Rattle.rec_tools.specs.Home.{Contents}
use Rattle.rec_tools.specs.Steps.{Then}
use Rattle.rec_journal.specs.declared.patch.Direction.{Direction}
use Rattle.rec_journal.specs.declared.patch.Direction.TheVariants.{Forward, Backward}
use Rattle.rec_journal.specs.Plans.{nothing_there}
use Rattle.rec_check.specs.DescribedTexts.{IsDescribedText}
use Rattle.rec_tools.specs.Printouts.{printed_history, IsShownEdit, IsLogOf, IsWholeLog, IsTold, history_reply, IsTextWith}
use Rattle.rec_select.specs.Info.{IsInfo}
use Rattle.rec_tools.specs.Requests.{Edits, IsOneEdit, IsBatch, look_of, change_of, asked_of, IsMade, as_diff}
use Rattle.rec_tools.specs.Asked.{editing, moving, reverting, forgetting, adopting, writing, Telling}
use Rattle.rec_tools.specs.Reverting.{IsRevertOf, IsReverted}
use Rattle.rec_tools.specs.Outcomes.{Outcome, IsEditOutcome, IsPutOn, IsPutBy, edit_reply, revert_reply, write_reply, IsMove, IsForgetting, IsAdoption, IsChangeOutcome, IsRequestOutcome}
use Rattle.rec_tools.specs.Outcomes.{printing}
use Rattle.rec_tools.specs.Writing.{IsWritten}
use Rattle.rec_text.proofs.lemmas.FaultLemmas.{ok_is_no_err}
use Rattle.rec_tools.proofs.lemmas.printing.PutsLemmas.{no_store_then, no_store_text}
use Rattle.rec_tools.proofs.lemmas.printing.ShowLemmas.{no_store_show}
use Rattle.rec_tools.proofs.lemmas.printing.InformLemmas.{no_store_info}
use Rattle.rec_tools.proofs.lemmas.printing.CheckLemmas.{no_store_report}
use Rattle.rec_tools.proofs.lemmas.outcomes.RevertLemmas.{no_store_revert}
use Rattle.rec_tools.proofs.lemmas.outcomes.EditLemmas.{no_store_made, no_store_one, no_store_listed}
use Rattle.rec_tools.proofs.lemmas.outcomes.WriteLemmas.{no_store_written}

-- ---- edits

no_store_edit : (o : Opened) (c : Contents) (tool : Tool) (made : Edited) (reply : Reply) → IsEditOutcome o c tool made reply (Err StoreFailed) → ⊥
no_store_edit o c tool made reply h = let e = h.1 in cc

never_puts : (c : Contents) (MakesOf : Opened → Result (Tool × Edited) Fault → Type 0) (reply_for : Opened → Tool → Edited → Reply)
    → ((o : Opened) → MakesOf o (Err StoreFailed) → ⊥) → IsPutOn MakesOf reply_for c (Err StoreFailed) → ⊥
never_puts c MakesOf reply_for never =
    let last : Opened → Tool × Edited → Result Outcome Fault → Type 0 = λ o told. IsEditOutcome o c told.0 told.1 (reply_for o told.0 told.1) in
    let next : Opened → Result Outcome Fault → Type 0 = λ o. Then (MakesOf o) (last o) in
    no_store_then (IsOpening c.file c.journal) next (λ h. h) (λ o.
    no_store_then (MakesOf o) (last o) (never o) (λ told. no_store_edit o c told.0 told.1 (reply_for o told.0 told.1)))

-- a file that reads
never_reads : (c : Contents) (MakesOf : Opened → Result (Tool × Edited) Fault → Type 0) (reply_for : Opened → Tool → Edited → Reply)
    → ((o : Opened) → MakesOf o (Err StoreFailed) → ⊥) → IsPutBy IsDescribedText MakesOf reply_for c (Err StoreFailed) → ⊥
never_reads c MakesOf reply_for never =
    no_store_then (IsDescribedText c.file) (λ _. IsPutOn MakesOf reply_for c) (no_store_text c.file) (λ _. never_puts c MakesOf reply_for never)

never_edits : (c : Contents) (IsEdit : Result Edits Fault → Type 0) → (IsEdit (Err StoreFailed) → ⊥) → IsChangeOutcome c (editing IsDescribedText (IsMade IsEdit)) (Err StoreFailed) → ⊥
never_edits c IsEdit never = never_reads c (λ _. IsMade IsEdit c.file) (λ o. edit_reply o.next o.dropped) (λ o. no_store_made IsEdit never c.file)

never_reverts : (c : Contents) (number : ℕ) (force : Bool) → IsChangeOutcome c (reverting IsDescribedText number (IsReverted force)) (Err StoreFailed) → ⊥
never_reverts c number force =
    never_reads c (λ o. IsRevertOf number (IsReverted force) o c.file) (λ o. revert_reply number o.next) (λ o. no_store_revert number force o c.file)

never_writes : (c : Contents) (force : Bool) (over : Option (List ℕ)) (text : List ℕ) → IsChangeOutcome c (writing (IsWritten force over text)) (Err StoreFailed) → ⊥
never_writes c force over text =
    never_puts c (λ _. IsWritten force over text c.file) (λ o. write_reply o.next o.dropped) (λ _. no_store_written force over text c.file)

-- ---- moves

no_store_there : (direction : Direction) → StoreFailed ≡ nothing_there direction → ⊥
no_store_there Backward e = cc
no_store_there Forward e = cc

no_store_move : (direction : Direction) (through : Option ℕ) (o : Opened) (c : Contents) → IsMove direction through o c (Err StoreFailed) → ⊥
no_store_move direction through o c (inl missing) = let e = missing.0 in cc
no_store_move direction through o c (inr (here, inl drifted)) = let e = drifted.0 in cc
no_store_move direction through o c (inr (here, inr none)) = no_store_there direction none.0

never_moves : (direction : Direction) (through : Option ℕ) (c : Contents) → IsChangeOutcome c (moving direction through) (Err StoreFailed) → ⊥
never_moves direction through c =
    no_store_then (IsOpening c.file c.journal) (λ o. IsMove direction through o c) (λ h. h) (λ o. no_store_move direction through o c)

-- ---- forgetting

no_store_forgetting : (n : ℕ) (dropping : Bool) (o : Opened) (c : Contents) → IsForgetting n dropping o c (Err StoreFailed) → ⊥
no_store_forgetting n dropping o c h = let e = h.0 in cc

never_forgets : (n : ℕ) (dropping : Bool) (c : Contents) → IsChangeOutcome c (forgetting n dropping) (Err StoreFailed) → ⊥
never_forgets n dropping c =
    no_store_then (IsOpening c.file c.journal) (λ o. IsForgetting n dropping o c) (λ h. h) (λ o. no_store_forgetting n dropping o c)

-- ---- adoptions

never_adopts : (old : Option (List ℕ)) (c : Contents) → IsChangeOutcome c (adopting old) (Err StoreFailed) → ⊥
never_adopts old c = no_store_then (IsOpening c.file c.journal) (λ o. IsAdoption old o c) (λ h. h) (λ o h. h.1.2)

-- ---- what edits made

none_such-no_store : (number : Option ℕ) → StoreFailed ≡ none_such number → ⊥
none_such-no_store None e = cc
none_such-no_store (Some n) e = cc

no_store_texts : (number : Option ℕ) (file : List ℕ) (o : Opened) → IsEditTexts o file number (Err StoreFailed) → ⊥
no_store_texts number file o (inl drifted) = let e = drifted.0 in cc
no_store_texts number file o (inr none) = none_such-no_store number none.0

pub no_store_shown : (number : Option ℕ) (Tells : Telling) (file journal : List ℕ) → IsShownEdit number Tells file journal (Err StoreFailed) → ⊥
no_store_shown number Tells file journal =
    let diff : WithTexts → Result (List ℕ) Fault → Type 0 = λ made. IsTold (Tells Forward made.edit.steps made.before made.after) in
    no_store_then (IsOpening file journal) (λ o. Then (IsEditTexts o file number) diff) (λ h. h) (λ o.
    no_store_then (IsEditTexts o file number) diff (no_store_texts number file o) (λ made h. h))

pub no_store_log : (Tells : Telling) (file journal : List ℕ) → IsWholeLog Tells file journal (Err StoreFailed) → ⊥
no_store_log Tells file journal = no_store_then (IsOpening file journal) (λ o. IsTextWith (history_reply o) (IsLogOf Tells file o)) (λ h. h) (λ o h. let e = h.0 in cc)

-- ---- requests

no_store_look : (look : Look) (c : Contents) → IsRequestOutcome c (look_of look) (Err StoreFailed) → ⊥
no_store_look (Show pick form collapse) c is = no_store_show c.file pick form collapse is
no_store_look (Info record_type form) c is =
    no_store_then (IsDescribedText c.file) (λ text. IsInfo text.pieces text.schema.sets record_type form) (no_store_text c.file) (λ text. no_store_info text record_type form) is
no_store_look Check c is = no_store_report c.file is
no_store_look History c is =
    no_store_then (IsOpening c.file c.journal) (λ o given. given ≡ Ok (printing (printed_history o) (history_reply o))) (λ h. h)
    (λ o. ok_is_no_err (printing (printed_history o) (history_reply o)) StoreFailed ⊥) is
no_store_look (Diff number style) c is = no_store_shown number (as_diff style) c.file c.journal is
no_store_look (Log style) c is = no_store_log (as_diff style) c.file c.journal is

pub no_store_change : (change : Change) (c : Contents) → IsChangeOutcome c (change_of change) (Err StoreFailed) → ⊥
no_store_change (Edit edit force) c is = never_edits c (IsOneEdit edit force) (no_store_one edit force) is
no_store_change (Batch text force) c is = never_edits c (IsBatch text force) (no_store_listed text force) is
no_store_change (Undo through) c is = never_moves Backward through c is
no_store_change (Redo through) c is = never_moves Forward through c is
no_store_change (Revert number force) c is = never_reverts c number force is
no_store_change (Forget n dropped) c is = never_forgets n dropped c is
no_store_change (Adopt old) c is = never_adopts old c is
no_store_change (Write text over force) c is = never_writes c force over text is

pub never_store : (request : Request) (c : Contents) → IsRequestOutcome c (asked_of request) (Err StoreFailed) → ⊥
never_store (Looks look) c is = no_store_look look c is
never_store (Changes change) c is = no_store_change change c is
never_store (Previews change style) c is = no_store_change change c is
