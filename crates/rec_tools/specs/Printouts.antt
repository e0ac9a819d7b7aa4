-- What a request prints of a file, with its reply, or why it is refused.
use Rattle.std.specs.Prelude.{◌≡◌, ◌⊎◌, ℕ, ◌≤◌, Bool, true, false, List, [], ◌∷◌, ◌++◌, length, map, reverse, codes}
use Rattle.std.specs.Prelude.{decimal, Option, Result, Ok, Err, if◌then◌else◌}
use Rattle.std.specs.List.{flat_map}
use Rattle.std.specs.Io.KnownBytes.{Appends, Keeps}
use Rattle.rec_text.specs.declared.fault.Fault.{Fault}
use Rattle.rec_text.specs.declared.fault.Fault.TheVariants.{OutOfMemory, Drifted, StoreFailed}
use Rattle.rec_text.specs.declared.violations.Violation.{Violation}
use Rattle.rec_text.specs.Ascii.{newline, space}
use Rattle.rec_text.specs.Sink.{AppendsPrefix}
use Rattle.rec_journal.specs.declared.event.Tool.{Tool}
use Rattle.rec_journal.specs.declared.event.EditStep.{EditStep}
use Rattle.rec_journal.specs.declared.patch.Direction.TheVariants.{Forward}
use Rattle.rec_journal.specs.EditTexts.{WithTexts, IsEditTexts, AreEditTexts}
use Rattle.rec_journal.specs.Event.{tool_name}
use Rattle.rec_journal.specs.History.{Opened, IsOpening}
use Rattle.rec_select.specs.declared.info.InfoForm.{InfoForm}
use Rattle.rec_select.specs.Info.{IsInfo}
use Rattle.rec_select.specs.Printing.{IsPrinted}
use Rattle.rec_select.specs.Report.{report}
use Rattle.rec_select.specs.declared.records.Shape.{Shape}
use Rattle.rec_select.specs.Selection.{Filter, IsSelection}
use Rattle.rec_tools.specs.declared.request.Form.{Form}
use Rattle.rec_tools.specs.declared.request.Pick.{Pick}
use Rattle.rec_tools.specs.declared.request.Reply.{Reply}
use Rattle.rec_tools.specs.declared.request.Reply.TheVariants.{Shown, Violated, Drifted as HasDrifted}
use Rattle.rec_tools.specs.Steps.{Then}
use Rattle.rec_check.specs.DescribedTexts.{DescribedText, IsDescribedText}
use Rattle.rec_tools.specs.Asking.{IsFilter, IsShape}
use Rattle.rec_tools.specs.Asked.{Printout, Telling}

-- ---- the texts

-- the selected records of a text, in a shape
abbrev pub IsShowOf : DescribedText → Option (List ℕ) → Filter → Shape → Bool → Result (List ℕ) Fault → Type 0
IsShowOf text record_type wanted shape collapse =
    Then (IsSelection text.pieces text.schema.sets record_type wanted) (λ selected.
    IsPrinted text.pieces selected shape collapse)

-- the records that a pick selects, in a form
abbrev pub IsShow : List ℕ → Pick → Form → Bool → Result (List ℕ) Fault → Type 0
IsShow file pick form collapse =
    Then (IsDescribedText file) (λ text.
    Then (IsFilter pick.by) (λ wanted.
    Then (IsShape form) (λ shape.
    IsShowOf text pick.kind wanted shape collapse)))

-- the record sets, or that of a type, in a form
abbrev pub IsInfoOf : List ℕ → Option (List ℕ) → InfoForm → Result (List ℕ) Fault → Type 0
IsInfoOf file record_type form =
    Then (IsDescribedText file) (λ text. IsInfo text.pieces text.schema.sets record_type form)

-- ---- the texts with their replies

-- a text, with this reply, or why there is none
abbrev pub IsTextWith : Reply → (Result (List ℕ) Fault → Type 0) → Result Printout Fault → Type 0
IsTextWith reply IsText (Ok p) = IsText (Ok p.text) × (p.reply ≡ reply)
IsTextWith reply IsText (Err fault) = IsText (Err fault)

-- a text, which is shown, or why there is none
abbrev pub IsShownText : (Result (List ℕ) Fault → Type 0) → Result Printout Fault → Type 0
IsShownText = IsTextWith Shown

-- the reply to a check that finds these
abbrev pub verdict : List Violation → Reply
verdict [] = Shown
verdict found = Violated (length found)

-- the report of the violations, or why there is none
abbrev pub IsReportText : (Result (List Violation) Fault → Type 0) → Result Printout Fault → Type 0
IsReportText IsFound (Ok p) =
    (found : List Violation) × IsFound (Ok found) × (p.text ≡ report found) × (p.reply ≡ verdict found)
IsReportText IsFound (Err fault) = IsFound (Err fault)

-- the reply to a request that prints, and what it prints
abbrev pub ComesOut : Result Printout Fault → Result Reply Fault → List ℕ → Type 0
ComesOut (Ok p) answer printed = (answer ≡ Ok p.reply) × (printed ≡ p.text)
ComesOut (Err fault) answer printed = (answer ≡ Err fault) × (printed ≡ [])

-- ---- the history

-- a line of a history: its word, and an edit's number and tool
abbrev pub step_line : List ℕ → ℕ × Tool → List ℕ
step_line word (number, tool) = word ++ space ∷ (decimal number ++ space ∷ (tool_name tool ++ newline ∷ []))

-- the edits that were made, the newest given first and printed last, and those to be made again
abbrev pub history_text : List (ℕ × Tool) → List (ℕ × Tool) → List ℕ
history_text past future =
    flat_map (step_line (codes "done")) (reverse past) ++ flat_map (step_line (codes "undone")) future

-- the word of an edit in the history
abbrev pub word_of : Bool → List ℕ
word_of done = if done then codes "done" else codes "undone"

-- the history that a file and its journal stand for
abbrev pub printed_history : Opened → List ℕ
printed_history o =
    if o.drifted then codes "drifted\n"
    else history_text (map (λ e. (e.number, e.tool)) o.past) (map (λ e. (e.number, e.tool)) o.future)

-- the reply to a history that is printed: that the file has drifted, exactly where it has
abbrev pub history_reply : Opened → Reply
history_reply o = if o.drifted then HasDrifted else Shown

-- the history of a file and its journal with its reply, or why there is none
abbrev pub IsHistory : List ℕ → List ℕ → Result Printout Fault → Type 0
IsHistory file journal =
    Then (IsOpening file journal) (λ o answer.
    answer ≡ Ok (record { text = printed_history o; reply = history_reply o }))

-- ---- what edits made

-- this is printed, and not refused
abbrev pub IsTold : (List ℕ → Type 0) → Result (List ℕ) Fault → Type 0
IsTold IsText (Ok printed) = IsText printed
IsTold IsText (Err fault) = ⊥

-- what the edit of a number made of a file, or the newest that can be undone
abbrev pub IsShownEdit : Option ℕ → Telling → List ℕ → List ℕ → Result (List ℕ) Fault → Type 0
IsShownEdit number Tells file journal =
    Then (IsOpening file journal) (λ o.
    Then (IsEditTexts o file number) (λ made. IsTold (Tells Forward made.edit.steps made.before made.after)))

-- an edit of the history with its texts
pub record Told : Type 0 where
  pub done : Bool
  pub number : ℕ
  pub tool : Tool
  pub steps : List EditStep
  pub before : List ℕ
  pub after : List ℕ

abbrev pub told_of : WithTexts → Told
told_of made = record {
  done = made.done;
  number = made.edit.number;
  tool = made.edit.tool;
  steps = made.edit.steps;
  before = made.before;
  after = made.after;
}

-- of each edit its line in the history, and after it what it made
abbrev pub IsLog : Telling → List Told → List ℕ → Type 0
IsLog Tells [] printed = printed ≡ []
IsLog Tells (e ∷ edits) printed = (diff rest : List ℕ)
    × Tells Forward e.steps e.before e.after diff × IsLog Tells edits rest
    × (printed ≡ step_line (word_of e.done) (e.number, e.tool) ++ (diff ++ rest))

-- the same of the edits of a history; refused where the file doesn't lead to all their texts
abbrev pub IsLogOf : Telling → List ℕ → Opened → Result (List ℕ) Fault → Type 0
IsLogOf Tells file o (Ok printed) =
    ((o.drifted ≡ true) × (printed ≡ codes "drifted\n"))
    ⊎ ((o.drifted ≡ false) × ((all : List WithTexts) × AreEditTexts o file all × IsLog Tells (map told_of all) printed))
IsLogOf Tells file o (Err fault) =
    (fault ≡ Drifted) × (o.drifted ≡ false) × ((all : List WithTexts) → AreEditTexts o file all → ⊥)

-- the history with what its edits made, and with its reply, or why there is none
abbrev pub IsWholeLog : Telling → List ℕ → List ℕ → Result Printout Fault → Type 0
IsWholeLog Tells file journal =
    Then (IsOpening file journal) (λ o. IsTextWith (history_reply o) (IsLogOf Tells file o))

-- ---- what went out

-- What went out of a call that prints or refuses: at success the whole text, with the reply that belongs to it; where
-- memory ran out or the sink failed, a prefix of the text; at another refusal nothing.
abbrev pub PutsPrintout :
    (Result Printout Fault → Type 0) → Option (List ℕ) → Option (List ℕ) → Result Reply Fault → Type 0
PutsPrintout IsPrintout old new (Ok reply) =
    (text : List ℕ) × IsPrintout (Ok (record { text = text; reply = reply })) × Appends old new text
PutsPrintout IsPrintout old new (Err OutOfMemory) =
    Keeps old new ⊎ ((p : Printout) × IsPrintout (Ok p) × AppendsPrefix old new p.text)
PutsPrintout IsPrintout old new (Err StoreFailed) =
    (p : Printout) × IsPrintout (Ok p) × AppendsPrefix old new p.text
PutsPrintout IsPrintout old new (Err fault) = IsPrintout (Err fault) × Keeps old new

-- what a sink took, and how often it had failed before and after
pub record Printed : Type 0 where
  pub text : List ℕ
  pub before : ℕ
  pub after : ℕ

-- this went out of a sink, which tells what it took and counts its failures
abbrev pub WentOut : {S : Type 0} → (S → Option (List ℕ)) → (S → ℕ) → S → S → Printed → Type 0
WentOut {S} contents failures old new p =
    Appends (contents old) (contents new) p.text × (p.before ≡ failures old) × (p.after ≡ failures new)

-- the one went out, in which the count of failures didn't fall, and then the other
abbrev pub IsBoth : Printed → Printed → Printed → Type 0
IsBoth p first rest = (p.text ≡ first.text ++ rest.text) × (first.before ≡ p.before)
    × (rest.before ≡ first.after) × (rest.after ≡ p.after) × (first.before ≤ first.after)

-- nothing went out
abbrev pub IsSilence : Printed → Type 0
IsSilence p = (p.text ≡ []) × (p.after ≡ p.before)
