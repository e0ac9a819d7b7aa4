-- Laws of the machine, of what contents stand for, and of files that were changed outside.
use Rattle.std.specs.Prelude.{◌≡◌, ◌≢◌, ◌⊎◌, ℕ, ◌+◌, Bool, true, List, [], ◌∷◌, codes, Option, None, Result, Ok, Err}
use Rattle.std.specs.Option.{unwrap_or}
use Rattle.rec_journal.specs.declared.ending.End.{End}
use Rattle.rec_journal.specs.declared.event.Tool.TheVariants.{Adopt as ByAdopt}
use Rattle.rec_journal.specs.Plans.{ShareDigest}
use Rattle.rec_text.specs.declared.fault.Fault.{Fault}
use Rattle.rec_text.specs.declared.fault.Fault.TheVariants.{BadPattern, Drifted}
use Rattle.rec_journal.specs.declared.event.EditStep.{EditStep}
use Rattle.rec_journal.specs.declared.event.Tool.{Tool}
use Rattle.rec_journal.specs.History.{Opened, Opens}
use Rattle.rec_edit.specs.declared.answer.Edited.{Edited}
use Rattle.rec_diff.specs.declared.style.DiffStyle.{DiffStyle}
use Rattle.rec_tools.specs.declared.request.Reply.{Reply}
use Rattle.rec_tools.specs.declared.request.Reply.TheVariants.{Shown, Edited as EditedReply, Redone, Reverted}
use Rattle.rec_tools.specs.declared.request.Reply.TheVariants.{Written, Drifted as HasDrifted}
use Rattle.rec_tools.specs.declared.request.Change.{Change}
use Rattle.rec_tools.specs.declared.request.Change.TheVariants.{Undo, Redo, Revert, Forget}
use Rattle.rec_tools.specs.declared.request.Look.TheVariants.{History, Log}
use Rattle.rec_tools.specs.declared.request.Request.{Request}
use Rattle.rec_tools.specs.Home.{Contents, written}
use Rattle.rec_tools.specs.Asked.{AskedChange, editing, adopting, writing, Asked, showing, changing, previewing}
use Rattle.rec_tools.specs.Requests.{look_of, change_of, asked_of, as_diff}
use Rattle.rec_tools.specs.Outcomes.{Outcome, IsChangeOutcome, IsRequestOutcome, printing, IsEndFor, Adopts}
use Rattle.rec_tools.specs.Writing.{edited_by_lines}
use Rattle.rec_tools.specs.Attempts.{Answer}
use Rattle.rec_tools.specs.Machine.{IsMachineStep}
use Rattle.rec_tools.specs.Stands.{Stands}
use Rattle.rec_tools.specs.States.{Entry, State, first_state, state_after_edit}

-- The machine's step is a function of the state and the request; only where `regex` may refuse a pattern, that refusal
-- may stand instead of the other answer.
abbrev pub OneStep : Type 0
OneStep = (s : State) (request : Request) (one other : Answer) (text printed : List ℕ) (t u : State)
    → IsMachineStep s (asked_of request) one text t → IsMachineStep s (asked_of request) other printed u
    → (one ≢ Err BadPattern) → (other ≢ Err BadPattern)
    → (one ≡ other) × (text ≡ printed) × (t ≡ u)

-- contents stand for one state at most
abbrev pub OneState : Type 0
OneState = (c : Contents) (s t : State) → Stands c s → Stands c t → s ≡ t

-- a file and an empty journal stand for the first state
abbrev pub FirstStands : Type 0
FirstStands = (file : List ℕ) → Stands (record { file = file; journal = [] }) (first_state file)

-- ---- a preview

-- the reply to a change that made an edit, of which a revert and a text that is written are two, or made one again
abbrev pub MadeAnEdit : Reply → Type 0
MadeAnEdit (EditedReply changed number dropped) = Unit {0}
MadeAnEdit (Redone number tool) = Unit {0}
MadeAnEdit (Reverted edit tool number) = Unit {0}
MadeAnEdit (Written number dropped) = Unit {0}
MadeAnEdit _ = ⊥

-- The preview of a change that makes an edit, or makes one again, prints what is shown of the newest edit once the
-- change is made.
abbrev pub PreviewIsShowAfter : Type 0
PreviewIsShowAfter = (c : Contents) (change : Change) (style : DiffStyle) (done previewed : Outcome)
    → MadeAnEdit done.reply → IsChangeOutcome c (change_of change) (Ok done)
    → IsRequestOutcome c (previewing (as_diff style) (change_of change)) (Ok previewed)
    → IsRequestOutcome (written c done.writes) (showing None (as_diff style)) (Ok (printing previewed.text Shown))

-- ---- undo and redo

-- whatever comes of a change, it isn't refused, and the file is this text then
abbrev pub BringsBack : Contents → AskedChange → List ℕ → Type 0
BringsBack c change text = (r : Result Outcome Fault) → IsChangeOutcome c change r
    → (outcome : Outcome) × (r ≡ Ok outcome) × ((written c outcome.writes).file ≡ text)

-- After an edit, a batch, a revert, a whole text or a redo that was written, an undo brings the file back as it was,
-- byte for byte; also where the file had been changed outside.
abbrev pub UndoBringsBack : Type 0
UndoBringsBack = (c : Contents) (change : Change) (done : Outcome)
    → done.writes ≢ [] → MadeAnEdit done.reply → IsChangeOutcome c (change_of change) (Ok done)
    → BringsBack (written c done.writes) (change_of (Undo None)) c.file

-- after an undo, a redo does
abbrev pub RedoBringsBack : Type 0
RedoBringsBack = (c : Contents) (through : Option ℕ) (done : Outcome)
    → IsChangeOutcome c (change_of (Undo through)) (Ok done)
    → BringsBack (written c done.writes) (change_of (Redo None)) c.file

-- ---- a file that was changed outside

-- what is asked for is a preview
abbrev pub IsPreview : Asked → Type 0
IsPreview (previewing Tells change) = Unit {0}
IsPreview _ = ⊥

-- what is asked for makes this of a text, told with this tool
abbrev pub MakesOf : Asked → List ℕ → Tool → Edited → Type 0
MakesOf (changing (editing Reads Makes)) text tool made = Makes text (Ok (tool, made))
MakesOf (changing (writing Makes)) text tool made = Makes text (Ok (tool, made))
MakesOf _ text tool made = ⊥

-- an edit begins the history anew, with the outside text as the one before it
abbrev pub outside_state : Contents → Opened → Tool → List EditStep → List ℕ → State
outside_state c o tool steps text = record {
  past = record { number = o.next; tool = tool; steps = steps; text = c.file } ∷ [];
  present = text;
  future = [];
  next = o.next + 1;
  made = o.made + 1;
}

-- the history begins anew with the edit that is asked for, as it is made of the outside text
pub record BeginsAnew (c : Contents) (o : Opened) (asked : Asked) (outcome : Outcome) : Type 0 where
  pub tool : Tool
  pub made : Edited
  pub makes : MakesOf asked c.file tool made
  pub stands : Stands (written c outcome.writes) (outside_state c o tool made.steps made.text)

-- the history that counts goes on with the outside text, by what is asked for
abbrev pub GoesOn : Contents → Opened → Asked → Outcome → Type 0
GoesOn c o (changing (adopting old)) outcome =
    (found : End) × IsEndFor old o c (Ok found) × Adopts o c found outcome
GoesOn c o _ outcome = ⊥

-- Nothing is taken back, made again, reverted or forgotten, and the history says so, in its reply too. What is written
-- begins it anew, or is an adoption; where nothing is, only a preview is answered as an edit is.
pub record IsNoticed (c : Contents) (o : Opened) : Type 0 where
  pub undo : (through : Option ℕ) (r : Result Outcome Fault) → IsChangeOutcome c (change_of (Undo through)) r
      → r ≡ Err Drifted
  pub redo : (through : Option ℕ) (r : Result Outcome Fault) → IsChangeOutcome c (change_of (Redo through)) r
      → r ≡ Err Drifted
  pub revert : (number : ℕ) (force : Bool) (outcome : Outcome)
      → IsChangeOutcome c (change_of (Revert number force)) (Ok outcome) → ⊥
  pub forgetting : (newest : ℕ) (dropped : Bool) (r : Result Outcome Fault)
      → IsChangeOutcome c (change_of (Forget newest dropped)) r → r ≡ Err Drifted
  pub history : (r : Result Outcome Fault) → IsRequestOutcome c (look_of History) r
      → r ≡ Ok (printing (codes "drifted\n") HasDrifted)
  pub log : (style : DiffStyle) (r : Result Outcome Fault) → IsRequestOutcome c (look_of (Log style)) r
      → r ≡ Ok (printing (codes "drifted\n") HasDrifted)
  pub edits : (request : Request) (outcome : Outcome) → IsRequestOutcome c (asked_of request) (Ok outcome)
      → outcome.writes ≢ [] → BeginsAnew c o (asked_of request) outcome ⊎ GoesOn c o (asked_of request) outcome
  pub unwritten : (request : Request) (outcome : Outcome) → IsRequestOutcome c (asked_of request) (Ok outcome)
      → outcome.writes ≡ [] → MadeAnEdit outcome.reply → IsPreview (asked_of request)

-- wherever the opening has drifted
abbrev pub OutsideIsNoticed : Type 0
OutsideIsNoticed = (c : Contents) (o : Opened) → Opens c.file c.journal o → o.drifted ≡ true → IsNoticed c o

-- ---- adopted is an edit

-- two texts share a digest
abbrev pub Collide : Type 0
Collide = (one other : List ℕ) × (one ≢ other) × ShareDigest one other

-- the file was changed by another program, and as much of the journal counts as before
pub record IsChangedOutside (c : Contents) (o : Opened) (changed : List ℕ) (p : Opened) : Type 0 where
  pub opens : Opens c.file c.journal o
  pub opens_changed : Opens changed c.journal p
  pub drifted : p.drifted ≡ true
  pub keep : p.keep ≡ o.keep

-- Where contents stood for a state, and the file was then changed by another program, an adoption leaves contents that
-- stand for the state after an edit to the new text, as if recu had made it; digests aside.
abbrev pub AdoptedIsAnEdit : Type 0
AdoptedIsAnEdit = (c : Contents) (s : State) (o p : Opened) (changed : List ℕ) (old : Option (List ℕ))
    (outcome : Outcome) → Stands c s → IsChangedOutside c o changed p
    → IsChangeOutcome (record { file = changed; journal = c.journal }) (adopting old) (Ok outcome)
    → Collide ⊎ Stands (written (record { file = changed; journal = c.journal }) outcome.writes)
    (state_after_edit s ByAdopt (edited_by_lines ByAdopt s.present changed).steps changed)

-- one of these entries has this text
abbrev pub HasText : List Entry → List ℕ → Type 0
HasText [] text = ⊥
HasText (entry ∷ entries) text = (entry.text ≡ text) ⊎ HasText entries text

-- a text of a state: the present one, or that of an edit to take back or to make again
abbrev pub IsTextIn : State → List ℕ → Type 0
IsTextIn s text = (text ≡ s.present) ⊎ (HasText s.past text ⊎ HasText s.future text)

-- and it isn't refused with any text of the state
abbrev pub AnyTextWillDo : Type 0
AnyTextWillDo = (c : Contents) (s : State) (o p : Opened) (changed : List ℕ) (old : Option (List ℕ)) (fault : Fault)
    → Stands c s → IsChangedOutside c o changed p → IsTextIn s (unwrap_or old changed)
    → IsChangeOutcome (record { file = changed; journal = c.journal }) (adopting old) (Err fault) → Collide

-- the preview of an adoption prints what is shown of the newest edit once it is made
abbrev pub AdoptionIsShownAfter : Type 0
AdoptionIsShownAfter = (c : Contents) (old : Option (List ℕ)) (style : DiffStyle) (done previewed : Outcome)
    → done.writes ≢ [] → IsChangeOutcome c (adopting old) (Ok done)
    → IsRequestOutcome c (previewing (as_diff style) (adopting old)) (Ok previewed)
    → IsRequestOutcome (written c done.writes) (showing None (as_diff style)) (Ok (printing previewed.text Shown))
