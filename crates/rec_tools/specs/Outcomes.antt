-- What a request comes to on any two contents: its refusals in their order, or what it prints, what it writes, and its
-- reply.
use Rattle.std.specs.Prelude.{◌≡◌, ◌≢◌, ◌⊎◌, ℕ, ◌+◌, ◌-◌, ◌<◌, Bool, true, false, List, [], ◌∷◌, length, Option, Some}
use Rattle.std.specs.Prelude.{None, option_map, take, Result, Ok, Err, if◌then◌else◌}
use Rattle.std.specs.Option.{unwrap_or}
use Rattle.rec_text.specs.declared.fault.Fault.{Fault}
use Rattle.rec_text.specs.declared.fault.Fault.TheVariants.{BadPattern, DigestClash, Drifted, NoSuchEdit}
use Rattle.rec_journal.specs.declared.patch.Direction.{Direction}
use Rattle.rec_journal.specs.declared.patch.Direction.TheVariants.{Forward, Backward}
use Rattle.rec_journal.specs.declared.event.Revision.{Revision}
use Rattle.rec_journal.specs.declared.event.Tool.{Tool}
use Rattle.rec_journal.specs.declared.event.Tool.TheVariants.{Adopt as ByAdopt}
use Rattle.rec_journal.specs.declared.ending.End.{End}
use Rattle.rec_journal.specs.Ending.{digest_of, HasEnd, IsEndOf}
use Rattle.rec_journal.specs.declared.plan.Plan.{Plan}
use Rattle.rec_journal.specs.History.{Opened, Opens, IsOpening, IsRegular, lost_edits}
use Rattle.rec_journal.specs.Revisions.{LeadsBy, Leads}
use Rattle.rec_journal.specs.Plans.{ShareDigest, IsEditPlan, after_edit_plan, MovesByNearest, after_move, IsMovePlan}
use Rattle.rec_journal.specs.Numbers.{numbers_on, is_missing}
use Rattle.rec_journal.specs.Stops.{IsSafe}
use Rattle.rec_journal.specs.Forgetting.{forgotten_journal, after_forgetting}
use Rattle.rec_tools.specs.declared.decision.Decision.{Decision}
use Rattle.rec_tools.specs.declared.decision.Decision.TheVariants.{Stay, Put, Adopt}
use Rattle.rec_edit.specs.declared.answer.Edited.{Edited}
use Rattle.rec_tools.specs.declared.request.Request.{Request}
use Rattle.rec_tools.specs.declared.request.Reply.{Reply}
use Rattle.rec_tools.specs.declared.request.Reply.TheVariants.{Edited as EditedReply, Unchanged, Undone, Redone}
use Rattle.rec_tools.specs.declared.request.Reply.TheVariants.{Reverted, Forgotten, Adopted, Written}
use Rattle.rec_tools.specs.Home.{Contents, Write, writes_by, written}
use Rattle.rec_tools.specs.Reverting.{IsRevertOf}
use Rattle.rec_tools.specs.Steps.{Then}
use Rattle.rec_tools.specs.Printouts.{IsShownText, printed_history, IsShownEdit, IsWholeLog, history_reply}
use Rattle.rec_tools.specs.Asked.{Printout, AskedChange, editing, moving, reverting, forgetting, adopting, writing}
use Rattle.rec_tools.specs.Asked.{Asked, looking, listing, showing, listing_changes, changing, previewing, Reading}
use Rattle.rec_tools.specs.Asked.{Telling}
use Rattle.rec_tools.specs.Requests.{asked_of}
use Rattle.rec_tools.specs.Writing.{edited_by_lines}

-- ---- outcomes

-- what a request comes to that isn't refused: it prints this, it writes these in this order, and this is the reply; and
-- the text from which an edit leads to the file, where the file was another program's
pub record Outcome : Type 0 where
  pub text : List ℕ
  pub writes : List Write
  pub reply : Reply
  pub from : Option (List ℕ)

-- a text is printed, and nothing is written
abbrev pub printing : List ℕ → Reply → Outcome
printing text reply = record { text = text; writes = []; reply = reply; from = None }

-- nothing is printed or written
abbrev pub staying : Reply → Outcome
staying reply = printing [] reply

-- these are put in place
abbrev pub replacing : List ℕ → Option (List ℕ) → Reply → Outcome
replacing journal file reply = record { text = []; writes = writes_by journal file; reply = reply; from = None }

-- a journal is put in place in which an edit leads from this text to the file
abbrev pub leading : List ℕ → List ℕ → Reply → Outcome
leading journal from reply = record { text = []; writes = writes_by journal None; reply = reply; from = Some from }

-- a plan is put in place
abbrev pub putting : Plan → Reply → Outcome
putting plan reply = replacing plan.journal (Some plan.file) reply

-- a decision as an outcome
abbrev pub outcome_of : Decision → Outcome
outcome_of (Stay reply) = staying reply
outcome_of (Put journal file reply) = replacing journal (option_map (λ new. new.text) file) reply
outcome_of (Adopt journal from steps reply) = leading journal from reply

-- its reply
abbrev pub reply_in : Decision → Reply
reply_in decision = (outcome_of decision).reply

-- ---- edits

-- the plan of an edit: its steps lead from the file to the text, and a stop leaves the history before or the one with
-- the edit
pub record IsPlanned (o : Opened) (c : Contents) (tool : Tool) (made : Edited) (plan : Plan) : Type 0 where
  pub leads : LeadsBy made.steps c.file made.text
  pub planned : IsEditPlan o c.journal tool made.steps made.text (Ok plan)
  pub safe : IsSafe c.file c.journal o (after_edit_plan o c.journal tool made.steps made.text) plan

-- an edit that leaves the text as it is writes nothing; every other one is put in place, with this reply, unless the
-- two texts share a digest
abbrev pub IsEditOutcome : Opened → Contents → Tool → Edited → Reply → Result Outcome Fault → Type 0
IsEditOutcome o c tool made reply (Ok outcome) =
    ((made.text ≡ c.file) × (outcome ≡ staying (Unchanged made.chosen)))
    ⊎ ((made.text ≢ c.file) × ((plan : Plan) × IsPlanned o c tool made plan × (outcome ≡ putting plan reply)))
IsEditOutcome o c tool made reply (Err fault) =
    (made.text ≢ c.file) × (fault ≡ DigestClash) × ShareDigest c.file made.text

-- the reply to an edit that is made, by the number of its event and how many edits are dropped
abbrev pub edit_reply : ℕ → ℕ → Tool → Edited → Reply
edit_reply number dropped tool made = EditedReply made.changed number dropped

-- the reply to a revert of an edit, by the number of its own event
abbrev pub revert_reply : ℕ → ℕ → Tool → Edited → Reply
revert_reply edit number tool made = Reverted edit tool number

-- the reply to a text that is written, by the number of its event and how many edits are dropped
abbrev pub write_reply : ℕ → ℕ → Tool → Edited → Reply
write_reply number dropped tool made = Written number dropped

-- what is made of a file and of its history is put in place
abbrev pub IsPutOn : (Opened → Result (Tool × Edited) Fault → Type 0) → (Opened → Tool → Edited → Reply) → Contents
    → Result Outcome Fault → Type 0
IsPutOn MakesOf reply_for c =
    Then (IsOpening c.file c.journal) (λ o.
    Then (MakesOf o) (λ (tool, made).
    IsEditOutcome o c tool made (reply_for o tool made)))

-- the same of a file that can be read
abbrev pub IsPutBy : {X : Type 0} → Reading X → (Opened → Result (Tool × Edited) Fault → Type 0)
    → (Opened → Tool → Edited → Reply) → Contents → Result Outcome Fault → Type 0
IsPutBy Reads MakesOf reply_for c = Then (Reads c.file) (λ _. IsPutOn MakesOf reply_for c)

-- ---- a move

-- the reply to a move by the edit of this number and tool
abbrev pub reply_of : Direction → ℕ → Tool → Reply
reply_of Backward number tool = Undone number tool
reply_of Forward number tool = Redone number tool

-- the plan of a move by the nearest edit that way is put in place, and a stop leaves the history before or the one with
-- the move
pub record IsMoveOutcome (direction : Direction) (o : Opened) (c : Contents) (outcome : Outcome) : Type 0 where
  pub plan : Plan
  pub moves : MovesByNearest direction o c.file c.journal plan
  pub safe : IsSafe c.file c.journal o (after_move direction o c.journal moves.nearest moves.others) plan
  pub is : outcome ≡ putting plan (reply_of direction moves.nearest.number moves.nearest.tool)

-- Refused where the file has drifted, else where there is no edit that way, else where none of them has the number that
-- is named, else where the nearest leads nowhere.
abbrev pub IsMove : Direction → Option ℕ → Opened → Contents → Result Outcome Fault → Type 0
IsMove direction through o c (Ok outcome) = (o.drifted ≡ false)
    × (is_missing through (numbers_on direction o) ≡ false) × IsMoveOutcome direction o c outcome
IsMove direction through o c (Err fault) =
    ((fault ≡ NoSuchEdit) × (o.drifted ≡ false) × (is_missing through (numbers_on direction o) ≡ true))
    ⊎ ((is_missing through (numbers_on direction o) ≡ false) × IsMovePlan direction o c.file c.journal (Err fault))

-- ---- forgetting

-- The journal is written anew, with the newest n of the edits that can be taken back: with the file it stands for the
-- history without what is forgotten, and it is regular.
pub record Forgets (n : ℕ) (o : Opened) (c : Contents) (reply : Reply) (outcome : Outcome) : Type 0 where
  pub opens : Opens c.file (forgotten_journal n o) (after_forgetting n o)
  pub regular : IsRegular (forgotten_journal n o)
  pub is : outcome ≡ replacing (forgotten_journal n o) None reply

-- Of the edits that can be taken back this number of the oldest go, and this number of those that can be neither taken
-- back nor made again any more. Nothing is written where both are 0.
abbrev pub IsLetGo : ℕ → ℕ → Opened → Contents → Outcome → Type 0
IsLetGo older dropped o c outcome =
    ((older + dropped ≡ 0) × (outcome ≡ staying (Forgotten older dropped)))
    ⊎ ((0 < older + dropped) × Forgets (length o.past - older) o c (Forgotten older dropped) outcome)

-- All but the newest n of the edits that can be taken back go; and the dropped ones, if they are to. Refused where the
-- file has drifted.
abbrev pub IsForgetting : ℕ → Bool → Opened → Contents → Result Outcome Fault → Type 0
IsForgetting n dropping o c (Ok outcome) = (o.drifted ≡ false)
    × IsLetGo (length o.past - n) (if dropping then lost_edits o else 0) o c outcome
IsForgetting n dropping o c (Err fault) = (fault ≡ Drifted) × (o.drifted ≡ true)

-- ---- what another program changed

-- The history that counts, as it is with its end for the file, goes on with one edit from there to the file. The
-- journal alone is put in place.
pub record Adopts (o : Opened) (c : Contents) (found : End) (outcome : Outcome) : Type 0 where
  pub has_end : HasEnd c.file c.journal o found.history
  pub end : digest_of found.text ≡ found.history.digest
  pub plan : Plan
  pub planned : IsPlanned found.history (record { file = found.text; journal = take o.keep c.journal }) ByAdopt
      (edited_by_lines ByAdopt found.text c.file) plan
  pub is : outcome ≡ leading plan.journal found.text (Adopted o.next)

-- the end of the history, from a text or, where none is given, from the file's own
abbrev pub IsEndFor : Option (List ℕ) → Opened → Contents → Result End Fault → Type 0
IsEndFor old o c = IsEndOf (take o.keep c.journal) (unwrap_or old c.file)

-- nothing is done where the file hasn't drifted
abbrev pub IsAdoption : Option (List ℕ) → Opened → Contents → Result Outcome Fault → Type 0
IsAdoption old o c (Ok outcome) =
    ((o.drifted ≡ false) × (outcome ≡ staying (Unchanged None)))
    ⊎ ((o.drifted ≡ true) × ((found : End) × IsEndFor old o c (Ok found) × Adopts o c found outcome))
IsAdoption old o c (Err fault) = (o.drifted ≡ true) × IsEndFor old o c (Err fault)

-- ---- a look

-- what is printed, with nothing written
abbrev pub IsPrinting : (Result Printout Fault → Type 0) → Result Outcome Fault → Type 0
IsPrinting IsText (Ok outcome) = (p : Printout) × IsText (Ok p) × (outcome ≡ printing p.text p.reply)
IsPrinting IsText (Err fault) = IsText (Err fault)

-- ---- a change

-- what a change comes to on the contents
abbrev pub IsChangeOutcome : Contents → AskedChange → Result Outcome Fault → Type 0
IsChangeOutcome c (editing Reads Makes) = IsPutBy Reads (λ _. Makes c.file) (λ o. edit_reply o.next o.dropped) c
IsChangeOutcome c (reverting Reads number Reverts) =
    IsPutBy Reads (λ o. IsRevertOf number Reverts o c.file) (λ o. revert_reply number o.next) c
IsChangeOutcome c (moving direction through) = Then (IsOpening c.file c.journal) (λ o. IsMove direction through o c)
IsChangeOutcome c (forgetting n dropping) = Then (IsOpening c.file c.journal) (λ o. IsForgetting n dropping o c)
IsChangeOutcome c (adopting old) = Then (IsOpening c.file c.journal) (λ o. IsAdoption old o c)
IsChangeOutcome c (writing Makes) = IsPutOn (λ _. Makes c.file) (λ o. write_reply o.next o.dropped) c

-- ---- what would change

-- of the edits to take back one is new on top of the others; or it was there, and is gone
abbrev pub OnTop : {X : Type 0} → Direction → X → List X → List X → Type 0
OnTop Forward x old new = new ≡ x ∷ old
OnTop Backward x old new = old ≡ x ∷ new

-- by this edit, which is made or taken back, the one file leads to the other
pub record LeadsAcross (direction : Direction) (e : Revision) (c d : Contents) : Type 0 where
  pub differ : d.file ≢ c.file
  pub here : Opened
  pub opens_here : Opens c.file c.journal here
  pub there : Opened
  pub opens_there : Opens d.file d.journal there
  pub on_top : OnTop direction e here.past there.past
  pub leads : Leads direction e c.file d.file

-- what is printed of the way from the one contents to the others: nothing where the files are the same
abbrev pub IsPreviewText : Telling → Contents → Contents → List ℕ → Type 0
IsPreviewText Tells c d printed =
    ((d.file ≡ c.file) × (printed ≡ []))
    ⊎ ((direction : Direction) × (e : Revision) × LeadsAcross direction e c d
    × Tells direction e.steps c.file d.file printed)

-- the newest edit of these contents leads from a text to the file
pub record LeadsFrom (from : List ℕ) (e : Revision) (d : Contents) : Type 0 where
  pub there : Opened
  pub opens_there : Opens d.file d.journal there
  pub others : List Revision
  pub newest : there.past ≡ e ∷ others
  pub leads : Leads Forward e from d.file

-- what is printed where the file was another program's: the edit that leads to it
abbrev pub IsPreviewFrom : Option (List ℕ) → Telling → Contents → Contents → List ℕ → Type 0
IsPreviewFrom None Tells c d printed = IsPreviewText Tells c d printed
IsPreviewFrom (Some from) Tells c d printed =
    (e : Revision) × LeadsFrom from e d × Tells Forward e.steps from d.file printed

-- what would be changed is printed, and not done
pub record IsPreviewOf (Tells : Telling) (c : Contents) (would outcome : Outcome) : Type 0 where
  pub text : IsPreviewFrom would.from Tells c (written c would.writes) outcome.text
  pub writes : outcome.writes ≡ []
  pub reply : outcome.reply ≡ would.reply
  pub from : outcome.from ≡ None

-- ---- requests

-- what is asked for comes to this on the contents
abbrev pub IsRequestOutcome : Contents → Asked → Result Outcome Fault → Type 0
IsRequestOutcome c (looking IsText) answer = IsPrinting (IsText c.file) answer
IsRequestOutcome c listing answer =
    Then (IsOpening c.file c.journal) (λ o given. given ≡ Ok (printing (printed_history o) (history_reply o))) answer
IsRequestOutcome c (showing number Tells) answer =
    IsPrinting (IsShownText (IsShownEdit number Tells c.file c.journal)) answer
IsRequestOutcome c (listing_changes Tells) answer = IsPrinting (IsWholeLog Tells c.file c.journal) answer
IsRequestOutcome c (changing change) answer = IsChangeOutcome c change answer
IsRequestOutcome c (previewing Tells change) (Ok outcome) =
    (would : Outcome) × IsChangeOutcome c change (Ok would) × IsPreviewOf Tells c would outcome
IsRequestOutcome c (previewing Tells change) (Err fault) = IsChangeOutcome c change (Err fault)

-- an answer with the decision as an outcome
abbrev pub outcome_in : Result Decision Fault → Result Outcome Fault
outcome_in (Ok decision) = Ok (outcome_of decision)
outcome_in (Err fault) = Err fault

-- a decision is what a change comes to on a file and a journal, or it is refused so
abbrev pub Decides : List ℕ → List ℕ → AskedChange → Result Decision Fault → Type 0
Decides file journal change answer =
    IsChangeOutcome (record { file = file; journal = journal }) change (outcome_in answer)

-- A request comes to one outcome on two contents at most; only where `regex` may refuse a pattern of its expression or
-- of a descriptor, that refusal may stand instead of the other answer.
abbrev pub OneOutcome : Type 0
OneOutcome = (c : Contents) (request : Request) (one other : Result Outcome Fault)
    → IsRequestOutcome c (asked_of request) one → IsRequestOutcome c (asked_of request) other
    → (one ≢ Err BadPattern) → (other ≢ Err BadPattern) → one ≡ other
