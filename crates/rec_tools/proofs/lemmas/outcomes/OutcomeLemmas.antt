-- A request comes to one outcome on two contents at most.
use Rattle.std.proofs.Common.{arith, ◌≡◌, inl, inr, ℕ, Bool, true, false, Option, Some, None, List, ◌∷◌, length, map, Result, Ok, Err, sym, ap, ap₂, subst, ◌∙◌}
use Rattle.std.proofs.lemmas.Bool.{false≢true}
use Rattle.rec_text.specs.declared.fault.Fault.{Fault}
use Rattle.rec_text.specs.declared.fault.Fault.TheVariants.{BadPattern}
use Rattle.rec_text.specs.declared.violations.Violation.{Violation}
use Rattle.rec_text.specs.Elements.{Piece}
use Rattle.rec_text.proofs.lemmas.records.RecordLemmas.{OneListOfRecords-holds}
use Rattle.rec_sex.specs.declared.lists.field_list.Item.{Item}
use Rattle.rec_sex.proofs.lemmas.lists.FieldListReading.{one_field_list}
use Rattle.rec_check.specs.declared.set.Set_.{Set_}
use Rattle.rec_check.proofs.lemmas.laws.CheckLemmas.{one_check}
use Rattle.rec_check.specs.Violations.{AreViolationsOf}
use Rattle.rec_select.specs.declared.info.InfoForm.{InfoForm}
use Rattle.rec_select.specs.declared.records.Shape.{Shape}
use Rattle.rec_select.specs.declared.records.Shape.TheVariants.{Print as PrintedFields, Values as PickedValues, Row as PickedRow}
use Rattle.rec_select.specs.Info.{IsInfo, info}
use Rattle.rec_select.specs.Printing.{IsPrinted, printed}
use Rattle.rec_select.specs.Report.{report}
use Rattle.rec_select.specs.Selection.{IsSelection}
use Rattle.rec_select.proofs.lemmas.selection.SelectionLemmas.{one_selection}
use Rattle.rec_journal.specs.declared.event.Revision.{Revision}
use Rattle.rec_journal.specs.declared.patch.Direction.{Direction}
use Rattle.rec_journal.specs.declared.patch.Direction.TheVariants.{Forward, Backward}
use Rattle.rec_journal.specs.declared.event.Tool.{Tool}
use Rattle.rec_journal.specs.declared.plan.Plan.{Plan}
use Rattle.rec_journal.specs.EditTexts.{IsEditTexts}
use Rattle.rec_journal.specs.History.{Opened, Opens, IsOpening}
use Rattle.rec_journal.specs.Plans.{IsMovePlan}
use Rattle.rec_journal.specs.Numbers.{numbers_on, is_missing}
use Rattle.rec_journal.proofs.lemmas.plans.PlanLemmas.{one_move_plan}
use Rattle.rec_journal.proofs.lemmas.histories.Openings.{one_opening}
use Rattle.rec_journal.proofs.lemmas.texts.AllLemmas.{one_list_of_texts}
use Rattle.rec_journal.proofs.lemmas.texts.WayLemmas.{one_edit_texts}
use Rattle.rec_edit.specs.declared.answer.Edited.{Edited}
use Rattle.rec_tools.specs.declared.request.Form.{Form}
use Rattle.rec_tools.specs.declared.request.Form.TheVariants.{Blocks, Print, Values, Row, Count}
use Rattle.rec_tools.specs.declared.request.Pick.{Pick}
use Rattle.rec_tools.specs.declared.request.Look.{Look}
use Rattle.rec_tools.specs.declared.request.Look.TheVariants.{Show, Info, Check, History, Diff, Log}
use Rattle.rec_tools.specs.declared.request.Change.{Change}
use Rattle.rec_tools.specs.declared.request.Change.TheVariants.{Edit, Batch, Undo, Redo, Revert, Forget, Adopt, Write as WriteText}
use Rattle.rec_tools.specs.declared.request.Request.{Request}
use Rattle.rec_tools.specs.declared.request.Request.TheVariants.{Look as Looks, Change as Changes, Preview as Previews}
use Rattle.rec_tools.specs.declared.request.Reply.{Reply}
use Rattle.rec_tools.specs.Home.{Contents, Write, written}
use Rattle.rec_tools.specs.Steps.{Then}
use Rattle.rec_tools.specs.Asking.{IsFilter, IsListed, IsShape}
use Rattle.rec_tools.specs.Printouts.{printed_history, told_of, IsLog, IsShownEdit, IsLogOf, IsWholeLog, IsShow, IsInfoOf, IsShownText, IsReportText, verdict, IsTold, history_reply}
use Rattle.rec_tools.specs.Printouts.{IsTextWith}
use Rattle.rec_tools.specs.Asked.{Printout, AskedChange, editing, moving, reverting, forgetting, adopting, writing, Asked, looking, listing, showing, listing_changes, changing, previewing}
use Rattle.rec_tools.specs.Asked.{Reading, Standing, Telling}
use Rattle.rec_tools.specs.Requests.{look_of, change_of, asked_of, IsBatch, IsOneEdit}
use Rattle.rec_tools.specs.Reverting.{IsRevertOf}
use Rattle.rec_tools.specs.Outcomes.{Outcome, IsChangeOutcome, IsRequestOutcome, IsPrinting, IsEditOutcome, IsPutOn, IsPutBy, IsMove, IsForgetting, IsAdoption, OnTop, LeadsAcross}
use Rattle.rec_tools.specs.Outcomes.{IsPreviewText, IsPreviewFrom, OneOutcome, edit_reply, revert_reply, write_reply, printing, putting, reply_of}
use Rattle.rec_text.proofs.lemmas.FaultLemmas.{same_fault, same_value, no_both}
use Rattle.rec_tools.proofs.lemmas.outcomes.OpeningLemmas.{no_clash, same_plan_of}
use Rattle.rec_tools.proofs.lemmas.outcomes.EditLemmas.{agree_on_one, agree_on_batch, one_made}
use Rattle.rec_text.proofs.lemmas.StepLemmas.{HasOne, HasOneBut, HasOneBut-of, HasOneBut-Then, one_value, no_value, one_fault, HasOne-Then, Then-first, Then-next}
use Rattle.rec_tools.proofs.lemmas.printing.LogLemmas.{one_log, TellsOne, one_as_diff}
use Rattle.rec_tools.proofs.lemmas.outcomes.AnswerLemmas.{HasOneBut-filter, HasOneBut-text, agree_by_sets, same_selection, HasOneBut-after, ReadsOne, ReadsOne-text}
use Rattle.rec_tools.proofs.lemmas.outcomes.RevertLemmas.{one_revert_of, one_reverted}
use Rattle.rec_tools.proofs.lemmas.outcomes.AdoptLemmas.{HasOne-adoption}
use Rattle.rec_tools.proofs.lemmas.outcomes.WriteLemmas.{HasOneBut-written}

-- ---- printed texts

HasOne-listed : (shape_of : List Item → Shape) (text : List ℕ) → HasOne (IsListed shape_of text)
HasOne-listed shape_of text (Ok one) (Ok other) (items, is, e) (others, is_too, k) =
    ap Ok (e ∙ ap shape_of (same_value items others (one_field_list text (Ok items) is (Ok others) is_too)) ∙ sym k)
HasOne-listed shape_of text (Ok one) (Err fault) (items, is, e) is_too = absurd (no_both items fault (one_field_list text (Ok items) is (Err fault) is_too))
HasOne-listed shape_of text (Err fault) (Ok other) is (others, is_too, k) = absurd (no_both others fault (one_field_list text (Ok others) is_too (Err fault) is))
HasOne-listed shape_of text (Err fault) (Err other) is is_too = ap Err (same_fault fault other (one_field_list text (Err fault) is (Err other) is_too))

HasOne-shape : (form : Form) → HasOne (IsShape form)
HasOne-shape Blocks one other is is_too = is ∙ sym is_too
HasOne-shape (Print list) one other is is_too = HasOne-listed PrintedFields list one other is is_too
HasOne-shape (Values list) one other is is_too = HasOne-listed PickedValues list one other is is_too
HasOne-shape (Row list) one other is is_too = HasOne-listed PickedRow list one other is is_too
HasOne-shape Count one other is is_too = is ∙ sym is_too

HasOne-printed : (pieces : List Piece) (selected : List ℕ) (shape : Shape) (collapse : Bool) → HasOne (IsPrinted pieces selected shape collapse)
HasOne-printed pieces selected shape collapse (Ok one) (Ok other) (records, are, e) (others, are_too, k) =
    ap Ok (e ∙ ap (λ rs. printed pieces rs selected shape collapse) (OneListOfRecords-holds.records pieces records others are are_too) ∙ sym k)
HasOne-printed pieces selected shape collapse (Ok one) (Err fault) is is_too = absurd is_too
HasOne-printed pieces selected shape collapse (Err fault) other is is_too = absurd is

-- the records of these sets that a pick selects, in a form
abbrev IsShowIn : Pick → Form → Bool → List Piece → List Set_ → Result (List ℕ) Fault → Type 0
IsShowIn pick form collapse pieces sets =
    Then (IsFilter pick.by) (λ wanted.
    Then (IsShape form) (λ shape.
    Then (IsSelection pieces sets pick.kind wanted) (λ selected. IsPrinted pieces selected shape collapse)))

HasOneBut-show_in : (pick : Pick) (form : Form) (collapse : Bool) (pieces : List Piece) (sets : List Set_) → HasOneBut (IsShowIn pick form collapse pieces sets)
HasOneBut-show_in pick form collapse pieces sets =
    HasOneBut-filter pick.by _
    (λ wanted other alike. Then-next (IsShape form) _ _ (λ shape. Then-first _ _ _ (same_selection pieces sets pick.kind wanted other alike.into alike.back)))
    (λ wanted. HasOneBut-of _ (HasOne-Then _ _ (HasOne-shape form) (λ shape _.
    HasOne-Then _ _ (one_selection pieces sets pick.kind wanted) (λ selected _. HasOne-printed pieces selected shape collapse))))

HasOneBut-show : (file : List ℕ) (pick : Pick) (form : Form) (collapse : Bool) → HasOneBut (IsShow file pick form collapse)
HasOneBut-show file pick form collapse =
    HasOneBut-text file (λ text. IsShowIn pick form collapse text.pieces text.schema.sets)
    (agree_by_sets (IsShowIn pick form collapse) (HasOneBut-show_in pick form collapse))

HasOne-info : (record_type : Option (List ℕ)) (form : InfoForm) (pieces : List Piece) (sets : List Set_) → HasOne (IsInfo pieces sets record_type form)
HasOne-info record_type form pieces sets (Ok one) (Ok other) (kept, records, are, is, e) (others, more, are_too, is_too, k) =
    ap Ok (e ∙ ap (λ ss. info form pieces records ss) (same_value kept others (sym is ∙ is_too))
    ∙ ap (λ rs. info form pieces rs others) (OneListOfRecords-holds.records pieces records more are are_too) ∙ sym k)
HasOne-info record_type form pieces sets (Ok one) (Err fault) (kept, records, are, is, e) is_too = absurd (no_both kept fault (sym is ∙ is_too))
HasOne-info record_type form pieces sets (Err fault) (Ok other) is (others, more, are_too, is_too, k) = absurd (no_both others fault (sym is_too ∙ is))
HasOne-info record_type form pieces sets (Err fault) (Err other) is is_too = ap Err (same_fault fault other (sym is ∙ is_too))

HasOneBut-info_of : (file : List ℕ) (record_type : Option (List ℕ)) (form : InfoForm) → HasOneBut (IsInfoOf file record_type form)
HasOneBut-info_of file record_type form =
    HasOneBut-text file (λ text. IsInfo text.pieces text.schema.sets record_type form)
    (agree_by_sets (λ pieces sets. IsInfo pieces sets record_type form) (λ pieces sets. HasOneBut-of _ (HasOne-info record_type form pieces sets)))

HasOneBut-check : (file : List ℕ) → HasOneBut (AreViolationsOf file)
HasOneBut-check file = one_check file

-- ---- what is printed, with its reply

same_printout : (one other : Printout) → one.text ≡ other.text → one.reply ≡ other.reply → one ≡ other
same_printout one other text reply =
    let made : List ℕ → Reply → Printout = λ t r. record { text = t; reply = r } in
    ap (λ t. made t one.reply) text ∙ ap (made other.text) reply

HasOneBut-shown : (step : Result (List ℕ) Fault → Type 0) → HasOneBut step → HasOneBut (IsShownText step)
HasOneBut-shown step has_one (Ok one) (Ok other) is is_too built built_too =
    ap Ok (same_printout one other (one_value step has_one one.text other.text is.0 is_too.0) (is.1 ∙ sym is_too.1))
HasOneBut-shown step has_one (Ok one) (Err fault) is is_too built built_too = absurd (no_value step has_one one.text fault is.0 is_too built_too)
HasOneBut-shown step has_one (Err fault) (Ok other) is is_too built built_too = absurd (no_value step has_one other.text fault is_too.0 is built)
HasOneBut-shown step has_one (Err fault) (Err other) is is_too built built_too = ap Err (one_fault step has_one fault other is is_too built built_too)

HasOne-with : (reply : Reply) (step : Result (List ℕ) Fault → Type 0) → HasOne step → HasOne (IsTextWith reply step)
HasOne-with reply step has_one (Ok one) (Ok other) is is_too =
    ap Ok (same_printout one other (same_value one.text other.text (has_one (Ok one.text) (Ok other.text) is.0 is_too.0)) (is.1 ∙ sym is_too.1))
HasOne-with reply step has_one (Ok one) (Err fault) is is_too = absurd (no_both one.text fault (has_one (Ok one.text) (Err fault) is.0 is_too))
HasOne-with reply step has_one (Err fault) (Ok other) is is_too = absurd (no_both other.text fault (has_one (Ok other.text) (Err fault) is_too.0 is))
HasOne-with reply step has_one (Err fault) (Err other) is is_too = ap Err (same_fault fault other (has_one (Err fault) (Err other) is is_too))

HasOneBut-reported : (step : Result (List Violation) Fault → Type 0) → HasOneBut step → HasOneBut (IsReportText step)
HasOneBut-reported step has_one (Ok one) (Ok other) (found, is, text, reply) (others, is_too, text_too, reply_too) built built_too =
    let same = one_value step has_one found others is is_too in
    ap Ok (same_printout one other (text ∙ ap report same ∙ sym text_too) (reply ∙ ap verdict same ∙ sym reply_too))
HasOneBut-reported step has_one (Ok one) (Err fault) is is_too built built_too = absurd (no_value step has_one is.0 fault is.1 is_too built_too)
HasOneBut-reported step has_one (Err fault) (Ok other) is is_too built built_too = absurd (no_value step has_one is_too.0 fault is_too.1 is built)
HasOneBut-reported step has_one (Err fault) (Err other) is is_too built built_too = ap Err (one_fault step has_one fault other is is_too built built_too)

HasOneBut-printing : (step : Result Printout Fault → Type 0) → HasOneBut step → HasOneBut (IsPrinting step)
HasOneBut-printing step has_one (Ok one) (Ok other) (p, is, e) (q, is_too, k) built built_too =
    ap Ok (e ∙ ap (λ (x : Printout). printing x.text x.reply) (one_value step has_one p q is is_too) ∙ sym k)
HasOneBut-printing step has_one (Ok one) (Err fault) is is_too built built_too = absurd (no_value step has_one is.0 fault is.1 is_too built_too)
HasOneBut-printing step has_one (Err fault) (Ok other) is is_too built built_too = absurd (no_value step has_one is_too.0 fault is_too.1 is built)
HasOneBut-printing step has_one (Err fault) (Err other) is is_too built built_too = ap Err (one_fault step has_one fault other is is_too built built_too)

-- ---- what is asked for

-- a change has one meaning: one thing is made of a text
abbrev pub ChangesOne : AskedChange → Type 0
ChangesOne (editing Reads Makes) = (text : List ℕ) → ReadsOne (Reads text) × HasOneBut (Makes text)
ChangesOne (reverting Reads number Reverts) = (text : List ℕ) → ReadsOne (Reads text) × ((e : Standing) → HasOneBut (Reverts text e))
ChangesOne (writing Makes) = (text : List ℕ) → HasOneBut (Makes text)
ChangesOne _ = Unit {0}

-- what is asked for has one answer: one text of a file or of an edit, and one thing that is made
abbrev pub MeansOne : Asked → Type 0
MeansOne (looking IsText) = (file : List ℕ) → HasOneBut (IsText file)
MeansOne (changing change) = ChangesOne change
MeansOne (showing number Tells) = TellsOne Tells
MeansOne (listing_changes Tells) = TellsOne Tells
MeansOne (previewing Tells change) = TellsOne Tells × ChangesOne change
MeansOne _ = Unit {0}

one_look : (look : Look) → MeansOne (look_of look)
one_look (Show pick form collapse) = λ file. HasOneBut-shown _ (HasOneBut-show file pick form collapse)
one_look (Info record_type form) = λ file. HasOneBut-shown _ (HasOneBut-info_of file record_type form)
one_look Check = λ file. HasOneBut-reported _ (HasOneBut-check file)
one_look History = tt
one_look (Diff number style) = one_as_diff style
one_look (Log style) = one_as_diff style

pub one_change : (change : Change) → ChangesOne (change_of change)
one_change (Edit edit force) = λ text. (ReadsOne-text text, one_made (IsOneEdit edit force) (agree_on_one edit force) text)
one_change (Batch text force) = λ file. (ReadsOne-text file, one_made (IsBatch text force) (agree_on_batch text force) file)
one_change (Undo through) = tt
one_change (Redo through) = tt
one_change (Revert number force) = λ text. (ReadsOne-text text, one_reverted force text)
one_change (Forget n dropped) = tt
one_change (Adopt old) = tt
one_change (WriteText text over force) = HasOneBut-written force over text

pub one_meaning : (request : Request) → MeansOne (asked_of request)
one_meaning (Looks look) = one_look look
one_meaning (Changes change) = one_change change
one_meaning (Previews change style) = (one_as_diff style, one_change change)

-- ---- an edit

module _ (o : Opened) (c : Contents) (opens : Opens c.file c.journal o) (tool : Tool) (made : Edited) (reply : Reply) where
  HasOne-edit_outcome : HasOne (IsEditOutcome o c tool made reply)
  HasOne-edit_outcome (Ok one) (Ok other) (inl (same, e)) (inl (same_too, k)) = ap Ok (e ∙ sym k)
  HasOne-edit_outcome (Ok one) (Ok other) (inl (same, e)) (inr (differs, is_too)) = absurd (differs same)
  HasOne-edit_outcome (Ok one) (Ok other) (inr (differs, is)) (inl (same, k)) = absurd (differs same)
  HasOne-edit_outcome (Ok one) (Ok other) (inr (differs, (plan, planned, e))) (inr (differs_too, (also, planned_too, k))) =
      ap Ok (e ∙ ap (λ p. putting p reply) (same_plan_of c o tool made plan also planned planned_too) ∙ sym k)
  HasOne-edit_outcome (Ok one) (Err fault) (inl (same, e)) is_too = absurd (is_too.0 same)
  HasOne-edit_outcome (Ok one) (Err fault) (inr (differs, (plan, planned, e))) is_too = absurd (no_clash c o tool made plan opens planned is_too.2)
  HasOne-edit_outcome (Err fault) (Ok other) is (inl (same, k)) = absurd (is.0 same)
  HasOne-edit_outcome (Err fault) (Ok other) is (inr (differs, (plan, planned, k))) = absurd (no_clash c o tool made plan opens planned is.2)
  HasOne-edit_outcome (Err fault) (Err other) is is_too = ap Err (is.1 ∙ sym is_too.1)

-- ---- a move

same_first : (one other : Revision) (rest others : List Revision) → one ∷ rest ≡ other ∷ others → one ≡ other
same_first one other rest others e = cc

module _ (direction : Direction) (through : Option ℕ) (o : Opened) (c : Contents) where
  is_planned : (outcome : Outcome) (is : IsMove direction through o c (Ok outcome)) → IsMovePlan direction o c.file c.journal (Ok is.2.plan)
  is_planned outcome (settled, here, m) = (settled, m.moves)

  not_both : is_missing through (numbers_on direction o) ≡ false → is_missing through (numbers_on direction o) ≡ true → ⊥
  not_both here missing = false≢true (sym here ∙ missing)

  one_plan : (one other : Result Plan Fault) → IsMovePlan direction o c.file c.journal one → IsMovePlan direction o c.file c.journal other → one ≡ other
  one_plan one other is is_too = one_move_plan direction o c.file c.journal one other is is_too

  HasOne-move : HasOne (IsMove direction through o c)
  HasOne-move (Ok one) (Ok other) is is_too =
      let m = is.2 in
      let n = is_too.2 in
      let plans = same_value m.plan n.plan (one_plan (Ok m.plan) (Ok n.plan) (is_planned one is) (is_planned other is_too)) in
      let nearest = same_first m.moves.nearest n.moves.nearest m.moves.others n.moves.others (sym m.moves.there ∙ n.moves.there) in
      ap Ok (m.is ∙ ap (λ p. putting p (reply_of direction m.moves.nearest.number m.moves.nearest.tool)) plans
      ∙ ap (λ (e : Revision). putting n.plan (reply_of direction e.number e.tool)) nearest ∙ sym n.is)
  HasOne-move (Ok one) (Err fault) is (inl (e, settled, missing)) = absurd (not_both is.1 missing)
  HasOne-move (Ok one) (Err fault) is (inr (here, refused)) =
      absurd (no_both is.2.plan fault (one_plan (Ok is.2.plan) (Err fault) (is_planned one is) refused))
  HasOne-move (Err fault) (Ok other) (inl (e, settled, missing)) is_too = absurd (not_both is_too.1 missing)
  HasOne-move (Err fault) (Ok other) (inr (here, refused)) is_too =
      absurd (no_both is_too.2.plan fault (one_plan (Ok is_too.2.plan) (Err fault) (is_planned other is_too) refused))
  HasOne-move (Err fault) (Err other) (inl (e, settled, missing)) (inl (k, settled_too, missing_too)) = ap Err (e ∙ sym k)
  HasOne-move (Err fault) (Err other) (inl (e, settled, missing)) (inr (here, refused)) = absurd (not_both here missing)
  HasOne-move (Err fault) (Err other) (inr (here, refused)) (inl (k, settled, missing)) = absurd (not_both here missing)
  HasOne-move (Err fault) (Err other) (inr (here, is)) (inr (here_too, is_too)) = ap Err (same_fault fault other (one_plan (Err fault) (Err other) is is_too))

-- ---- forgetting

module _ (n : ℕ) (dropping : Bool) (o : Opened) (c : Contents) where
  HasOne-forgetting : HasOne (IsForgetting n dropping o c)
  HasOne-forgetting (Ok one) (Ok other) (settled, inl (few, e)) (settled_too, inl (few_too, k)) = ap Ok (e ∙ sym k)
  HasOne-forgetting (Ok one) (Ok other) (settled, inl (few, e)) (settled_too, inr (more, f)) = absurd (omega (arith, few, more))
  HasOne-forgetting (Ok one) (Ok other) (settled, inr (more, f)) (settled_too, inl (few, k)) = absurd (omega (arith, few, more))
  HasOne-forgetting (Ok one) (Ok other) (settled, inr (more, f)) (settled_too, inr (more_too, g)) = ap Ok (f.is ∙ sym g.is)
  HasOne-forgetting (Ok one) (Err fault) is is_too = absurd (false≢true (sym is.0 ∙ is_too.1))
  HasOne-forgetting (Err fault) (Ok other) is is_too = absurd (false≢true (sym is_too.0 ∙ is.1))
  HasOne-forgetting (Err fault) (Err other) is is_too = ap Err (is.0 ∙ sym is_too.0)

-- ---- what edits made

HasOne-told : (IsText : List ℕ → Type 0) → ((one other : List ℕ) → IsText one → IsText other → one ≡ other) → HasOne (IsTold IsText)
HasOne-told IsText has_one (Ok one) (Ok other) is is_too = ap Ok (has_one one other is is_too)
HasOne-told IsText has_one (Ok one) (Err fault) is is_too = absurd is_too
HasOne-told IsText has_one (Err fault) other is is_too = absurd is

module _ (Tells : Telling) (tells : TellsOne Tells) where
  HasOne-shown_edit : (number : Option ℕ) (file journal : List ℕ) → HasOne (IsShownEdit number Tells file journal)
  HasOne-shown_edit number file journal =
      HasOne-Then (IsOpening file journal) _ (one_opening file journal) (λ o opens.
      HasOne-Then (IsEditTexts o file number) _ (one_edit_texts file journal o number opens) (λ made _.
      HasOne-told (Tells Forward made.edit.steps made.before made.after) (tells Forward made.edit.steps made.before made.after)))

  HasOne-log_of : (file journal : List ℕ) (o : Opened) → HasOne (IsLogOf Tells file o)
  HasOne-log_of file journal o (Ok one) (Ok other) (inl (drifted, e)) (inl (drifted_too, k)) = ap Ok (e ∙ sym k)
  HasOne-log_of file journal o (Ok one) (Ok other) (inl (drifted, e)) (inr (settled, is)) = absurd (false≢true (sym settled ∙ drifted))
  HasOne-log_of file journal o (Ok one) (Ok other) (inr (settled, is)) (inl (drifted, k)) = absurd (false≢true (sym settled ∙ drifted))
  HasOne-log_of file journal o (Ok one) (Ok other) (inr (settled, (all, are, log))) (inr (settled_too, (others, are_too, log_too))) =
      let same = (one_list_of_texts file o others settled are_too).only all are in
      ap Ok (one_log Tells tells (map told_of others) one other (subst (λ es. IsLog Tells (map told_of es) one) same log) log_too)
  HasOne-log_of file journal o (Ok one) (Err fault) (inl (drifted, e)) (is_too, settled, none) = absurd (false≢true (sym settled ∙ drifted))
  HasOne-log_of file journal o (Ok one) (Err fault) (inr (settled, (all, are, log))) (is_too, settled_too, none) = absurd (none all are)
  HasOne-log_of file journal o (Err fault) (Ok other) (is, settled, none) (inl (drifted, k)) = absurd (false≢true (sym settled ∙ drifted))
  HasOne-log_of file journal o (Err fault) (Ok other) (is, settled, none) (inr (settled_too, (all, are, log))) = absurd (none all are)
  HasOne-log_of file journal o (Err fault) (Err other) is is_too = ap Err (is.0 ∙ sym is_too.0)

  HasOne-whole_log : (file journal : List ℕ) → HasOne (IsWholeLog Tells file journal)
  HasOne-whole_log file journal =
      HasOne-Then (IsOpening file journal) (λ o. IsTextWith (history_reply o) (IsLogOf Tells file o)) (one_opening file journal)
      (λ o _. HasOne-with (history_reply o) (IsLogOf Tells file o) (HasOne-log_of file journal o))

-- ---- what would change

-- on top of the same list there is the same
pub same_top : {X : Type 0} (direction : Direction) (x y : X) (old new : List X) → OnTop direction x old new → OnTop direction y old new → x ≡ y
same_top Forward x y old new is is_too = let e = sym is ∙ is_too in cc
same_top Backward x y old new is is_too = let e = sym is ∙ is_too in cc

module _ (Tells : Telling) (tells : TellsOne Tells) (c d : Contents) where
  -- the edit that leads across is one
  same_across : (direction : Direction) (e f : Revision) → LeadsAcross direction e c d → LeadsAcross direction f c d → e ≡ f
  same_across direction e f is is_too =
      let here = same_value is.here is_too.here (one_opening c.file c.journal (Ok is.here) (Ok is_too.here) is.opens_here is_too.opens_here) in
      let there = same_value is.there is_too.there (one_opening d.file d.journal (Ok is.there) (Ok is_too.there) is.opens_there is_too.opens_there) in
      same_top direction e f is_too.here.past is_too.there.past
      (subst (λ (o : Opened). OnTop direction e o.past is_too.there.past) here (subst (λ (p : Opened). OnTop direction e is.here.past p.past) there is.on_top)) is_too.on_top

  not_back_and_forth : (e f : Revision) → LeadsAcross Forward e c d → LeadsAcross Backward f c d → ⊥
  not_back_and_forth e f is is_too =
      let here = same_value is.here is_too.here (one_opening c.file c.journal (Ok is.here) (Ok is_too.here) is.opens_here is_too.opens_here) in
      let there = same_value is.there is_too.there (one_opening d.file d.journal (Ok is.there) (Ok is_too.there) is.opens_there is_too.opens_there) in
      omega (arith, ap length is.on_top, ap length is_too.on_top, ap (λ (o : Opened). length o.past) here, ap (λ (o : Opened). length o.past) there)

  one_preview_text : (one other : List ℕ) → IsPreviewText Tells c d one → IsPreviewText Tells c d other → one ≡ other
  one_preview_text one other (inl is) (inl is_too) = is.1 ∙ sym is_too.1
  one_preview_text one other (inl is) (inr (direction, e, across, diff)) = absurd (across.differ is.0)
  one_preview_text one other (inr (direction, e, across, diff)) (inl is_too) = absurd (across.differ is_too.0)
  one_preview_text one other (inr (Forward, e, across, diff)) (inr (Forward, f, across_too, diff_too)) =
      tells Forward f.steps c.file d.file one other
      (subst (λ (x : Revision). Tells Forward x.steps c.file d.file one) (same_across Forward e f across across_too) diff) diff_too
  one_preview_text one other (inr (Backward, e, across, diff)) (inr (Backward, f, across_too, diff_too)) =
      tells Backward f.steps c.file d.file one other
      (subst (λ (x : Revision). Tells Backward x.steps c.file d.file one) (same_across Backward e f across across_too) diff) diff_too
  one_preview_text one other (inr (Forward, e, across, diff)) (inr (Backward, f, across_too, diff_too)) = absurd (not_back_and_forth e f across across_too)
  one_preview_text one other (inr (Backward, e, across, diff)) (inr (Forward, f, across_too, diff_too)) = absurd (not_back_and_forth f e across_too across)

  one_preview_from : (from : Option (List ℕ)) (one other : List ℕ) → IsPreviewFrom from Tells c d one → IsPreviewFrom from Tells c d other → one ≡ other
  one_preview_from None one other is is_too = one_preview_text one other is is_too
  one_preview_from (Some from) one other (e, leads, diff) (f, leads_too, diff_too) =
      let there = same_value leads.there leads_too.there (one_opening d.file d.journal (Ok leads.there) (Ok leads_too.there) leads.opens_there leads_too.opens_there) in
      let same = same_first e f leads.others leads_too.others (sym leads.newest ∙ ap (λ (o : Opened). o.past) there ∙ leads_too.newest) in
      tells Forward f.steps from d.file one other (subst (λ (x : Revision). Tells Forward x.steps from d.file one) same diff) diff_too

same_outcome : (one other : Outcome) → one.text ≡ other.text → one.writes ≡ other.writes → one.reply ≡ other.reply → one.from ≡ other.from → one ≡ other
same_outcome one other text writes reply from =
    let made : List ℕ → List Write → Reply → Option (List ℕ) → Outcome = λ t ws r f. record { text = t; writes = ws; reply = r; from = f } in
    ap₂ (λ t ws. made t ws one.reply one.from) text writes ∙ ap₂ (made other.text other.writes) reply from

-- ---- outcomes

module _ (c : Contents) where
  HasOneBut-put : (MakesOf : Opened → Result (Tool × Edited) Fault → Type 0) (reply_for : Opened → Tool → Edited → Reply)
      → ((o : Opened) → Opens c.file c.journal o → HasOneBut (MakesOf o)) → HasOneBut (IsPutOn MakesOf reply_for c)
  HasOneBut-put MakesOf reply_for has_one =
      let last : Opened → Tool × Edited → Result Outcome Fault → Type 0 = λ o told. IsEditOutcome o c told.0 told.1 (reply_for o told.0 told.1) in
      let next : Opened → Result Outcome Fault → Type 0 = λ o. Then (MakesOf o) (last o) in
      HasOneBut-Then (IsOpening c.file c.journal) next (HasOneBut-of (IsOpening c.file c.journal) (one_opening c.file c.journal)) (λ o opens.
      HasOneBut-Then (MakesOf o) (last o) (has_one o opens)
      (λ told _. HasOneBut-of (last o told) (HasOne-edit_outcome o c opens told.0 told.1 (reply_for o told.0 told.1))))

  -- of a file that reads
  HasOneBut-put_by : {X : Type 0} (Reads : Reading X) (MakesOf : Opened → Result (Tool × Edited) Fault → Type 0) (reply_for : Opened → Tool → Edited → Reply)
      → ReadsOne (Reads c.file) → ((o : Opened) → Opens c.file c.journal o → HasOneBut (MakesOf o)) → HasOneBut (IsPutBy Reads MakesOf reply_for c)
  HasOneBut-put_by Reads MakesOf reply_for reads has_one = HasOneBut-after (Reads c.file) (IsPutOn MakesOf reply_for c) reads (HasOneBut-put MakesOf reply_for has_one)

  -- a change comes to one outcome
  pub one_change_outcome : (change : AskedChange) → ChangesOne change → HasOneBut (IsChangeOutcome c change)
  one_change_outcome (editing Reads Makes) means one other is is_too built built_too =
      HasOneBut-put_by Reads (λ _. Makes c.file) (λ o. edit_reply o.next o.dropped) (means c.file).0 (λ o opens. (means c.file).1) one other is is_too built built_too
  one_change_outcome (reverting Reads number Reverts) means one other is is_too built built_too =
      HasOneBut-put_by Reads (λ o. IsRevertOf number Reverts o c.file) (λ o. revert_reply number o.next) (means c.file).0
      (λ o opens. one_revert_of number Reverts o c.file c.journal opens (means c.file).1) one other is is_too built built_too
  one_change_outcome (moving direction through) means one other is is_too built built_too =
      HasOne-Then (IsOpening c.file c.journal) (λ o. IsMove direction through o c) (one_opening c.file c.journal) (λ o _. HasOne-move direction through o c)
      one other is is_too
  one_change_outcome (forgetting n dropping) means one other is is_too built built_too =
      HasOne-Then (IsOpening c.file c.journal) (λ o. IsForgetting n dropping o c) (one_opening c.file c.journal) (λ o _. HasOne-forgetting n dropping o c)
      one other is is_too
  one_change_outcome (adopting old) means one other is is_too built built_too =
      HasOne-Then (IsOpening c.file c.journal) (λ o. IsAdoption old o c) (one_opening c.file c.journal) (λ o _. HasOne-adoption old o c) one other is is_too
  one_change_outcome (writing Makes) means one other is is_too built built_too =
      HasOneBut-put (λ _. Makes c.file) (λ o. write_reply o.next o.dropped) (λ o opens. means c.file) one other is is_too built built_too

  -- what is asked for comes to one outcome
  pub one_outcome_of : (asked : Asked) → MeansOne asked → HasOneBut (IsRequestOutcome c asked)
  one_outcome_of (looking IsText) means one other is is_too built built_too =
      HasOneBut-printing (IsText c.file) (means c.file) one other is is_too built built_too
  one_outcome_of listing means one other is is_too built built_too =
      HasOne-Then (IsOpening c.file c.journal) (λ o given. given ≡ Ok (printing (printed_history o) (history_reply o))) (one_opening c.file c.journal)
      (λ o _ a b e k. e ∙ sym k) one other is is_too
  one_outcome_of (showing number Tells) means one other is is_too built built_too =
      HasOneBut-printing _ (HasOneBut-shown _ (HasOneBut-of _ (HasOne-shown_edit Tells means number c.file c.journal))) one other is is_too built built_too
  one_outcome_of (listing_changes Tells) means one other is is_too built built_too =
      HasOneBut-printing _ (HasOneBut-of _ (HasOne-whole_log Tells means c.file c.journal)) one other is is_too built built_too
  one_outcome_of (changing change) means one other is is_too built built_too = one_change_outcome change means one other is is_too built built_too
  one_outcome_of (previewing Tells change) means (Ok one) (Ok other) (would, is, preview) (also, is_too, preview_too) built built_too =
      let same = same_value would also (one_change_outcome change means.1 (Ok would) (Ok also) is is_too (no_both would BadPattern) (no_both also BadPattern)) in
      ap Ok (same_outcome one other
      (one_preview_from Tells means.0 c (written c also.writes) also.from one.text other.text (subst (λ (w : Outcome). IsPreviewFrom w.from Tells c (written c w.writes) one.text) same preview.text)
      preview_too.text) (preview.writes ∙ sym preview_too.writes) (preview.reply ∙ ap (λ (w : Outcome). w.reply) same ∙ sym preview_too.reply) (preview.from ∙ sym preview_too.from))
  one_outcome_of (previewing Tells change) means (Ok one) (Err fault) (would, is, preview) is_too built built_too =
      absurd (no_both would fault (one_change_outcome change means.1 (Ok would) (Err fault) is is_too (no_both would BadPattern) built_too))
  one_outcome_of (previewing Tells change) means (Err fault) (Ok other) is (would, is_too, preview) built built_too =
      absurd (no_both would fault (one_change_outcome change means.1 (Ok would) (Err fault) is_too is (no_both would BadPattern) built))
  one_outcome_of (previewing Tells change) means (Err fault) (Err other) is is_too built built_too =
      one_change_outcome change means.1 (Err fault) (Err other) is is_too built built_too

pub one_outcome : OneOutcome
one_outcome c request one other is is_too built built_too = one_outcome_of c (asked_of request) (one_meaning request) one other is is_too built built_too
