-- A move after one the other way, or after an edit, brings the file back.
use Rattle.std.proofs.Common.{◌≡◌, ◌≢◌, ◌∙◌, inl, inr, false, List, [], ◌∷◌, ℕ, Option, None, Result, Ok, Err, sym, ap, subst, refl}
use Rattle.std.proofs.lemmas.Bool.{false≢true}
use Rattle.rec_text.specs.declared.fault.Fault.{Fault}
use Rattle.rec_journal.specs.declared.event.Event.TheVariants.{Moved}
use Rattle.rec_journal.specs.declared.event.Revision.{Revision}
use Rattle.rec_journal.specs.declared.event.Tool.{Tool}
use Rattle.rec_journal.specs.declared.patch.Direction.{Direction}
use Rattle.rec_journal.specs.declared.patch.Direction.TheVariants.{Forward, Backward}
use Rattle.rec_journal.specs.declared.plan.Plan.{Plan}
use Rattle.rec_journal.specs.History.{Opened, Opens}
use Rattle.rec_journal.specs.Plans.{edit_to, after_edit_plan, edits_on, move_of, planned, IsMovePlan, after_move}
use Rattle.rec_journal.specs.Revisions.{Leads}
use Rattle.rec_journal.proofs.lemmas.histories.Openings.{one_opening}
use Rattle.rec_journal.proofs.lemmas.plans.PlanLemmas.{one_move_plan}
use Rattle.rec_edit.specs.declared.answer.Edited.{Edited}
use Rattle.rec_tools.specs.declared.request.Reply.{Reply}
use Rattle.rec_tools.specs.Home.{Contents, written}
use Rattle.rec_tools.specs.Requests.{change_of}
use Rattle.rec_tools.specs.Asked.{AskedChange, editing, moving, reverting, forgetting, adopting, writing}
use Rattle.rec_tools.specs.Reverting.{IsRevertOf}
use Rattle.rec_tools.specs.Outcomes.{Outcome, IsPutOn, edit_reply, revert_reply, write_reply, IsChangeOutcome}
use Rattle.rec_tools.proofs.lemmas.outcomes.FromLemmas.{put_on}
use Rattle.rec_tools.specs.Laws.{MadeAnEdit, BringsBack, UndoBringsBack, RedoBringsBack}
use Rattle.rec_text.proofs.lemmas.FaultLemmas.{no_both, ok_is_no_err, same_value}
use Rattle.rec_tools.proofs.lemmas.outcomes.OpeningLemmas.{edit_leads_back}

-- by the nearest edit that way the file leads to the text
module _ (c : Contents) (o : Opened) (opens : Opens c.file c.journal o) (settled : o.drifted ≡ false) (direction : Direction) (e : Revision)
    (others : List Revision) (there : edits_on direction o ≡ e ∷ others) (text : List ℕ) (leads : Leads direction e c.file text) where
  abbrev plan : Plan
  plan = record { journal = planned c.journal o (Moved direction (move_of direction o e)); file = text }

  -- so that is the one plan of the move
  one_plan : (p : Opened) (answer : Result Plan Fault) → Opens c.file c.journal p → IsMovePlan direction p c.file c.journal answer → Ok plan ≡ answer
  one_plan p answer opened is =
      one_move_plan direction o c.file c.journal (Ok plan) answer (settled, record { nearest = e; others = others; there = there; leads = leads; recorded = refl })
      (subst (λ x. IsMovePlan direction x c.file c.journal answer)
      (same_value p o (one_opening c.file c.journal (Ok p) (Ok o) opened opens)) is)

  brings_back : BringsBack c (moving direction None) text
  brings_back r (inl (fault, refused, is)) = absurd (ok_is_no_err o fault ⊥ (one_opening c.file c.journal (Err fault) (Ok o) refused opens))
  brings_back (Ok outcome) (inr (p, opened, (undrifted, here, m))) =
      let same = same_value plan m.plan (one_plan p (Ok m.plan) opened (undrifted, m.moves)) in
      (outcome, refl, ap (λ (x : Outcome). (written c x.writes).file) m.is ∙ sym (ap (λ (x : Plan). x.file) same))
  brings_back (Err fault) (inr (p, opened, inl (is, undrifted, missing))) = absurd (false≢true missing)
  brings_back (Err fault) (inr (p, opened, inr (here, refused))) = absurd (no_both plan fault (one_plan p (Err fault) opened refused))

-- ---- after an edit

undo_after_put : (c : Contents) (MakesOf : Opened → Result (Tool × Edited) Fault → Type 0) (reply_for : Opened → Tool → Edited → Reply) (done : Outcome)
    → done.writes ≢ [] → IsPutOn MakesOf reply_for c (Ok done) → BringsBack (written c done.writes) (moving Backward None) c.file
undo_after_put c MakesOf reply_for done written_some (inl (fault, refused, e)) = absurd (no_both done fault e)
undo_after_put c MakesOf reply_for done written_some (inr (o, opens, inl (fault, refused, e))) = absurd (no_both done fault e)
undo_after_put c MakesOf reply_for done written_some (inr (o, opens, inr (told, is_made, inl (same, e)))) =
    absurd (written_some (ap (λ (x : Outcome). x.writes) e))
undo_after_put c MakesOf reply_for done written_some (inr (o, opens, inr ((tool, made), is_made, inr (differs, (plan, planned, e))))) =
    subst (λ (x : Outcome). BringsBack (written c x.writes) (moving Backward None) c.file) (sym e)
    (brings_back (record { file = plan.file; journal = plan.journal }) (after_edit_plan o c.journal tool made.steps made.text) planned.safe.next refl
    Backward (edit_to o tool made.text made.steps) o.past refl c.file
    (subst (λ t. Leads Backward (edit_to o tool made.text made.steps) t c.file) (sym planned.planned.1) (edit_leads_back c o tool made plan opens planned)))

-- ---- after a move

redo_after_undo : (c : Contents) (through : Option ℕ) (undone : Outcome) → IsChangeOutcome c (moving Backward through) (Ok undone)
    → BringsBack (written c undone.writes) (moving Forward None) c.file
redo_after_undo c through undone (inl (fault, refused, e)) = absurd (no_both undone fault e)
redo_after_undo c through undone (inr (o, opens, (settled, here, m))) =
    subst (λ (x : Outcome). BringsBack (written c x.writes) (moving Forward None) c.file) (sym m.is)
    (brings_back (record { file = m.plan.file; journal = m.plan.journal }) (after_move Backward o c.journal m.moves.nearest m.moves.others) m.safe.next refl
    Forward m.moves.nearest o.future refl c.file m.moves.leads)

undo_after_redo : (c : Contents) (through : Option ℕ) (redone : Outcome) → IsChangeOutcome c (moving Forward through) (Ok redone)
    → BringsBack (written c redone.writes) (moving Backward None) c.file
undo_after_redo c through redone (inl (fault, refused, e)) = absurd (no_both redone fault e)
undo_after_redo c through redone (inr (o, opens, (settled, here, m))) =
    subst (λ (x : Outcome). BringsBack (written c x.writes) (moving Backward None) c.file) (sym m.is)
    (brings_back (record { file = m.plan.file; journal = m.plan.journal }) (after_move Forward o c.journal m.moves.nearest m.moves.others) m.safe.next refl
    Backward m.moves.nearest o.past refl c.file m.moves.leads)

-- ---- the laws

undo_after : (c : Contents) (change : AskedChange) (done : Outcome) → done.writes ≢ [] → MadeAnEdit done.reply → IsChangeOutcome c change (Ok done)
    → BringsBack (written c done.writes) (moving Backward None) c.file
undo_after c (editing Reads Makes) done written_some made is =
    undo_after_put c (λ _. Makes c.file) (λ o. edit_reply o.next o.dropped) done written_some
    (put_on Reads c (λ _. Makes c.file) (λ o. edit_reply o.next o.dropped) done is)
undo_after c (reverting Reads number Reverts) done written_some made is =
    undo_after_put c (λ o. IsRevertOf number Reverts o c.file) (λ o. revert_reply number o.next) done written_some
    (put_on Reads c (λ o. IsRevertOf number Reverts o c.file) (λ o. revert_reply number o.next) done is)
undo_after c (writing Makes) done written_some made is =
    undo_after_put c (λ _. Makes c.file) (λ o. write_reply o.next o.dropped) done written_some is
undo_after c (moving Forward through) done written_some made is = undo_after_redo c through done is
undo_after c (moving Backward through) done written_some made (inl (fault, refused, e)) = absurd (no_both done fault e)
undo_after c (moving Backward through) done written_some made (inr (o, opens, (settled, here, m))) = absurd (subst (λ (x : Outcome). MadeAnEdit x.reply) m.is made)
undo_after c (forgetting n dropping) done written_some made (inl (fault, refused, e)) = absurd (no_both done fault e)
undo_after c (forgetting n dropping) done written_some made (inr (o, opens, (settled, inl (few, e)))) = absurd (subst (λ (x : Outcome). MadeAnEdit x.reply) e made)
undo_after c (forgetting n dropping) done written_some made (inr (o, opens, (settled, inr (more, f)))) = absurd (subst (λ (x : Outcome). MadeAnEdit x.reply) f.is made)
undo_after c (adopting old) done written_some made (inl (fault, refused, e)) = absurd (no_both done fault e)
undo_after c (adopting old) done written_some made (inr (o, opens, inl (settled, e))) = absurd (subst (λ (x : Outcome). MadeAnEdit x.reply) e made)
undo_after c (adopting old) done written_some made (inr (o, opens, inr (drifted, (found, is, adopts)))) = absurd (subst (λ (x : Outcome). MadeAnEdit x.reply) adopts.is made)

pub undo_brings_back : UndoBringsBack
undo_brings_back c change done written_some made is = undo_after c (change_of change) done written_some made is

pub redo_brings_back : RedoBringsBack
redo_brings_back c through undone is = redo_after_undo c through undone is
