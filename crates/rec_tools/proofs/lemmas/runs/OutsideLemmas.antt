-- A file that was changed outside, and what requests then come to.
use Rattle.std.proofs.Common.{◌≡◌, ◌≢◌, ◌⊎◌, inl, inr, ℕ, Bool, true, false, List, [], ◌∷◌, Option, Result, Ok, Err, sym, ap, ap₂, subst, refl, ◌∙◌}
use Rattle.std.specs.Prelude.{codes, if◌then◌else◌, map}
use Rattle.std.proofs.lemmas.Bool.{false≢true}
use Rattle.rec_text.specs.declared.fault.Fault.{Fault}
use Rattle.rec_text.specs.declared.fault.Fault.TheVariants.{Drifted}
use Rattle.rec_text.specs.declared.violations.Violation.{Violation}
use Rattle.rec_journal.specs.declared.patch.Direction.{Direction}
use Rattle.rec_journal.specs.declared.patch.Direction.TheVariants.{Forward, Backward}
use Rattle.rec_journal.specs.declared.event.Revision.{Revision}
use Rattle.rec_journal.specs.declared.event.Tool.{Tool}
use Rattle.rec_journal.specs.declared.plan.Plan.{Plan}
use Rattle.rec_journal.specs.History.{Opened, Opens, IsOpening}
use Rattle.rec_journal.specs.Revisions.{Leads}
use Rattle.rec_journal.specs.Plans.{edit_to, after_edit_plan}
use Rattle.rec_journal.proofs.lemmas.histories.Countings.{drifted-empty}
use Rattle.rec_journal.proofs.lemmas.histories.Openings.{one_opening}
use Rattle.rec_edit.specs.declared.answer.Edited.{Edited}
use Rattle.rec_tools.specs.declared.request.Reply.{Reply}
use Rattle.rec_tools.specs.declared.request.Reply.TheVariants.{Shown, Drifted as HasDrifted}
use Rattle.rec_tools.specs.declared.request.Look.{Look}
use Rattle.rec_tools.specs.declared.request.Look.TheVariants.{Show, Info, Check, History, Diff, Log}
use Rattle.rec_tools.specs.declared.request.Request.{Request}
use Rattle.rec_tools.specs.declared.request.Request.TheVariants.{Look as Looks, Change as Changes, Preview as Previews}
use Rattle.rec_tools.specs.Home.{Contents, written}
use Rattle.rec_tools.specs.Printouts.{history_text, verdict, IsShownText, IsShow, IsInfoOf, IsShownEdit}
use Rattle.rec_tools.specs.Asked.{AskedChange, editing, moving, reverting, forgetting, adopting, writing, Asked, looking, listing, showing, listing_changes, changing, previewing, Reading}
use Rattle.rec_tools.specs.Asked.{Reversal}
use Rattle.rec_tools.specs.Requests.{look_of, change_of, asked_of, as_diff}
use Rattle.rec_tools.specs.Outcomes.{Outcome, IsPutOn, IsChangeOutcome, IsRequestOutcome, IsPlanned, IsPrinting, edit_reply, write_reply, printing}
use Rattle.rec_tools.specs.Stands.{AreEntries, Stands}
use Rattle.rec_tools.specs.Laws.{MadeAnEdit, IsPreview, outside_state, BeginsAnew, GoesOn, OutsideIsNoticed}
use Rattle.rec_text.proofs.lemmas.FaultLemmas.{no_both, ok_is_no_err, same_value}
use Rattle.rec_tools.proofs.lemmas.outcomes.FromLemmas.{put_on}
use Rattle.rec_tools.proofs.lemmas.outcomes.OpeningLemmas.{edit_leads_back}
use Rattle.rec_tools.proofs.lemmas.runs.RunLemmas.{writes_nothing}
use Rattle.rec_check.specs.DescribedTexts.{IsDescribedText}
use Rattle.rec_tools.specs.Reverting.{IsReverted}
use Rattle.rec_tools.specs.Asked.{Telling}

module _ (c : Contents) (o : Opened) (opens : Opens c.file c.journal o) (drifted : o.drifted ≡ true) where
  no_refusal : (fault : Fault) → IsOpening c.file c.journal (Err fault) → ⊥
  no_refusal fault refused = ok_is_no_err o fault ⊥ (one_opening c.file c.journal (Err fault) (Ok o) refused opens)

  same_opening : (p : Opened) → Opens c.file c.journal p → p ≡ o
  same_opening p opened = same_value p o (one_opening c.file c.journal (Ok p) (Ok o) opened opens)

  not_settled : (p : Opened) → Opens c.file c.journal p → p.drifted ≡ false → ⊥
  not_settled p opened settled = false≢true (sym settled ∙ ap (λ (x : Opened). x.drifted) (same_opening p opened) ∙ drifted)

  no_move : (direction : Direction) (through : Option ℕ) (r : Result Outcome Fault) → IsChangeOutcome c (moving direction through) r → r ≡ Err Drifted
  no_move direction through r (inl (fault, refused, e)) = absurd (no_refusal fault refused)
  no_move direction through (Ok outcome) (inr (p, opened, (settled, here, m))) = absurd (not_settled p opened settled)
  no_move direction through (Err fault) (inr (p, opened, inl (is, settled, missing))) = absurd (not_settled p opened settled)
  no_move direction through (Err fault) (inr (p, opened, inr (here, inl (is, why)))) = ap Err is
  no_move direction through (Err fault) (inr (p, opened, inr (here, inr (is, settled, none)))) = absurd (not_settled p opened settled)

  nothing_forgotten : (n : ℕ) (dropping : Bool) (r : Result Outcome Fault) → IsChangeOutcome c (forgetting n dropping) r → r ≡ Err Drifted
  nothing_forgotten n dropping r (inl (fault, refused, e)) = absurd (no_refusal fault refused)
  nothing_forgotten n dropping (Ok outcome) (inr (p, opened, (settled, forgets))) = absurd (not_settled p opened settled)
  nothing_forgotten n dropping (Err fault) (inr (p, opened, (is, why))) = ap Err is

  has_drifted : (p : Opened) → Opens c.file c.journal p → p.drifted ≡ true
  has_drifted p opened = ap (λ (x : Opened). x.drifted) (same_opening p opened) ∙ drifted

  told_drifted : (r : Result Outcome Fault) → IsRequestOutcome c listing r → r ≡ Ok (printing (codes "drifted\n") HasDrifted)
  told_drifted r (inl (fault, refused, e)) = absurd (no_refusal fault refused)
  told_drifted r (inr (p, opened, e)) =
      let text : Bool → List ℕ = λ b.
      if b then codes "drifted\n" else history_text (map (λ (x : Revision). (x.number, x.tool)) p.past) (map (λ (x : Revision). (x.number, x.tool)) p.future) in
      e ∙ ap (λ b. Ok (printing (text b) (if b then HasDrifted else Shown))) (has_drifted p opened)

  logged_drifted : (Tells : Telling) (r : Result Outcome Fault) → IsRequestOutcome c (listing_changes Tells) r → r ≡ Ok (printing (codes "drifted\n") HasDrifted)
  logged_drifted Tells (Ok outcome) (told, inl (fault, refused, e), is) = absurd (no_refusal fault refused)
  logged_drifted Tells (Ok outcome) (told, inr (p, opened, (inl (so, text), reply)), is) =
      ap Ok (is ∙ ap₂ printing text (reply ∙ ap (λ b. if b then HasDrifted else Shown) so))
  logged_drifted Tells (Ok outcome) (told, inr (p, opened, (inr (settled, log), reply)), is) = absurd (not_settled p opened settled)
  logged_drifted Tells (Err fault) (inl (other, refused, e)) = absurd (no_refusal other refused)
  logged_drifted Tells (Err fault) (inr (p, opened, (e, settled, none))) = absurd (not_settled p opened settled)

  -- the history after an edit has that edit alone
  begun : (tool : Tool) (made : Edited) (plan : Plan) → IsPlanned o c tool made plan → Stands (record { file = plan.file; journal = plan.journal }) (outside_state c o tool made.steps made.text)
  begun tool made plan planned =
      let edit : Revision = edit_to o tool made.text made.steps in
      record {
        opened = after_edit_plan o c.journal tool made.steps made.text;
        opens = planned.safe.next;
        settled = refl;
        present = sym planned.planned.1;
        past = (
          refl,
          refl,
          refl,
          subst (λ t. Leads Backward edit t c.file) (sym planned.planned.1) (edit_leads_back c o tool made plan opens planned),
          subst (λ es. AreEntries Backward es [] c.file) (sym (drifted-empty c.file c.journal o opens drifted).0) tt,
        );
        future = tt;
        next = refl;
        made = refl;
      }

  -- nothing is reverted
  no_revert : {X : Type 0} (Reads : Reading X) (number : ℕ) (Reverts : Reversal) (outcome : Outcome) → IsChangeOutcome c (reverting Reads number Reverts) (Ok outcome) → ⊥
  no_revert Reads number Reverts outcome (inl refused) = let e = refused.2 in cc
  no_revert Reads number Reverts outcome (inr (text, is, inl refused)) = let e = refused.2 in cc
  no_revert Reads number Reverts outcome (inr (text, is, inr (p, opened, inl refused))) = let e = refused.2 in cc
  no_revert Reads number Reverts outcome (inr (text, is, inr (p, opened, inr (told, inl (fault, none, e), last)))) = no_both told fault e
  no_revert Reads number Reverts outcome (inr (text, is, inr (p, opened, inr (told, inr (found, standing, made), last)))) =
      not_settled p opened standing.0

  -- what is put in place begins the history anew
  module _ (MakesOf : Opened → Result (Tool × Edited) Fault → Type 0) (reply_for : Opened → Tool → Edited → Reply) (outcome : Outcome) where
    begun_put : IsPutOn MakesOf reply_for c (Ok outcome) → outcome.writes ≢ []
        → (tool : Tool) × (made : Edited) × MakesOf o (Ok (tool, made)) × Stands (written c outcome.writes) (outside_state c o tool made.steps made.text)
    begun_put (inl refused) some = let e = refused.2 in cc
    begun_put (inr (p, opened, inl refused)) some = let e = refused.2 in cc
    begun_put (inr (p, opened, inr (made, done, inl (same, e)))) some = absurd (some (ap (λ (x : Outcome). x.writes) e))
    begun_put (inr (p, opened, inr ((tool, made), done, inr (differs, (plan, planned, e))))) some =
        let here : IsPlanned o c tool made plan = subst (λ x. IsPlanned x c tool made plan) (same_opening p opened) planned in (
          tool,
          made,
          subst (λ x. MakesOf x (Ok (tool, made))) (same_opening p opened) done,
          subst (λ (x : Outcome). Stands (written c x.writes) (outside_state c o tool made.steps made.text)) (sym e) (begun tool made plan here),
        )

    put-written : IsPutOn MakesOf reply_for c (Ok outcome) → outcome.writes ≡ [] → MadeAnEdit outcome.reply → ⊥
    put-written (inl (fault, refused, e)) none made = no_both outcome fault e
    put-written (inr (p, opened, inl (fault, refused, e))) none made = no_both outcome fault e
    put-written (inr (p, opened, inr (told, done, inl (same, e)))) none made = subst (λ (x : Outcome). MadeAnEdit x.reply) e made
    put-written (inr (p, opened, inr ((tool, edited), done, inr (differs, (plan, planned, e))))) none made =
        let both = sym none ∙ ap (λ (x : Outcome). x.writes) e in cc

  begins_anew : (asked : Asked) (outcome : Outcome) → IsRequestOutcome c asked (Ok outcome) → outcome.writes ≢ [] → BeginsAnew c o asked outcome ⊎ GoesOn c o asked outcome
  begins_anew (looking IsText) outcome is some = absurd (some (writes_nothing c (looking IsText) outcome tt is))
  begins_anew listing outcome is some = absurd (some (writes_nothing c listing outcome tt is))
  begins_anew (showing number style) outcome is some = absurd (some (writes_nothing c (showing number style) outcome tt is))
  begins_anew (listing_changes style) outcome is some = absurd (some (writes_nothing c (listing_changes style) outcome tt is))
  begins_anew (previewing style change) outcome is some = absurd (some (writes_nothing c (previewing style change) outcome tt is))
  begins_anew (changing (reverting Reads number Reverts)) outcome is some = absurd (no_revert Reads number Reverts outcome is)
  begins_anew (changing (editing Reads Makes)) outcome is some =
      let (tool, made, done, stands) =
      begun_put (λ _. Makes c.file) (λ o. edit_reply o.next o.dropped) outcome (put_on Reads c (λ _. Makes c.file) (λ o. edit_reply o.next o.dropped) outcome is) some in
      inl (record { tool = tool; made = made; makes = done; stands = stands })
  begins_anew (changing (writing Makes)) outcome is some =
      let (tool, made, done, stands) = begun_put (λ _. Makes c.file) (λ o. write_reply o.next o.dropped) outcome is some in
      inl (record { tool = tool; made = made; makes = done; stands = stands })
  begins_anew (changing (moving direction through)) outcome is some = absurd (ok_is_no_err outcome Drifted ⊥ (sym (no_move direction through (Ok outcome) is)))
  begins_anew (changing (forgetting n dropping)) outcome is some = absurd (ok_is_no_err outcome Drifted ⊥ (sym (nothing_forgotten n dropping (Ok outcome) is)))
  begins_anew (changing (adopting old)) outcome (inl refused) some = let e = refused.2 in cc
  begins_anew (changing (adopting old)) outcome (inr (p, opened, inl (settled, e))) some = absurd (not_settled p opened settled)
  begins_anew (changing (adopting old)) outcome (inr (p, opened, inr (so, adopts))) some =
      inr (subst (λ x. GoesOn c x (changing (adopting old)) outcome) (same_opening p opened) adopts)

  -- what is shown, or reported, is no edit that was made
  shown-no_edit : (reply : Reply) → reply ≡ Shown → MadeAnEdit reply → ⊥
  shown-no_edit reply e made = subst MadeAnEdit e made

  report-no_edit : (found : List Violation) (reply : Reply) → reply ≡ verdict found → MadeAnEdit reply → ⊥
  report-no_edit [] reply e made = subst MadeAnEdit e made
  report-no_edit (violation ∷ found) reply e made = subst MadeAnEdit e made

  printed-no_edit : (IsText : Result (List ℕ) Fault → Type 0) (outcome : Outcome) → IsPrinting (IsShownText IsText) (Ok outcome) → MadeAnEdit outcome.reply → ⊥
  printed-no_edit IsText outcome (p, is, e) made = shown-no_edit outcome.reply (ap (λ (x : Outcome). x.reply) e ∙ is.1) made

  look-no_edit : (look : Look) (outcome : Outcome) → IsRequestOutcome c (look_of look) (Ok outcome) → MadeAnEdit outcome.reply → ⊥
  look-no_edit (Show pick form collapse) outcome is made = printed-no_edit (IsShow c.file pick form collapse) outcome is made
  look-no_edit (Info record_type form) outcome is made = printed-no_edit (IsInfoOf c.file record_type form) outcome is made
  look-no_edit Check outcome (p, (found, are, text, reply), e) made = report-no_edit found outcome.reply (ap (λ (x : Outcome). x.reply) e ∙ reply) made
  look-no_edit History outcome is made = subst (λ (x : Outcome). MadeAnEdit x.reply) (same_value outcome _ (told_drifted (Ok outcome) is)) made
  look-no_edit (Diff number style) outcome is made = printed-no_edit (IsShownEdit number (as_diff style) c.file c.journal) outcome is made
  look-no_edit (Log style) outcome is made = subst (λ (x : Outcome). MadeAnEdit x.reply) (same_value outcome _ (logged_drifted (as_diff style) (Ok outcome) is)) made

  change-written : (change : AskedChange) (outcome : Outcome) → IsChangeOutcome c change (Ok outcome) → outcome.writes ≡ [] → MadeAnEdit outcome.reply → ⊥
  change-written (editing Reads Makes) outcome is none made =
      put-written (λ _. Makes c.file) (λ o. edit_reply o.next o.dropped) outcome (put_on Reads c (λ _. Makes c.file) (λ o. edit_reply o.next o.dropped) outcome is) none made
  change-written (writing Makes) outcome is none made =
      put-written (λ _. Makes c.file) (λ o. write_reply o.next o.dropped) outcome is none made
  change-written (moving direction through) outcome is none made = ok_is_no_err outcome Drifted ⊥ (sym (no_move direction through (Ok outcome) is))
  change-written (reverting Reads number Reverts) outcome is none made = no_revert Reads number Reverts outcome is
  change-written (forgetting n dropping) outcome is none made = ok_is_no_err outcome Drifted ⊥ (sym (nothing_forgotten n dropping (Ok outcome) is))
  change-written (adopting old) outcome (inl (fault, refused, e)) none made = no_both outcome fault e
  change-written (adopting old) outcome (inr (p, opened, inl (settled, e))) none made = not_settled p opened settled
  change-written (adopting old) outcome (inr (p, opened, inr (so, (found, is, adopts)))) none made = subst (λ (x : Outcome). MadeAnEdit x.reply) adopts.is made

  unwritten : (request : Request) (outcome : Outcome) → IsRequestOutcome c (asked_of request) (Ok outcome) → outcome.writes ≡ [] → MadeAnEdit outcome.reply
      → IsPreview (asked_of request)
  unwritten (Looks look) outcome is none made = absurd (look-no_edit look outcome is made)
  unwritten (Changes change) outcome is none made = absurd (change-written (change_of change) outcome is none made)
  unwritten (Previews change style) outcome is none made = tt

pub outside_is_noticed : OutsideIsNoticed
outside_is_noticed c o opens drifted =
    record {
      undo = no_move c o opens drifted Backward;
      redo = no_move c o opens drifted Forward;
      revert = λ number force. no_revert c o opens drifted IsDescribedText number (IsReverted force);
      forgetting = nothing_forgotten c o opens drifted;
      history = told_drifted c o opens drifted;
      log = λ style. logged_drifted c o opens drifted (as_diff style);
      edits = λ request outcome is. begins_anew c o opens drifted (asked_of request) outcome is;
      unwritten = unwritten c o opens drifted;
    }
