-- A preview prints what is shown of the edit once it is made.
use Rattle.std.proofs.Common.{arith, ◌≡◌, ◌≢◌, inl, inr, ℕ, ◌+◌, false, List, [], ◌∷◌, length, None, Result, Ok, sym, ap, subst, refl, ◌∙◌}
use Rattle.std.proofs.lemmas.Bool.{cases_Bool}
use Rattle.rec_text.specs.declared.fault.Fault.TheVariants.{BadPattern}
use Rattle.rec_text.specs.declared.fault.Fault.{Fault}
use Rattle.rec_journal.specs.declared.event.Tool.{Tool}
use Rattle.rec_edit.specs.declared.answer.Edited.{Edited}
use Rattle.rec_journal.specs.declared.event.Revision.{Revision}
use Rattle.rec_journal.specs.declared.patch.Direction.TheVariants.{Forward, Backward}
use Rattle.rec_journal.specs.EditTexts.{WithTexts, Way, with_texts}
use Rattle.rec_journal.specs.History.{Opened, Opens}
use Rattle.rec_journal.specs.Plans.{after_edit_plan, after_move}
use Rattle.rec_journal.proofs.lemmas.histories.Countings.{drifted-empty}
use Rattle.rec_journal.proofs.lemmas.histories.Openings.{one_opening}
use Rattle.rec_diff.specs.declared.style.DiffStyle.{DiffStyle}
use Rattle.rec_diff.specs.Diffs.{IsDiff}
use Rattle.rec_tools.specs.declared.request.Reply.{Reply}
use Rattle.rec_tools.specs.declared.request.Reply.TheVariants.{Shown}
use Rattle.rec_tools.specs.Home.{Contents, written}
use Rattle.rec_tools.specs.Requests.{change_of, as_diff}
use Rattle.rec_tools.specs.Asked.{AskedChange, editing, moving, reverting, forgetting, adopting, writing, showing}
use Rattle.rec_tools.specs.Reverting.{IsRevertOf}
use Rattle.rec_tools.specs.Outcomes.{Outcome, IsPutOn, edit_reply, revert_reply, write_reply, IsChangeOutcome, IsRequestOutcome, IsPreviewText, IsPreviewFrom, LeadsFrom, printing}
use Rattle.rec_tools.specs.Laws.{MadeAnEdit, PreviewIsShowAfter, AdoptionIsShownAfter}
use Rattle.rec_text.proofs.lemmas.FaultLemmas.{no_both, same_value}
use Rattle.rec_tools.proofs.lemmas.outcomes.OpeningLemmas.{move_differs}
use Rattle.rec_tools.proofs.lemmas.outcomes.FromLemmas.{put_on, from_file}
use Rattle.rec_tools.proofs.lemmas.outcomes.OutcomeLemmas.{one_change, one_change_outcome}

-- the file is another one, and an edit more can be taken back
record GrewByOne (c d : Contents) : Type 0 where
  differ : d.file ≢ c.file
  before : Opened
  opens_before : Opens c.file c.journal before
  after : Opened
  opens_after : Opens d.file d.journal after
  one_more : length after.past ≡ length before.past + 1

-- so it can after what made an edit of it
grew-put : (c : Contents) (MakesOf : Opened → Result (Tool × Edited) Fault → Type 0) (reply_for : Opened → Tool → Edited → Reply) (done : Outcome)
    → MadeAnEdit done.reply → IsPutOn MakesOf reply_for c (Ok done) → GrewByOne c (written c done.writes)
grew-put c MakesOf reply_for done made (inl (fault, refused, e)) = absurd (no_both done fault e)
grew-put c MakesOf reply_for done made (inr (o, opens, inl (fault, refused, e))) = absurd (no_both done fault e)
grew-put c MakesOf reply_for done made (inr (o, opens, inr (told, is_made, inl (same, e)))) = absurd (subst (λ (x : Outcome). MadeAnEdit x.reply) e made)
grew-put c MakesOf reply_for done made (inr (o, opens, inr ((tool, edited), is_made, inr (differs, (plan, planned, e))))) =
    subst (λ (x : Outcome). GrewByOne c (written c x.writes)) (sym e) (record {
      differ = λ same. differs (sym planned.planned.1 ∙ same);
      before = o;
      opens_before = opens;
      after = after_edit_plan o c.journal tool edited.steps edited.text;
      opens_after = planned.safe.next;
      one_more = omega arith;
    })

-- so it can after what made an edit, or made one again
grew : (c : Contents) (change : AskedChange) (done : Outcome) → MadeAnEdit done.reply → IsChangeOutcome c change (Ok done) → GrewByOne c (written c done.writes)
grew c (editing Reads Makes) done made is =
    grew-put c (λ _. Makes c.file) (λ o. edit_reply o.next o.dropped) done made (put_on Reads c (λ _. Makes c.file) (λ o. edit_reply o.next o.dropped) done is)
grew c (reverting Reads number Reverts) done made is =
    grew-put c (λ o. IsRevertOf number Reverts o c.file) (λ o. revert_reply number o.next) done made
    (put_on Reads c (λ o. IsRevertOf number Reverts o c.file) (λ o. revert_reply number o.next) done is)
grew c (writing Makes) done made is = grew-put c (λ _. Makes c.file) (λ o. write_reply o.next o.dropped) done made is
grew c (moving direction through) done made (inl (fault, refused, e)) = absurd (no_both done fault e)
grew c (moving Backward through) done made (inr (o, opens, (settled, here, m))) = absurd (subst (λ (x : Outcome). MadeAnEdit x.reply) m.is made)
grew c (moving Forward through) done made (inr (o, opens, (settled, here, m))) =
    subst (λ (x : Outcome). GrewByOne c (written c x.writes)) (sym m.is) (record {
      differ = move_differs c.file c.journal o opens Forward m.moves.nearest m.moves.others m.moves.there m.plan.file m.moves.leads;
      before = o;
      opens_before = opens;
      after = after_move Forward o c.journal m.moves.nearest m.moves.others;
      opens_after = m.safe.next;
      one_more = omega arith;
    })
grew c (forgetting n dropping) done made (inl (fault, refused, e)) = absurd (no_both done fault e)
grew c (forgetting n dropping) done made (inr (o, opens, (settled, inl (few, e)))) = absurd (subst (λ (x : Outcome). MadeAnEdit x.reply) e made)
grew c (forgetting n dropping) done made (inr (o, opens, (settled, inr (more, f)))) = absurd (subst (λ (x : Outcome). MadeAnEdit x.reply) f.is made)
grew c (adopting old) done made (inl (fault, refused, e)) = absurd (no_both done fault e)
grew c (adopting old) done made (inr (o, opens, inl (settled, e))) = absurd (subst (λ (x : Outcome). MadeAnEdit x.reply) e made)
grew c (adopting old) done made (inr (o, opens, inr (drifted, (found, is, adopts)))) = absurd (subst (λ (x : Outcome). MadeAnEdit x.reply) adopts.is made)

-- a history with an edit hasn't drifted
not_drifted : (file journal : List ℕ) (o : Opened) (e : Revision) (others : List Revision) → Opens file journal o → o.past ≡ e ∷ others → o.drifted ≡ false
not_drifted file journal o e others opens past =
    elim (cases_Bool o.drifted) [
      | inl drifted ↦ (let none = sym (drifted-empty file journal o opens drifted).0 ∙ past in cc)
      | inr settled ↦ settled
    ]

module _ (c d : Contents) (style : DiffStyle) (text : List ℕ) (grows : GrewByOne c d) where
  same_before : (o : Opened) → Opens c.file c.journal o → o ≡ grows.before
  same_before o opens = same_value o grows.before (one_opening c.file c.journal (Ok o) (Ok grows.before) opens grows.opens_before)

  same_after : (o : Opened) → Opens d.file d.journal o → o ≡ grows.after
  same_after o opens = same_value o grows.after (one_opening d.file d.journal (Ok o) (Ok grows.after) opens grows.opens_after)

  -- then it is the newest, and is shown so
  shown_after : IsPreviewText (as_diff style) c d text → IsRequestOutcome d (showing None (as_diff style)) (Ok (printing text Shown))
  shown_after (inr (Forward, e, across, diff)) =
      let made : WithTexts = with_texts Backward e d.file c.file in
      let way : Way = record { direction = Backward; nearer = []; edit = e; farther = across.here.past } in (
        record { text = text; reply = Shown },
        (
          inr (
            across.there,
            across.opens_there,
            inr (
              made,
              (
                not_drifted d.file d.journal across.there e across.here.past across.opens_there across.on_top,
                way,
                record { there = across.on_top; for = (refl, refl) },
                record { here = d.file; there = c.file; over = refl; leads = across.leads; is = refl },
              ),
              diff,
            ),
          ),
          refl,
        ),
        refl,
      )
  shown_after (inr (Backward, e, across, diff)) =
      absurd (omega (
        arith,
        grows.one_more,
        ap length across.on_top,
        ap (λ (o : Opened). length o.past) (same_before across.here across.opens_here),
        ap (λ (o : Opened). length o.past) (same_after across.there across.opens_there),
      ))
  shown_after (inl (same, none)) = absurd (grows.differ same)

-- what made an edit led from the file
no_other_file : (c : Contents) (change : AskedChange) (done : Outcome) → MadeAnEdit done.reply → IsChangeOutcome c change (Ok done) → done.from ≡ None
no_other_file c change done made is =
    elim (from_file c change done is) [
      | inl none ↦ none
      | inr adopted ↦ absurd (subst MadeAnEdit adopted.reply made)
    ]

pub preview_is_show_after : PreviewIsShowAfter
preview_is_show_after c change style done previewed made is (would, is_too, preview) =
    let same = same_value would done (one_change_outcome c (change_of change) (one_change change) (Ok would) (Ok done) is_too is (no_both would BadPattern) (no_both done BadPattern)) in
    shown_after c (written c done.writes) style previewed.text (grew c (change_of change) done made is)
    (subst (λ f. IsPreviewFrom f (as_diff style) c (written c done.writes) previewed.text) (no_other_file c (change_of change) done made is)
    (subst (λ (w : Outcome). IsPreviewFrom w.from (as_diff style) c (written c w.writes) previewed.text) same preview.text))

-- ---- after an adoption

shown_from : (from : List ℕ) (e : Revision) (d : Contents) (style : DiffStyle) (text : List ℕ) → LeadsFrom from e d → IsDiff Forward style e.steps from d.file (Ok text)
    → IsRequestOutcome d (showing None (as_diff style)) (Ok (printing text Shown))
shown_from from e d style text leads diff =
    let made : WithTexts = with_texts Backward e d.file from in
    let way : Way = record { direction = Backward; nearer = []; edit = e; farther = leads.others } in (
      record { text = text; reply = Shown },
      (
        inr (
          leads.there,
          leads.opens_there,
          inr (
            made,
            (
              not_drifted d.file d.journal leads.there e leads.others leads.opens_there leads.newest,
              way,
              record { there = leads.newest; for = (refl, refl) },
              record { here = d.file; there = from; over = refl; leads = leads.leads; is = refl },
            ),
            diff,
          ),
        ),
        refl,
      ),
      refl,
    )

pub adoption_is_shown_after : AdoptionIsShownAfter
adoption_is_shown_after c old style done previewed some (inl (fault, refused, e)) preview = absurd (no_both done fault e)
adoption_is_shown_after c old style done previewed some (inr (o, opens, inl (settled, e))) preview = absurd (some (ap (λ (x : Outcome). x.writes) e))
adoption_is_shown_after c old style done previewed some (inr (o, opens, inr (drifted, (found, is, adopts)))) (would, is_too, preview) =
    let change : IsChangeOutcome c (adopting old) (Ok done) = inr (o, opens, inr (drifted, (found, is, adopts))) in
    let same = same_value would done (one_change_outcome c (adopting old) tt (Ok would) (Ok done) is_too change (no_both would BadPattern) (no_both done BadPattern)) in
    let printed : IsPreviewFrom done.from (as_diff style) c (written c done.writes) previewed.text =
    subst (λ (w : Outcome). IsPreviewFrom w.from (as_diff style) c (written c w.writes) previewed.text) same preview.text in
    let (e, leads, diff) = subst (λ f. IsPreviewFrom f (as_diff style) c (written c done.writes) previewed.text) (ap (λ (x : Outcome). x.from) adopts.is) printed in
    shown_from found.text e (written c done.writes) style previewed.text leads diff
