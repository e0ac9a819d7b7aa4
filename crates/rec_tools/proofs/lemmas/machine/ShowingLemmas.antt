-- What edits made, and what would change: what is printed on contents that stand for a state is what the machine prints.
use Rattle.std.proofs.Common.{◌≡◌, ◌≢◌, inl, inr, ℕ, List, [], ◌∷◌, map, Option, None, Result, Ok, Err, sym, ap, subst, refl, ◌∙◌}
use Rattle.std.specs.Prelude.{if◌then◌else◌}
use Rattle.std.proofs.lemmas.Bool.{false≢true}
use Rattle.rec_text.specs.declared.fault.Fault.{Fault}
use Rattle.rec_journal.specs.declared.event.EditStep.{EditStep}
use Rattle.rec_journal.specs.declared.event.Revision.{Revision}
use Rattle.rec_journal.specs.declared.patch.Direction.{Direction}
use Rattle.rec_journal.specs.declared.patch.Direction.TheVariants.{Forward, Backward}
use Rattle.rec_journal.specs.History.{Opened}
use Rattle.rec_journal.specs.Revisions.{Leads}
use Rattle.rec_journal.proofs.lemmas.patches.StepLemmas.{edits_lead_to_one_text}
use Rattle.rec_journal.proofs.lemmas.texts.AllLemmas.{one_list_of_texts}
use Rattle.rec_tools.specs.declared.request.Reply.TheVariants.{Shown, Drifted as HasDrifted}
use Rattle.rec_tools.specs.Home.{Contents, written}
use Rattle.rec_tools.specs.Printouts.{told_of, IsShownText, IsShownEdit, IsWholeLog, IsLog}
use Rattle.rec_tools.specs.Asked.{Printout, AskedChange, showing, listing_changes, changing, previewing, Telling}
use Rattle.rec_tools.specs.Outcomes.{Outcome, IsChangeOutcome, IsRequestOutcome, IsPrinting, IsPreviewText, IsPreviewFrom, OnTop}
use Rattle.rec_tools.specs.Machine.{IsChangeStep, IsMachineStep, IsShowingStep, IsStepDiff}
use Rattle.rec_tools.specs.Stands.{AreEntries, Stands}
use Rattle.rec_tools.specs.States.{Entry, State}
use Rattle.rec_tools.specs.Guarantee.{StepsAsMachine}
use Rattle.rec_text.proofs.lemmas.FaultLemmas.{no_both, same_fault}
use Rattle.rec_tools.proofs.lemmas.machine.StandsLemmas.{StandsBy, stands_by, can_be_opened, one_list_of_entries}
use Rattle.rec_tools.proofs.lemmas.machine.ToldLemmas.{all_told, shown_edit-told, shown_edit-none}

-- ---- what edits made

module _ (c : Contents) (s : State) (stands : Stands c s) where
  shown_text : (number : Option ℕ) (Tells : Telling) (p : Printout) → IsShownText (IsShownEdit number Tells c.file c.journal) (Ok p)
      → IsMachineStep s (showing number Tells) (Ok p.reply) p.text s
  shown_text number Tells p (inl (fault, refused, e), shown) = absurd (no_both p.text fault e)
  shown_text number Tells p (inr (o, opens, inl (fault, refused, e)), shown) = absurd (no_both p.text fault e)
  shown_text number Tells p (inr (o, opens, inr (made, texts, diff)), shown) = (
    subst (λ found. IsShowingStep number Tells found (Ok p.reply) p.text) (sym (shown_edit-told o c s (stands_by c s o stands opens) opens number made texts)) (ap Ok shown, diff),
    refl,
  )

  shown_refused : (number : Option ℕ) (Tells : Telling) (fault : Fault) → IsShownEdit number Tells c.file c.journal (Err fault)
      → IsMachineStep s (showing number Tells) (Err fault) [] s
  shown_refused number Tells fault (inl (other, refused, e)) = absurd (can_be_opened c s stands other refused)
  shown_refused number Tells fault (inr (o, opens, inl (other, refused, e))) =
      let none = shown_edit-none o c s (stands_by c s o stands opens) opens number other refused in
      (subst (λ found. IsShowingStep number Tells found (Err fault) []) (sym none.0) (ap Err (same_fault fault other e ∙ none.1), refl), refl)
  shown_refused number Tells fault (inr (o, opens, inr (made, texts, diff))) = absurd diff

  pub shows_step : (number : Option ℕ) (Tells : Telling) (r : Result Outcome Fault) → IsPrinting (IsShownText (IsShownEdit number Tells c.file c.journal)) r
      → StepsAsMachine c s (showing number Tells) r
  shows_step number Tells (Ok outcome) (p, is, e) =
      subst (λ x. StepsAsMachine c s (showing number Tells) (Ok x)) (sym e) (s, shown_text number Tells p is, stands)
  shows_step number Tells (Err fault) is = inl (shown_refused number Tells fault is)

  logged_text : (Tells : Telling) (p : Printout) → IsWholeLog Tells c.file c.journal (Ok p) → IsMachineStep s (listing_changes Tells) (Ok p.reply) p.text s
  logged_text Tells p (inl (fault, refused, e)) = absurd (no_both p fault e)
  logged_text Tells p (inr (o, opens, (inl (drifted, e), shown))) = absurd (false≢true (sym (stands_by c s o stands opens).settled ∙ drifted))
  logged_text Tells p (inr (o, opens, (inr (settled, (all, are, log)), shown))) =
      let told = all_told o c s (stands_by c s o stands opens) in
      let same = (one_list_of_texts c.file o told.all settled told.are).only all are in
      (ap Ok (shown ∙ ap (λ b. if b then HasDrifted else Shown) settled), subst (λ es. IsLog Tells es p.text) (ap (map told_of) same ∙ told.same) log, refl)

  log_refused : (Tells : Telling) (fault : Fault) → IsWholeLog Tells c.file c.journal (Err fault) → ⊥
  log_refused Tells fault (inl (other, refused, e)) = can_be_opened c s stands other refused
  log_refused Tells fault (inr (o, opens, (e, settled, none))) = let told = all_told o c s (stands_by c s o stands opens) in none told.all told.are

  pub logs_step : (Tells : Telling) (r : Result Outcome Fault) → IsPrinting (IsWholeLog Tells c.file c.journal) r → StepsAsMachine c s (listing_changes Tells) r
  logs_step Tells (Ok outcome) (p, is, e) =
      subst (λ x. StepsAsMachine c s (listing_changes Tells) (Ok x)) (sym e) (s, logged_text Tells p is, stands)
  logs_step Tells (Err fault) is = absurd (log_refused Tells fault is)

-- ---- what would change

-- the entry of an edit on top of others, whose entries are known from the text to which it leads back
record HasTop (e : Revision) (entries others : List Entry) : Type 0 where
  entry : Entry
  are : entries ≡ entry ∷ others
  steps : e.steps ≡ entry.steps

top_of : (e : Revision) (es : List Revision) (entries others : List Entry) (here there : List ℕ) → AreEntries Backward (e ∷ es) entries here
    → Leads Backward e here there → AreEntries Backward es others there → HasTop e entries others
top_of e es [] others here there are leads others_are = absurd are
top_of e es (entry ∷ entries) others here there are leads others_are =
    let text = edits_lead_to_one_text Backward e here entry.text there are.3 leads in
    record {
      entry = entry;
      are = ap (λ xs. entry ∷ xs) (one_list_of_entries Backward es entries others there (subst (AreEntries Backward es entries) text are.4) others_are);
      steps = are.2;
    }

module _ (c d : Contents) (s t : State) (stands : Stands c s) (reached : Stands d t) (Tells : Telling) (text : List ℕ) where
  -- in the texts of the machine
  in_states : (direction : Direction) (steps other : List EditStep) → steps ≡ other → Tells direction steps c.file d.file text
      → Tells direction other s.present t.present text
  in_states direction steps other same diff =
      subst (λ here. Tells direction other here t.present text) (sym stands.present)
      (subst (λ there. Tells direction other c.file there text) (sym reached.present)
      (subst (λ ss. Tells direction ss c.file d.file text) same diff))

  step_diff : IsPreviewText Tells c d text → IsStepDiff Tells s t text
  step_diff (inl (same, none)) = inl (reached.present ∙ same ∙ sym stands.present, none)
  step_diff (inr (direction, e, across, diff)) =
      let here = stands_by c s across.here stands across.opens_here in
      let there = stands_by d t across.there reached across.opens_there in
      inr (
        (λ same. across.differ (sym reached.present ∙ same ∙ stands.present)),
        entry_of direction e across.here across.there here there across.on_top across.leads diff,
      )
    where
      entry_of : (direction : Direction) (e : Revision) (o p : Opened) → StandsBy o c s → StandsBy p d t → OnTop direction e o.past p.past → Leads direction e c.file d.file
          → Tells direction e.steps c.file d.file text
          → (direction : Direction) × (entry : Entry) × OnTop direction entry s.past t.past × Tells direction entry.steps s.present t.present text
      entry_of Forward e o p here there top leads diff =
          let has = top_of e o.past t.past s.past d.file c.file (subst (λ es. AreEntries Backward es t.past d.file) top there.past) leads here.past in
          (Forward, has.entry, has.are, in_states Forward e.steps has.entry.steps has.steps diff)
      entry_of Backward e o p here there top leads diff =
          let has = top_of e p.past s.past t.past c.file d.file (subst (λ es. AreEntries Backward es s.past c.file) top here.past) leads there.past in
          (Backward, has.entry, has.are, in_states Backward e.steps has.entry.steps has.steps diff)

module _ (c : Contents) (s : State) (stands : Stands c s) (Tells : Telling) (change : AskedChange)
    (from_here : (outcome : Outcome) → IsChangeOutcome c change (Ok outcome) → outcome.from ≡ None)
    (steps : (r : Result Outcome Fault) → IsChangeOutcome c change r → StepsAsMachine c s (changing change) r) where
  pub previews_step : (r : Result Outcome Fault) → IsRequestOutcome c (previewing Tells change) r → StepsAsMachine c s (previewing Tells change) r
  previews_step (Ok outcome) (would, is, preview) =
      let next = steps (Ok would) is in (
        s,
        (
          next.0,
          subst (λ reply. IsChangeStep s change (Ok reply) next.0) (sym preview.reply) next.1.0,
          step_diff c (written c would.writes) s next.0 stands next.2 Tells outcome.text
              (subst (λ f. IsPreviewFrom f Tells c (written c would.writes) outcome.text) (from_here would is) preview.text),
          refl,
        ),
        subst (λ ws. Stands (written c ws) s) (sym preview.writes) stands,
      )
  previews_step (Err fault) is =
      elim (steps (Err fault) is) [
        | inl step ↦ inl (s, step.0, inl (refl, refl), refl)
        | inr clash ↦ inr (
          clash.0,
          record { reply = clash.1.reply; later = clash.1.later; step = clash.1.step; differ = clash.1.differ; same_digest = clash.1.same_digest },
        )
      ]
