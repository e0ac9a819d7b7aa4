-- What an outcome writes, where a write fails and where none does.
use Rattle.std.proofs.Common.{◌≡◌, ◌⊎◌, inl, inr, ℕ, ◌+◌, ◌-◌, zero, suc, List, [], ◌∷◌, length, take, Some, Result, Ok, ap, sym, subst, refl, ◌∙◌, arith}
use Rattle.std.proofs.lemmas.List.{take_all}
use Rattle.rec_journal.specs.declared.plan.Plan.{Plan}
use Rattle.rec_journal.specs.History.{Opened, Opens, IsRegular}
use Rattle.rec_journal.specs.Stops.{keep_in, IsSafe}
use Rattle.rec_journal.specs.declared.ending.End.{End}
use Rattle.rec_journal.specs.Forgetting.{forgotten_journal}
use Rattle.rec_tools.specs.declared.home.Which.TheVariants.{Journal as TheJournal}
use Rattle.rec_edit.specs.declared.answer.Edited.{Edited}
use Rattle.rec_text.specs.declared.fault.Fault.{Fault}
use Rattle.rec_journal.specs.declared.event.Tool.{Tool}
use Rattle.rec_tools.specs.declared.request.Reply.{Reply}
use Rattle.rec_tools.specs.Home.{Contents, Write, writes_by, written, Call, left_by_all}
use Rattle.rec_tools.specs.Printouts.{Printed}
use Rattle.rec_tools.specs.Asked.{AskedChange, editing, moving, reverting, forgetting, adopting, writing, Asked, looking, listing, showing, listing_changes, changing, previewing, reads_of}
use Rattle.rec_tools.specs.Requests.{asked_of}
use Rattle.rec_tools.specs.Reverting.{IsRevertOf}
use Rattle.rec_tools.specs.Outcomes.{Outcome, IsChangeOutcome, IsRequestOutcome, IsPutOn, edit_reply, revert_reply, write_reply, Adopts}
use Rattle.rec_tools.proofs.lemmas.outcomes.FromLemmas.{put_on}
use Rattle.rec_tools.specs.Attempts.{Answer, StopsWriting, IsAnswered, IsCarriedOut, Does}
use Rattle.rec_tools.specs.Stands.{Stands}
use Rattle.rec_tools.specs.Answers.{IsOldOrNext}
use Rattle.rec_tools.specs.States.{State}
use Rattle.rec_tools.specs.Guarantee.{StopsAreSteps, WritesAreRegular}
use Rattle.rec_tools.proofs.lemmas.machine.StandsLemmas.{StandsBy, stands_by}
use Rattle.rec_tools.proofs.lemmas.machine.StepLemmas.{outcomes_are_steps}
use Rattle.rec_tools.proofs.lemmas.runs.RunLemmas.{cut_left, left-puts, left-stopped, left-carried, gots-left, writes_nothing}

-- ---- what writes leave

-- these contents stand for what those stood for, and their journal is regular
pub record StandsAgain (c left : Contents) : Type 0 where
  pub regular : IsRegular left.journal
  pub stands : (s : State) → Stands c s → Stands left s

-- all writes leave a regular journal; and where the first k are there, the same stands again, or they are all
pub record Leaves (c : Contents) (writes : List Write) : Type 0 where
  pub regular : IsRegular (written c writes).journal
  pub parts : (k : ℕ) → StandsAgain c (written c (take k writes)) ⊎ (written c (take k writes) ≡ written c writes)

module _ (c : Contents) (regular : IsRegular c.journal) where
  as_it_was : StandsAgain c c
  as_it_was = record { regular = regular; stands = λ s stands. stands }

  leaves-nothing : (writes : List Write) → writes ≡ [] → Leaves c writes
  leaves-nothing writes none =
      subst (Leaves c) (sym none) (record { regular = regular; parts = λ k. inr (ap (written c) (take_all k [] (omega arith))) })

  -- ---- the journal alone

  leaves-journal : (journal : List ℕ) → IsRegular journal → Leaves c (record { which = TheJournal; bytes = journal } ∷ [])
  leaves-journal journal anew = record { regular = anew; parts = parts } where
    parts : (k : ℕ) → StandsAgain c (written c (take k (record { which = TheJournal; bytes = journal } ∷ [])))
        ⊎ (written c (take k (record { which = TheJournal; bytes = journal } ∷ [])) ≡ record { file = c.file; journal = journal })
    parts zero = inl as_it_was
    parts (suc k) = inr (ap (written c) (take_all (suc k) (record { which = TheJournal; bytes = journal } ∷ []) (omega arith)))

  -- ---- a plan

  module _ (o after : Opened) (opens : Opens c.file c.journal o) (plan : Plan) (safe : IsSafe c.file c.journal o after plan) where
    -- a number of bytes that is enough for all of the plan's journal
    abbrev enough : ℕ
    enough = o.keep + length plan.journal

    whole : take enough plan.journal ≡ plan.journal
    whole = take_all enough plan.journal (omega arith)

    plan_regular : IsRegular plan.journal
    plan_regular = subst IsRegular whole ((safe.stops regular).regular enough (omega arith))

    -- with the journal written alone the same state stands
    half_stands : (s : State) → Stands c s → Stands (record { file = c.file; journal = plan.journal }) s
    half_stands s stands =
        let by : StandsBy o c s = stands_by c s o stands opens in
        record {
          opened = record o { keep = keep_in o enough };
          opens = subst (λ j. Opens c.file j (record o { keep = keep_in o enough })) whole ((safe.stops regular).opens enough (omega arith));
          settled = by.settled;
          present = by.present;
          past = by.past;
          future = by.future;
          next = by.next;
          made = by.made;
        }

    abbrev writes : List Write
    writes = writes_by plan.journal (Some plan.file)

    leaves-plan : Leaves c writes
    leaves-plan = record { regular = plan_regular; parts = parts } where
      parts : (k : ℕ) → StandsAgain c (written c (take k writes)) ⊎ (written c (take k writes) ≡ written c writes)
      parts zero = inl as_it_was
      parts (suc zero) = inl (record { regular = plan_regular; stands = half_stands })
      parts (suc (suc k)) = inr (ap (written c) (take_all (suc (suc k)) writes (omega arith)))

  -- the journal of an adoption is regular
  adopted_regular : (o : Opened) (found : End) (outcome : Outcome) → (adopts : Adopts o c found outcome) → IsRegular adopts.plan.journal
  adopted_regular o found outcome adopts =
      let enough : ℕ = found.history.keep + length adopts.plan.journal in
      subst IsRegular (take_all enough adopts.plan.journal (omega arith)) ((adopts.planned.safe.stops (adopts.has_end.regular regular)).regular enough (omega arith))

  -- ---- an outcome

  leaves-put : (MakesOf : Opened → Result (Tool × Edited) Fault → Type 0) (reply_for : Opened → Tool → Edited → Reply) (outcome : Outcome)
      → IsPutOn MakesOf reply_for c (Ok outcome) → Leaves c outcome.writes
  leaves-put MakesOf reply_for outcome (inl refused) = let e = refused.2 in cc
  leaves-put MakesOf reply_for outcome (inr (o, opens, inl refused)) = let e = refused.2 in cc
  leaves-put MakesOf reply_for outcome (inr (o, opens, inr (made, done, inl (same, e)))) =
      leaves-nothing outcome.writes (ap (λ (x : Outcome). x.writes) e)
  leaves-put MakesOf reply_for outcome (inr (o, opens, inr (made, done, inr (differs, (plan, planned, e))))) =
      subst (λ (x : Outcome). Leaves c x.writes) (sym e) (leaves-plan o _ opens plan planned.safe)

  leaves_change : (change : AskedChange) (outcome : Outcome) → IsChangeOutcome c change (Ok outcome) → Leaves c outcome.writes
  leaves_change (editing Reads Makes) outcome is =
      leaves-put (λ _. Makes c.file) (λ o. edit_reply o.next o.dropped) outcome (put_on Reads c (λ _. Makes c.file) (λ o. edit_reply o.next o.dropped) outcome is)
  leaves_change (reverting Reads number Reverts) outcome is =
      leaves-put (λ o. IsRevertOf number Reverts o c.file) (λ o. revert_reply number o.next) outcome
      (put_on Reads c (λ o. IsRevertOf number Reverts o c.file) (λ o. revert_reply number o.next) outcome is)
  leaves_change (writing Makes) outcome is = leaves-put (λ _. Makes c.file) (λ o. write_reply o.next o.dropped) outcome is
  leaves_change (moving direction through) outcome (inl refused) = let e = refused.2 in cc
  leaves_change (moving direction through) outcome (inr (o, opens, (settled, here, m))) =
      subst (λ (x : Outcome). Leaves c x.writes) (sym m.is) (leaves-plan o _ opens m.plan m.safe)
  leaves_change (forgetting n dropping) outcome (inl refused) = let e = refused.2 in cc
  leaves_change (forgetting n dropping) outcome (inr (o, opens, (settled, inl (few, e)))) = leaves-nothing outcome.writes (ap (λ (x : Outcome). x.writes) e)
  leaves_change (forgetting n dropping) outcome (inr (o, opens, (settled, inr (more, f)))) =
      subst (λ (x : Outcome). Leaves c x.writes) (sym f.is) (leaves-journal (forgotten_journal (length o.past - (length o.past - n)) o) f.regular)
  leaves_change (adopting old) outcome (inl refused) = let e = refused.2 in cc
  leaves_change (adopting old) outcome (inr (o, opens, inl (settled, e))) = leaves-nothing outcome.writes (ap (λ (x : Outcome). x.writes) e)
  leaves_change (adopting old) outcome (inr (o, opens, inr (drifted, (found, is, adopts)))) =
      subst (λ (x : Outcome). Leaves c x.writes) (sym adopts.is) (leaves-journal adopts.plan.journal (adopted_regular o found outcome adopts))

  leaves : (asked : Asked) (outcome : Outcome) → IsRequestOutcome c asked (Ok outcome) → Leaves c outcome.writes
  leaves (looking IsText) outcome is = leaves-nothing outcome.writes (writes_nothing c (looking IsText) outcome tt is)
  leaves listing outcome is = leaves-nothing outcome.writes (writes_nothing c listing outcome tt is)
  leaves (showing number style) outcome is = leaves-nothing outcome.writes (writes_nothing c (showing number style) outcome tt is)
  leaves (listing_changes style) outcome is = leaves-nothing outcome.writes (writes_nothing c (listing_changes style) outcome tt is)
  leaves (previewing style change) outcome is = leaves-nothing outcome.writes (writes_nothing c (previewing style change) outcome tt is)
  leaves (changing change) outcome is = leaves_change change outcome is

-- ---- an outcome's writes

module _ (c : Contents) (asked : Asked) (outcome : Outcome) (is : IsRequestOutcome c asked (Ok outcome)) (regular : IsRegular c.journal) where
  pub written_regular : IsRegular (written c outcome.writes).journal
  written_regular = (leaves c regular asked outcome is).regular

  module _ (calls : List Call) (stops : StopsWriting outcome.writes calls) where
    -- the same stands again, or all was written
    left : StandsAgain c (left_by_all c calls) ⊎ (left_by_all c calls ≡ written c outcome.writes)
    left =
        let cut = cut_left c outcome.writes calls stops in
        subst (λ d. StandsAgain c d ⊎ (d ≡ written c outcome.writes)) (sym cut.1) ((leaves c regular asked outcome is).parts cut.0)

    pub cut_regular : IsRegular (left_by_all c calls).journal
    cut_regular =
        elim left [ inl again ↦ again.regular | inr all ↦ subst (λ (d : Contents). IsRegular d.journal) (sym all) written_regular ]

    pub cut_stands : (s : State) → Stands c s → (t : State) × IsOldOrNext s asked t × Stands (left_by_all c calls) t
    cut_stands s stands =
        elim left [
          | inl again ↦ (s, inl refl, again.stands s stands)
          | inr all ↦ (
              let step = outcomes_are_steps c s asked (Ok outcome) stands is in
              (step.0, inr (outcome.reply, outcome.text, step.1), subst (λ d. Stands d step.0) (sym all) step.2)
              )
        ]

pub stops_are_steps : StopsAreSteps
stops_are_steps c s request outcome calls stands regular is stops =
    let next = cut_stands c (asked_of request) outcome is regular calls stops s stands in
    (next.0, next.1, next.2, cut_regular c (asked_of request) outcome is regular calls stops)

pub writes_are_regular : WritesAreRegular
writes_are_regular c request outcome regular is = written_regular c (asked_of request) outcome is regular

-- ---- a request

-- a regular journal stays so, whatever fails
module _ (c : Contents) (asked : Asked) (regular : IsRegular c.journal) (answer : Answer) (calls : List Call) (p : Printed) where
  as_before : left_by_all c calls ≡ c → IsRegular (left_by_all c calls).journal
  as_before same = subst (λ (d : Contents). IsRegular d.journal) (sym same) regular

  carried_regular : (done : IsCarriedOut c asked answer calls p) → IsAnswered done.o answer done.following → IsRegular (left_by_all c calls).journal
  carried_regular done answered =
      let left : left_by_all c calls ≡ left_by_all c done.following = left-carried c asked calls p done.following done.calls_are in
      elim answered [
        | inl put ↦ subst (λ (d : Contents). IsRegular d.journal) (sym (left ∙ ap (left_by_all c) put.1 ∙ left-puts c done.o.writes)) (written_regular c asked done.o done.outcome regular)
        | inr stopped ↦ subst (λ (d : Contents). IsRegular d.journal) (sym left) (cut_regular c asked done.o done.outcome regular done.following stopped.1)
      ]

  pub does-regular : Does c asked answer calls p → IsRegular (left_by_all c calls).journal
  does-regular (inl done) = as_before (left-stopped c (reads_of asked) calls done.fault done.stops)
  does-regular (inr (inl done)) = as_before (gots-left c asked calls p done.read)
  does-regular (inr (inr (inl done))) = as_before (gots-left c asked calls p done.read)
  does-regular (inr (inr (inr (inl done)))) = as_before (gots-left c asked calls p done.read)
  does-regular (inr (inr (inr (inr done)))) = carried_regular done done.answered
