-- Adoptions: that there is one outcome, and what is decided.
use Rattle.std.proofs.Common.{◌≡◌, ◌≢◌, inl, inr, ℕ, true, false, Option, None, List, Result, Ok, Err, take, sym, ap, subst, refl, ◌∙◌}
use Rattle.std.specs.Option.{unwrap_or}
use Rattle.std.proofs.lemmas.Bool.{false≢true}
use Rattle.rec_text.specs.declared.fault.Fault.{Fault}
use Rattle.rec_text.specs.Faults.{IsMemoryOr, UnlessMemory}
use Rattle.rec_text.proofs.lemmas.FaultLemmas.{memory_or_weaker, no_both, same_value, same_fault}
use Rattle.rec_text.proofs.lemmas.StepLemmas.{HasOne}
use Rattle.rec_journal.specs.declared.ending.End.{End}
use Rattle.rec_journal.specs.declared.event.EditStep.{EditStep}
use Rattle.rec_journal.specs.declared.event.Tool.TheVariants.{Adopt as ByAdopt}
use Rattle.rec_journal.specs.declared.plan.Plan.{Plan}
use Rattle.rec_journal.specs.Bound.{most_of_edit}
use Rattle.rec_journal.specs.Ending.{digest_of, EndsWith, HasEnd, IsEndOf}
use Rattle.rec_journal.specs.Event.{AreStepsBy}
use Rattle.rec_journal.specs.History.{Opened, Opens, IsOpening}
use Rattle.rec_journal.specs.Plans.{edit_to, after_edit_plan}
use Rattle.rec_journal.specs.Promises.{PlansEdit}
use Rattle.rec_journal.specs.Revisions.{AreDone, LeadsBy}
use Rattle.rec_journal.proofs.lemmas.plans.EndingLemmas.{end_of_drifted}
use Rattle.rec_journal.proofs.lemmas.texts.ReachLemmas.{one_end}
use Rattle.rec_diff.specs.Comparing.{step_between}
use Rattle.rec_diff.proofs.lemmas.comparing.StepLemmas.{step_leads, step_is_by, step_is_done}
use Rattle.rec_tools.specs.declared.decision.Decision.{Decision}
use Rattle.rec_tools.specs.declared.decision.Decision.TheVariants.{Adopt}
use Rattle.rec_tools.specs.declared.request.Reply.{Reply}
use Rattle.rec_tools.specs.declared.request.Reply.TheVariants.{Adopted, Unchanged}
use Rattle.rec_tools.specs.Home.{Contents}
use Rattle.rec_tools.specs.Asked.{adopting}
use Rattle.rec_tools.specs.Outcomes.{Outcome, IsAdoption, IsEndFor, Adopts, IsChangeOutcome, Decides, leading, staying}
use Rattle.rec_tools.specs.Writing.{edited_by_lines}
use Rattle.rec_tools.specs.proving.Adopting.{AdoptsTo, AdoptsFrom}
use Rattle.rec_tools.specs.proving.Courses.{contents, HasCourse}
use Rattle.rec_tools.proofs.lemmas.outcomes.OpeningLemmas.{same_plan_of}

-- ---- one outcome

module _ (old : Option (List ℕ)) (o : Opened) (c : Contents) where
  one_found : (one other : Result End Fault) → IsEndFor old o c one → IsEndFor old o c other → one ≡ other
  one_found one other is is_too = one_end (take o.keep c.journal) (unwrap_or old c.file) one other is is_too

  same_adoption : (found : End) (one other : Outcome) → Adopts o c found one → Adopts o c found other → one ≡ other
  same_adoption found one other a b =
      a.is ∙ ap (λ (p : Plan). leading p.journal found.text (Adopted o.next)) (same_plan_of (record { file = found.text; journal = take o.keep c.journal }) found.history ByAdopt
      (edited_by_lines ByAdopt found.text c.file) a.plan b.plan a.planned b.planned) ∙ sym b.is

  pub HasOne-adoption : HasOne (IsAdoption old o c)
  HasOne-adoption (Ok one) (Ok other) (inl (settled, e)) (inl (settled_too, k)) = ap Ok (e ∙ sym k)
  HasOne-adoption (Ok one) (Ok other) (inl (settled, e)) (inr (drifted, adopts)) = absurd (false≢true (sym settled ∙ drifted))
  HasOne-adoption (Ok one) (Ok other) (inr (drifted, adopts)) (inl (settled, k)) = absurd (false≢true (sym settled ∙ drifted))
  HasOne-adoption (Ok one) (Ok other) (inr (drifted, (found, is, adopts))) (inr (drifted_too, (also, is_too, adopts_too))) =
      let same : also ≡ found = same_value also found (one_found (Ok also) (Ok found) is_too is) in
      ap Ok (same_adoption found one other adopts (subst (λ (x : End). Adopts o c x other) same adopts_too))
  HasOne-adoption (Ok one) (Err fault) (inl (settled, e)) (drifted, none) = absurd (false≢true (sym settled ∙ drifted))
  HasOne-adoption (Ok one) (Err fault) (inr (drifted, (found, is, adopts))) (drifted_too, none) = absurd (no_both found fault (one_found (Ok found) (Err fault) is none))
  HasOne-adoption (Err fault) (Ok other) (drifted, none) (inl (settled, k)) = absurd (false≢true (sym settled ∙ drifted))
  HasOne-adoption (Err fault) (Ok other) (drifted, none) (inr (drifted_too, (found, is, adopts))) = absurd (no_both found fault (one_found (Ok found) (Err fault) is none))
  HasOne-adoption (Err fault) (Err other) (drifted, none) (drifted_too, none_too) = ap Err (same_fault {A = End} fault other (one_found (Err fault) (Err other) none none_too))

-- ---- what is decided

module _ (file journal : List ℕ) (o : Opened) (opens : Opens file journal o) (drifted : o.drifted ≡ true) where
  module _ (found : End) (ends : EndsWith (take o.keep journal) found.history) (digest : digest_of found.text ≡ found.history.digest) where
    has : HasEnd file journal o found.history
    has = end_of_drifted file journal o found.history opens drifted ends

    apart_from_end : found.text ≢ file
    apart_from_end same = has.apart (sym digest ∙ ap digest_of same)

    module _ (steps : List EditStep) (are : steps ≡ step_between ByAdopt found.text file) where
      pub steps_by_adopt : AreStepsBy ByAdopt steps
      steps_by_adopt = subst (AreStepsBy ByAdopt) (sym are) (step_is_by ByAdopt found.text file refl)

      pub steps_are_done : AreDone steps
      steps_are_done = subst AreDone (sym are) (step_is_done ByAdopt found.text file refl apart_from_end)

      steps_lead : LeadsBy steps found.text file
      steps_lead = subst (λ (ss : List EditStep). LeadsBy ss found.text file) (sym are) (step_leads ByAdopt found.text file)

      abbrev PlansIt : List EditStep → List ℕ → Type 0
      PlansIt ss bytes = PlansEdit found.history found.text (take o.keep journal) ByAdopt ss file (most_of_edit ByAdopt ss) (Ok (record { journal = bytes; file = file }))

      module _ (bytes : List ℕ) (planned : PlansIt steps bytes) where
        pub adoption : (outcome : Outcome) → outcome ≡ leading bytes found.text (Adopted o.next) → Adopts o (contents file journal) found outcome
        adoption outcome is =
            let by_lines = subst (λ (ss : List EditStep). PlansIt ss bytes) are planned in
            record {
              has_end = has;
              end = digest;
              plan = record { journal = bytes; file = file };
              planned = record { leads = step_leads ByAdopt found.text file; planned = by_lines.found; safe = by_lines.safe };
              is = is;
            }

        pub adoption_course : (reply : Reply) → HasCourse file journal (Adopt bytes found.text steps reply)
        adoption_course reply = (
          edit_to found.history ByAdopt file steps,
          record {
            there = after_edit_plan found.history (take o.keep journal) ByAdopt steps file;
            opens_there = planned.safe.next;
            others = found.history.past;
            newest = refl;
            leads = record { leads = steps_lead; digest_before = digest; digest_after = refl };
          },
          refl,
        )

  -- from a text that was read, as it is asked for
  pub adoption_decided : (old : Option (List ℕ)) (text : List ℕ) → text ≡ unwrap_or old file → (r : Result Decision Fault) → UnlessMemory r (AdoptsFrom o file journal text)
      → UnlessMemory r (Decides file journal (adopting old))
  adoption_decided old text same (Ok decision) (found, is, adopts) =
      inr (o, opens, inr (drifted, (found, subst (λ (t : List ℕ). IsEndOf (take o.keep journal) t (Ok found)) same is, adopts)))
  adoption_decided old text same (Err fault) h =
      memory_or_weaker fault _ _ (λ none. inr (o, opens, (drifted, subst (λ (t : List ℕ). IsEndOf (take o.keep journal) t (Err fault)) same none))) h

module _ (file journal : List ℕ) (old : Option (List ℕ)) where
  pub adoption-no_opening : (fault : Fault) → IsMemoryOr fault (IsOpening file journal (Err fault)) → IsMemoryOr fault (Decides file journal (adopting old) (Err fault))
  adoption-no_opening fault h = memory_or_weaker fault _ _ (λ none. inl (fault, none, refl)) h

  pub nothing_to_adopt : (o : Opened) → IsOpening file journal (Ok o) → o.drifted ≡ false → IsChangeOutcome (contents file journal) (adopting old) (Ok (staying (Unchanged None)))
  nothing_to_adopt o opens settled = inr (o, opens, inl (settled, refl))

-- what is found, and then done
pub adopted_from : (file journal old : List ℕ) (o : Opened) (found : End) → IsEndOf (take o.keep journal) old (Ok found) → (r : Result Decision Fault)
    → UnlessMemory r (AdoptsTo o file journal found) → UnlessMemory r (AdoptsFrom o file journal old)
adopted_from file journal old o found is (Ok decision) adopts = (found, is, adopts)
adopted_from file journal old o found is (Err fault) h = memory_or_weaker fault _ _ (λ never. absurd never) h
