use Rattle.std.proofs.Common.{◌≡◌, ◌∙◌, ◌++◌, ◌∷◌, ◌+◌, [], map, ap₂, drop, refl, subst, sym, take}
use Rattle.std.proofs.lemmas.Option.{MatchOption-at_none, MatchOption-at_some}
use Rattle.rec_journal.specs.Patch.{Splices}
use Rattle.rec_journal.specs.Revisions.{LeadsBy}
use Rattle.rec_diff.specs.Making.{StepMakes}
use Rattle.rec_diff.specs.Placed.{IsPlaced, PlacedRecord, PlacedText}
use Rattle.rec_diff.specs.proving.Making.{AreMadeBySteps, MakeNothing, made_at}
use Rattle.rec_diff.specs.proving.Reading.{AreMade}
use Rattle.rec_diff.proofs.lemmas.reverting.StepLemmas.{all_steps, leads_join, left_leads, none_of, nothing_made, one_more_made, steps_more, steps_so_far}
use Rattle.rec_diff.proofs.reverting.making.made_by_steps.Goals as goal

pub returns-in_default-clause-made : goal.returns-in_default-clause-made
returns-in_default-clause-made c = λ first start leads.
    let steps = c.args.steps.now in
    let i = c.loop-step.step-index in
    let step = c.step-item.result in
    let text = c.loop-step.text in
    let next = c.in_ok-next.next in
    let one = c.as_slice-in-loop-step.result.now in
    let other = c.as_slice-in-loop-step-2.result.now in
    let splices : Splices step.patch text next = subst (λ t. Splices step.patch t next) c.as_slice.ensures c.in_ok-next.ensures.0 in
    let none : (a b : PlacedRecord) → StepMakes step one other a b → ⊥ =
    MatchOption-at_none ((a b : PlacedRecord) → StepMakes step one other a b → ⊥)
    (λ made. (text : PlacedText) × (next : PlacedText) × IsPlaced one text × IsPlaced other next × AreMade (StepMakes step one other) text next made.items)
    (none_of c.in_ok-by_step.field-0 c.in_default.not-Some) c.in_ok-by_step.ensures.made in
    subst (λ s. MakeNothing s start) (all_steps steps i step c.loop-step-test.true c.step-item.is first)
    (nothing_made (first ++ take i steps) start step text next (leads_join first (take i steps) start c.args.text.now text leads c.loop-step.invariant.leads) splices (drop (i + 1) steps)
    (λ a b makes. none a b (subst (λ t. StepMakes step t other a b) (sym c.as_slice-in-loop-step.ensures) (subst (λ t. StepMakes step text t a b) (sym c.as_slice-in-loop-step-2.ensures) makes))))

pub loop-step-preserved : goal.loop-step-preserved
loop-step-preserved c =
    let steps = c.args.steps.now in
    let i = c.loop-step.step-index in
    let step = c.step-item.result in
    let text = c.loop-step.text in
    let next = c.in_ok-next.next in
    let one = c.as_slice-in-loop-step.result.now in
    let other = c.as_slice-in-loop-step-2.result.now in
    let made = c.loop-step.made.items in
    let by_step = c.in-Some.by_step.items in
    let splices : Splices step.patch text next = subst (λ t. Splices step.patch t next) c.as_slice.ensures c.in_ok-next.ensures.0 in
    let (old, new, is_old, is_new, by) =
    MatchOption-at_some ((a b : PlacedRecord) → StepMakes step one other a b → ⊥)
    (λ made. (text : PlacedText) × (next : PlacedText) × IsPlaced one text × IsPlaced other next × AreMade (StepMakes step one other) text next made.items) c.in-Some.by_step c.in-Some.is
    c.in_ok-by_step.ensures.made in
    let old_is : IsPlaced text old = subst (λ t. IsPlaced t old) c.as_slice-in-loop-step.ensures is_old in
    let new_is : IsPlaced next new = subst (λ t. IsPlaced t new) c.as_slice-in-loop-step-2.ensures is_new in
    let makes : AreMade (StepMakes step text next) old new by_step =
    subst (λ t. AreMade (StepMakes step text t) old new by_step) c.as_slice-in-loop-step-2.ensures
    (subst (λ t. AreMade (StepMakes step t other) old new by_step) c.as_slice-in-loop-step.ensures by) in
    let items : c.in_ok-made.made.items ≡ map (made_at by_step) made =
    c.in_ok-made.ensures ∙ (ap₂ (λ x y. map (made_at x) y) c.deref-in-loop-step.ensures.value c.deref.ensures.value) in
    record {
      made = λ first start own is leads all.
          subst (λ s. AreMadeBySteps s start own next c.in_ok-made.made.items) (steps_more steps i step c.loop-step-test.true c.step-item.is first)
          (subst (AreMadeBySteps ((first ++ take i steps) ++ step ∷ []) start own next) (sym items)
          (one_more_made (first ++ take i steps) start step text next
          (leads_join first (take i steps) start c.args.text.now text leads c.loop-step.invariant.leads) splices own old new made by_step is old_is
          new_is (c.loop-step.invariant.made first start own is leads all) makes));
      leads =
          subst (λ s. LeadsBy s c.args.text.now next) (sym (steps_so_far steps i step c.loop-step-test.true c.step-item.is))
          (leads_join (take i steps) (step ∷ []) c.args.text.now text next c.loop-step.invariant.leads (next, splices, refl));
      left = left_leads steps i step c.loop-step-test.true c.step-item.is text next splices c.loop-step.invariant.left;
    }
