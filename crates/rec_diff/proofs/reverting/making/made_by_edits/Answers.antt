use Rattle.std.proofs.Common.{◌≡◌, ◌++◌, ◌+◌, [], ℕ, List, drop, subst, sym, take, take_all}
use Rattle.std.proofs.lemmas.Option.{MatchOption-at_none, MatchOption-at_some}
use Rattle.rec_journal.specs.declared.event.EditStep.{EditStep}
use Rattle.rec_journal.specs.Revisions.{LeadsBy, joined_steps, step_lists}
use Rattle.rec_diff.specs.Placed.{IsPlaced, PlacedText}
use Rattle.rec_diff.specs.proving.Making.{AreMadeBySteps, MakeNothing}
use Rattle.rec_diff.proofs.lemmas.reverting.StepLemmas.{all_edits, all_kept, edit_leads, edits_so_far, leads_join, nothing_longer, one_end, rest_leads, same_ok}
use Rattle.rec_diff.proofs.reverting.making.made_by_edits.Goals as goal

pub loop-steps-init : goal.loop-steps-init
loop-steps-init c =
    let text = c.args.text.now in
    let here = c.in_ok-here.here in
    let same : text ≡ here = sym (same_ok here text c.in_ok-here.ensures) in
    record {
      made = λ own is lengths. subst (λ t. AreMadeBySteps [] text own t c.in_ok-made.made.items) same
          (all_kept text own c.in_ok-made.made.items c.args.count is lengths c.in_ok-made.ensures.length c.in_ok-made.ensures.each);
      leads = same;
      left = let (after, leads) = c.requires in (after, subst (λ t. LeadsBy (joined_steps (step_lists c.args.edits.now)) t after) same leads);
    }

pub made_by_steps-requires : goal.made_by_steps-requires
made_by_steps-requires c = edit_leads c.args.edits.now c.loop-steps.steps-index c.steps-item.result c.loop-steps-test.true c.steps-item.is c.loop-steps.here c.loop-steps.invariant.left

pub returns-in_default-clause-made : goal.returns-in_default-clause-made
returns-in_default-clause-made c =
    let edits = c.args.edits.now in
    let i = c.loop-steps.steps-index in
    let one = c.steps-item.result in
    let text = c.args.text.now in
    let here = c.loop-steps.here in
    let first = joined_steps (step_lists (take i edits)) in
    let none : (first : List EditStep) (start : List ℕ) → LeadsBy first start here → MakeNothing (first ++ one.now) start =
    MatchOption-at_none ((first : List EditStep) (start : List ℕ) → LeadsBy first start here → MakeNothing (first ++ one.now) start)
    (λ all. LeadsBy one.now here c.made_by_steps.new.text × ((first : List EditStep) (start : List ℕ) (own : PlacedText) → IsPlaced start own → LeadsBy first start here
    → AreMadeBySteps first start own here c.loop-steps.made.items → AreMadeBySteps (first ++ one.now) start own c.made_by_steps.new.text all.items)) c.in_default.is c.in_ok-by_edit.ensures.made in
    subst (λ s. MakeNothing s text) (sym (all_edits edits i one c.loop-steps-test.true c.steps-item.is))
    (nothing_longer (first ++ one.now) (joined_steps (step_lists (drop (i + 1) edits))) text (none first text c.loop-steps.invariant.leads))

pub loop-steps-preserved : goal.loop-steps-preserved
loop-steps-preserved c =
    let edits = c.args.edits.now in
    let i = c.loop-steps.steps-index in
    let one = c.steps-item.result in
    let text = c.args.text.now in
    let here = c.loop-steps.here in
    let next = c.made_by_steps.new.text in
    let made = c.in-Some.by_edit.items in
    let first = joined_steps (step_lists (take i edits)) in
    let (leads, all) =
    MatchOption-at_some ((first : List EditStep) (start : List ℕ) → LeadsBy first start here → MakeNothing (first ++ one.now) start)
    (λ all. LeadsBy one.now here next × ((first : List EditStep) (start : List ℕ) (own : PlacedText) → IsPlaced start own → LeadsBy first start here
    → AreMadeBySteps first start own here c.loop-steps.made.items → AreMadeBySteps (first ++ one.now) start own next all.items)) c.in-Some.by_edit c.in-Some.is c.in_ok-by_edit.ensures.made in
    let so_far = edits_so_far edits i one c.loop-steps-test.true c.steps-item.is in
    record {
      made = λ own is lengths.
          subst (λ s. AreMadeBySteps s text own next made) (sym so_far) (all first text own is c.loop-steps.invariant.leads (c.loop-steps.invariant.made own is lengths));
      leads = subst (λ s. LeadsBy s text next) (sym so_far) (leads_join first one.now text here next c.loop-steps.invariant.leads leads);
      left = rest_leads edits i one c.loop-steps-test.true c.steps-item.is here next leads c.loop-steps.invariant.left;
    }

pub returns-clause-made : goal.returns-clause-made
returns-clause-made c = λ own after is lengths leads.
    let edits = c.args.edits.now in
    let i = c.loop-steps.steps-index in
    let text = c.args.text.now in
    let here = c.loop-steps.here in
    let made = c.loop-steps.made.items in
    let all : take i edits ≡ edits = take_all i edits c.loop-steps-test.false in
    let so_far : LeadsBy (joined_steps (step_lists edits)) text here = subst (λ l. LeadsBy (joined_steps (step_lists l)) text here) all c.loop-steps.invariant.leads in
    let ends : here ≡ after = one_end (joined_steps (step_lists edits)) text here after so_far leads in
    subst (λ t. AreMadeBySteps (joined_steps (step_lists edits)) text own t made) ends
    (subst (λ l. AreMadeBySteps (joined_steps (step_lists l)) text own here made) all (c.loop-steps.invariant.made own is lengths))
