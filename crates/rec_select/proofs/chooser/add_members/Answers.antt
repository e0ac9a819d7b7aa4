use Rattle.std.proofs.Common.{◌≡◌, ◌∙◌, ◌-◌, ◌<◌, ◌^◌, ap, inl, length, arith, refl, subst, sym}
use Rattle.std.specs.Prelude.{◌↔◌, IsTrue}
use Rattle.std.proofs.lemmas.Bool.{false≢true}
use Rattle.rec_text.specs.Records.{AreRecords, elements_in}
use Rattle.rec_select.specs.Selection.{Passes}
use Rattle.rec_select.specs.proving.Filters.{stands_for}
use Rattle.rec_select.proofs.lemmas.selection.SelectionLemmas.{IsChosenUpTo, none_chosen, countable, passes_as, one_passed, one_taken, all_chosen}
use Rattle.rec_select.proofs.chooser.add_members.Goals as goal
use Rattle.rec_select.proofs.chooser.add_members.Goals.{After-into_iter-index-iterator, In_ok-passes}

few : (c : After-into_iter-index-iterator) → length c.args.file.now.pieces < 2 ^ 64
few c = omega (arith, c.of-text.ensures.countable, ap length (c.of-text.ensures.elements ∙ c.database-database.ensures.elements))

start : (c : After-into_iter-index-iterator)
    → IsChosenUpTo c.args.file.now.pieces c.args.set.now.members (stands_for c.args.filter.now)
    c.into_iter-index-iterator.result.iter.count c.into_iter-index-iterator.result.iter.iter c.args.selected.now.items
start c =
    let taken = ap (λ i. i.iter) c.into_iter-index-iterator.ensures.into_iter_gives ∙ c.take-index-items.ensures.source in
    none_chosen _ _ _ c.records.result _ _ _ (subst (λ pieces. AreRecords pieces c.records.result) c.database-database.ensures.elements c.records.ensures) (ap (λ i. i.count) taken
    ∙ c.enumerate.ensures.count) (ap (λ i. i.iter) taken ∙ c.enumerate.ensures.source) c.requires.none

passes : (c : In_ok-passes)
    → IsTrue c.in_ok-passes.field-0 ↔ Passes (stands_for c.args.filter.now) (elements_in c.args.file.now.pieces c.in-Some.record) (c.in-Some.index - c.args.set.now.members.start)
passes c =
    passes_as _ _ _ _ _ _ c.in-Some.record _ c.loop-index.invariant.so_far c.in-Some.ensures.steps.0.0 c.of-text.result _ _ _ _
    (c.of-text.ensures.elements ∙ c.database-database.ensures.elements) c.part-fields.ensures c.loop-index.invariant.same c.in_ok-passes.ensures.passes

pub loop-index-init-derived : goal.loop-index-init-derived
loop-index-init-derived c = ((tt, tt, inl (countable _ _ _ _ _ _ (2 ^ 64) (start c) (few c))), tt)

pub loop-index-init : goal.loop-index-init
loop-index-init c =
    let given = c.into_iter-index-iterator.ensures.into_iter_gives in
    let taken = ap (λ i. i.iter) given ∙ c.take-index-items.ensures.source in
    record {
      can = (tt, tt, inl (countable _ _ _ _ _ _ (2 ^ 64) (start c) (few c)));
      finite = tt;
      same = refl;
      so_far = start c;
      ends = omega (arith, ap (λ i. i.count) taken ∙ c.enumerate.ensures.count, ap (λ i. i.n) given ∙ c.take-index-items.ensures.count);
    }

pub loop-index-preserved-in-Continue-branch-2 : goal.loop-index-preserved-in-Continue-branch-2
loop-index-preserved-in-Continue-branch-2 c =
    let at = goal.at.loop-index-preserved-in-Continue-branch-2 c in
    let steps = c.in-Some.ensures.steps in
    let so_far = one_taken _ _ _ _ _ _ c.in-Some.record _ c.loop-index.invariant.so_far steps.0.0 c.in-Some.index _ steps.0.1 steps.0.2 _
    (c.if-index-members.true, omega (arith, steps.0.1, steps.1, c.loop-index.invariant.ends), (passes at.In_ok-passes).0 c.if-branch.true) c.in_ok-push.ensures.items in
    record {
      can = (tt, tt, inl (countable _ _ _ _ _ _ (2 ^ 64) so_far (few at.After-into_iter-index-iterator)));
      finite = tt;
      same = c.passes.ensures.same ∙ c.loop-index.invariant.same;
      so_far = so_far;
      ends = omega (arith, steps.0.2, steps.1, c.loop-index.invariant.ends);
    }

pub loop-index-preserved-else-branch : goal.loop-index-preserved-else-branch
loop-index-preserved-else-branch c =
    let at = goal.at.loop-index-preserved-else-branch c in
    let steps = c.in-Some.ensures.steps in
    let so_far = one_passed _ _ _ _ _ _ c.in-Some.record _ c.loop-index.invariant.so_far steps.0.0 c.in-Some.index _ steps.0.1 steps.0.2
    (λ taken. absurd (false≢true (sym c.if-branch.false ∙ (passes at.In_ok-passes).1 taken.2))) in
    record {
      can = (tt, tt, inl (countable _ _ _ _ _ _ (2 ^ 64) so_far (few at.After-into_iter-index-iterator)));
      finite = tt;
      same = c.passes.ensures.same ∙ c.loop-index.invariant.same;
      so_far = so_far;
      ends = omega (arith, steps.0.2, steps.1, c.loop-index.invariant.ends);
    }

pub loop-index-preserved : goal.loop-index-preserved
loop-index-preserved c =
    let at = goal.at.loop-index-preserved c in
    let steps = c.in-Some.ensures.steps in
    let so_far = one_passed _ _ _ _ _ _ c.in-Some.record _ c.loop-index.invariant.so_far steps.0.0 c.in-Some.index _ steps.0.1 steps.0.2
    (λ taken. absurd (omega (arith, taken.0, c.if-index-members.false))) in
    record {
      can = (tt, tt, inl (countable _ _ _ _ _ _ (2 ^ 64) so_far (few at.After-into_iter-index-iterator)));
      finite = tt;
      same = c.loop-index.invariant.same;
      so_far = so_far;
      ends = omega (arith, steps.0.2, steps.1, c.loop-index.invariant.ends);
    }

pub returns-clause-selected : goal.returns-clause-selected
returns-clause-selected c =
    all_chosen _ _ _ c.args.set.now _ _ _ _ c.loop-index.invariant.so_far refl c.requires.within c.loop-index.invariant.ends
    (λ more. (c.in-None.ensures.steps more).0.0)
