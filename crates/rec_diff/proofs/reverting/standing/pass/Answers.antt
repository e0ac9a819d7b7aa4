use Rattle.std.proofs.Common.{◌≡◌, ◌∙◌, Some, None, true, false, ap, sym, subst}
use Rattle.rec_diff.specs.proving.Weaving.{AreInStep, turn_order, turns_past}
use Rattle.rec_diff.proofs.lemmas.reverting.StandingLemmas.{after_tells, before_tells, fits_before, fits_end, meets_one, no_turns, passes, passes_one, stops_before}
use Rattle.rec_diff.proofs.reverting.standing.pass.Goals as goal

pub returns-in_err-comes_before : goal.returns-in_err-comes_before
returns-in_err-comes_before c =
    let inv = c.loop-other.invariant in
    let turn = c.args.turn in
    let other = c.in-Some.other.now in
    let others = c.in-Some.rest.now in
    let order : turn_order turn other ≡ None = sym c.comes_before.ensures ∙ c.in_err-comes_before.was in
    rw c.from_residual.ensures
    (λ rest.
    inv.past rest ∙ ap (λ ts. turns_past turn rest ts c.loop-other.next.place) c.in-Some.ensures.cases.0 ∙ meets_one turn other others c.loop-other.next.place rest order)

pub returns-then-not-branch : goal.returns-then-not-branch
returns-then-not-branch c =
    let inv = c.loop-other.invariant in
    let r = c.requires in
    let turn = c.args.turn in
    let other = c.in-Some.other.now in
    let others = c.in-Some.rest.now in
    let place = c.loop-other.next.place in
    let are = c.in-Some.ensures.cases.0 in
    let order : turn_order turn other ≡ Some false = sym c.comes_before.ensures ∙ c.in_ok-comes_before.was ∙ ap Some c.if-not-branch.true in
    passes c.args.last turn c.args.ahead c.loop-other.next
    (λ rest.
    inv.past rest ∙ ap (λ ts. turns_past turn rest ts place) are ∙ stops_before turn other others place rest order ∙ ap (λ ts. rest ts place) (sym are))
    inv.in_step inv.reached
    (fits_before c.args.last place turn other others (subst (AreInStep c.args.last place) are inv.in_step) r.order (after_tells turn other order))

pub loop-other-preserved : goal.loop-other-preserved
loop-other-preserved c =
    let inv = c.loop-other.invariant in
    let turn = c.args.turn in
    let other = c.in-Some.other.now in
    let others = c.in-Some.rest.now in
    let place = c.loop-other.next.place in
    let are = c.in-Some.ensures.cases.0 in
    let order : turn_order turn other ≡ Some true = sym c.comes_before.ensures ∙ c.in_ok-comes_before.was ∙ ap Some c.if-not-branch.false in
    record {
      past = λ rest. inv.past rest ∙ ap (λ ts. turns_past turn rest ts place) are ∙ passes_one turn other others place rest order;
      in_step = (subst (AreInStep c.args.last place) are inv.in_step).4;
      reached = before_tells turn other order;
    }

pub returns : goal.returns
returns c =
    let inv = c.loop-other.invariant in
    let r = c.requires in
    let turn = c.args.turn in
    let place = c.loop-other.next.place in
    let none = no_turns c.loop-other.next.turns.now c.in_default.ensures.cases in
    passes c.args.last turn c.args.ahead c.loop-other.next
    (λ rest.
    inv.past rest ∙ ap (λ ts. turns_past turn rest ts place) none ∙ ap (λ ts. rest ts place) (sym none))
    inv.in_step inv.reached
    (fits_end c.args.last place turn (subst (AreInStep c.args.last place) none inv.in_step) r.order r.within)
