use Rattle.std.proofs.Common.{◌∙◌, ◌+◌, ◌<◌, length, subst, sym}
use Rattle.std.proofs.lemmas.Option.{none-some}
use Rattle.rec_diff.specs.Placed.{size}
use Rattle.rec_diff.specs.proving.Reading.{placed, placed_of}
use Rattle.rec_diff.proofs.lemmas.reverting.AmongLemmas.{element_at, no_element, not_by, passed_more}
use Rattle.rec_diff.proofs.lemmas.reverting.ListLemmas.{one_at}
use Rattle.rec_diff.proofs.reverting.making.pass.Goals as goal

pub returns-then-not-ends_by-clause-next : goal.returns-then-not-ends_by-clause-next
returns-then-not-ends_by-clause-next c = λ x at.
    let r = c.args.reading.now in
    let e = c.in-Some.element.now in
    let is = element_at r c.elements.result.now c.loop-element.index e c.elements.ensures.elements c.in-Some.ensures.lookup.3.0 c.in-Some.ensures.lookup.1 in
    subst (λ y. c.args.at < y.at + size y) (one_at (placed_of r).elements c.loop-element.index (placed e) x is at)
    (not_by c.ends_by.result (e.at + length e.raw.now) c.args.at c.ends_by.ensures c.if-not-ends_by.true)

pub loop-element-preserved : goal.loop-element-preserved
loop-element-preserved c =
    let r = c.args.reading.now in
    let e = c.in-Some.element.now in
    passed_more (placed_of r) c.loop-element.index c.args.at (placed e)
    (element_at r c.elements.result.now c.loop-element.index e c.elements.ensures.elements c.in-Some.ensures.lookup.3.0 c.in-Some.ensures.lookup.1) (c.ends_by.ensures.0 c.if-not-ends_by.false)
    c.loop-element.invariant

pub returns-clause-next : goal.returns-clause-next
returns-clause-next c = λ x at.
    absurd (none-some x (sym (no_element c.args.reading.now c.elements.result.now c.loop-element.index c.elements.ensures.elements c.in_default.ensures.lookup.3) ∙ at))
