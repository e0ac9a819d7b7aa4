use Rattle.std.proofs.Common.{◌∙◌, ◌+◌, arith, sym, subst}
use Rattle.std.proofs.lemmas.Option.{none-some}
use Rattle.rec_diff.specs.proving.Making.{IsAmongThese}
use Rattle.rec_diff.specs.proving.Reading.{placed, placed_of}
use Rattle.rec_diff.proofs.lemmas.reverting.AmongLemmas.{among_more, begins_more, element_at, no_element}
use Rattle.rec_diff.proofs.reverting.making.among_from.Goals as goal

pub loop-element-preserved : goal.loop-element-preserved
loop-element-preserved c =
    let r = c.args.reading.now in
    let e = c.in-Some.element.now in
    let i = c.loop-element.index in
    let at = element_at r c.elements.result.now i e c.elements.ensures.elements c.in-Some.ensures.lookup.3.0 c.in-Some.ensures.lookup.1 in
    let low = c.loop-element.invariant.low in
    record {
      low = omega arith;
      before = begins_more (placed_of r) c.args.first i c.args.end (placed e) at (omega arith) c.loop-element.invariant.before;
      these =
          subst (IsAmongThese (placed_of r) c.args.first (i + 1)) (sym c.with-among.ensures)
          (among_more (placed_of r) c.args.first i (placed e) c.loop-element.among c.owner_of.result low at c.owner_of.ensures c.loop-element.invariant.these);
    }

pub returns : goal.returns
returns c =
    let r = c.args.reading.now in
    let none = no_element r c.elements.result.now c.loop-element.index c.elements.ensures.elements c.in_default.ensures.lookup.3 in
    record {
      to = c.loop-element.index;
      before = c.loop-element.invariant.before;
      next = λ x there. absurd (none-some x (sym none ∙ there));
      these = c.loop-element.invariant.these;
    }
