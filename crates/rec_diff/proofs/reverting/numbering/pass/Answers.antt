use Rattle.std.proofs.Common.{◌∙◌, subst}
use Rattle.rec_diff.specs.proving.Weaving.{AreInStep}
use Rattle.rec_diff.proofs.lemmas.reverting.NumberLemmas.{passes_turn}
use Rattle.rec_diff.proofs.reverting.numbering.pass.Goals as goal

pub loop-turn-preserved : goal.loop-turn-preserved
loop-turn-preserved c =
    let inv = c.loop-turn.invariant in
    let place = c.loop-turn.next.place in
    let turn = c.in-Some.turn.now in
    let rest = c.in-Some.rest.now in
    let are = c.in-Some.ensures.cases.0 in
    record {
      past = λ later size fits. inv.past later size fits ∙ passes_turn place c.loop-turn.next.turns.now rest turn c.args.at later size are c.if-turn-at.false fits;
      in_step = (subst (AreInStep c.args.last place) are inv.in_step).4;
      reached = c.if-turn-at.false;
    }
