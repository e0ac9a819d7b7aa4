use Rattle.std.proofs.Common.{◌∙◌, ap, subst}
use Rattle.rec_diff.specs.proving.Keeping.{AreAfter, is_out_by}
use Rattle.rec_diff.proofs.lemmas.reverting.TogetherLemmas.{passed_tells}
use Rattle.rec_diff.proofs.reverting.keeping.gone.turns_after.Goals as goal

pub loop-turn-preserved : goal.loop-turn-preserved
loop-turn-preserved c =
    let inv = c.loop-turn.invariant in
    let turn = c.in-Some.turn.now in
    let rest = c.in-Some.rest.now in
    let are = c.in-Some.ensures.cases.0 in
    record {
      order = let (least, order) = inv.order in (turn.end.old, (subst (AreAfter least) are order).2);
      same = λ x low some. inv.same x low some ∙ (ap (λ l. is_out_by l x) are ∙ passed_tells turn rest x c.args.at c.if-turn-at.false low some);
    }
