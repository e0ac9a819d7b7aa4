use Rattle.std.proofs.Common.{arith}
use Rattle.rec_check.proofs.lemmas.field_types.ResolvedLemmas.{closed_more, closed_past}
use Rattle.rec_check.proofs.field_types.resolution.resolve_all.Goals as goal

pub loop-start-preserved : goal.loop-start-preserved
loop-start-preserved c = record {
  right = λ definitions are. c.in_ok-resolve.ensures.right definitions (c.loop-start.invariant.right definitions are);
  settled = closed_more c.loop-start.meanings c.resolve.new.meanings c.loop-start.start c.loop-start.invariant.settled c.in_ok-resolve.ensures.settled c.in_ok-resolve.ensures.start;
}

pub returns-clause-settled : goal.returns-clause-settled
returns-clause-settled c = closed_past c.loop-start.meanings c.loop-start.start c.loop-start.invariant.settled (let same = c.loop-start.auto.meanings in omega arith)
