use Rattle.std.proofs.Common.{arith}
use Rattle.rec_diff.proofs.lemmas.ContextLemmas.{ArePassed-none, ArePassed-more, ArePassed-all}
use Rattle.rec_diff.proofs.lines.first_lines.Goals as goal

pub loop-init : goal.loop-init
loop-init c = ArePassed-none c.args.text.now

pub loop-preserved : goal.loop-preserved
loop-preserved c = ArePassed-more _ _ c.loop.invariant c.in-Some.ensures

pub returns-in-None : goal.returns-in-None
returns-in-None c = ArePassed-all c.args.count c.loop.invariant c.in-None.ensures (omega arith)
