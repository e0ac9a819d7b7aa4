use Rattle.std.proofs.Common.{arith}
use Rattle.rec_diff.proofs.lemmas.ContextLemmas.{ArePassedBack-none, ArePassedBack-more, ArePassedBack-all}
use Rattle.rec_diff.proofs.lines.last_lines.Goals as goal

pub loop-init : goal.loop-init
loop-init c = ArePassedBack-none c.args.text.now

pub loop-preserved : goal.loop-preserved
loop-preserved c = ArePassedBack-more _ _ c.loop.invariant c.in-Some.ensures

pub returns-in-None : goal.returns-in-None
returns-in-None c = ArePassedBack-all c.args.count c.loop.invariant c.in-None.ensures (omega arith)
