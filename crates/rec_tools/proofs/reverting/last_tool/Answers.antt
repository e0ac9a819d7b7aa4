use Rattle.rec_tools.proofs.lemmas.outcomes.LeftLemmas.{last-some}
use Rattle.rec_tools.proofs.reverting.last_tool.Goals as goal

pub returns-in-Some : goal.returns-in-Some
returns-in-Some c = last-some c.args.tool c.args.steps.now c.in-Some.step.now (rw c.in-Some.is at c.last.ensures.value)
