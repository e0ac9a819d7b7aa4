use Rattle.rec_select.proofs.lemmas.printing.PutsLemmas.{Prints-stopped}
use Rattle.rec_tools.proofs.lemmas.printing.ListedLemmas.{next_taken, next_stopped}
use Rattle.rec_tools.proofs.history.write_steps.Goals as goal

pub loop-step-preserved : goal.loop-step-preserved
loop-step-preserved g c = next_taken _ _ _ c.loop-step.invariant c.in-Some.ensures.steps c.in_ok-write_step.ensures.printed

pub returns-in_err-write_step-clause-printed : goal.returns-in_err-write_step-clause-printed
returns-in_err-write_step-clause-printed g c =
    Prints-stopped c.from_residual.result c.from_residual.ensures.1 (next_stopped _ _ _ c.loop-step.invariant c.in-Some.ensures.steps c.in_err-write_step.ensures.printed)
