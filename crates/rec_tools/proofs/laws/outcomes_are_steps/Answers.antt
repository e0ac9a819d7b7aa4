use Rattle.rec_tools.proofs.lemmas.machine.StepLemmas as lemma
use Rattle.rec_tools.proofs.laws.outcomes_are_steps.Goals as goal

pub returns : goal.returns
returns c = lemma.of_requests
