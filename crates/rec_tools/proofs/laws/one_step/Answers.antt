use Rattle.rec_tools.proofs.lemmas.machine.MachineLemmas as lemma
use Rattle.rec_tools.proofs.laws.one_step.Goals as goal

pub returns : goal.returns
returns c = lemma.one_step
