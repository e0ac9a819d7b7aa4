use Rattle.rec_tools.proofs.lemmas.machine.StandsLemmas as lemma
use Rattle.rec_tools.proofs.laws.one_state.Goals as goal

pub returns : goal.returns
returns c = lemma.one_state
