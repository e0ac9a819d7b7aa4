use Rattle.rec_tools.proofs.lemmas.outcomes.OutcomeLemmas as lemma
use Rattle.rec_tools.proofs.laws.one_outcome.Goals as goal

pub returns : goal.returns
returns c = lemma.one_outcome
