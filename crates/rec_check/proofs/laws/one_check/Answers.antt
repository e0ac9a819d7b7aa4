use Rattle.rec_check.proofs.lemmas.laws.CheckLemmas as lemma
use Rattle.rec_check.proofs.laws.one_check.Goals as goal

pub returns : goal.returns
returns c = lemma.one_check
