use Rattle.rec_diff.proofs.lemmas.reverting.RevertLemmas as lemma
use Rattle.rec_diff.proofs.reverting.one_revert.Goals as goal

pub returns : goal.returns
returns c = lemma.one_revert
