use Rattle.rec_diff.proofs.lemmas.reverting.NewestLemmas as lemma
use Rattle.rec_diff.proofs.reverting.newest_reverts.Goals as goal

pub returns : goal.returns
returns c = lemma.newest_reverts
