use Rattle.rec_diff.proofs.lemmas.reverting.RevertLemmas as lemma
use Rattle.rec_diff.proofs.reverting.reverts_leave_the_rest.Goals as goal

pub returns : goal.returns
returns c = lemma.reverts_leave_the_rest
