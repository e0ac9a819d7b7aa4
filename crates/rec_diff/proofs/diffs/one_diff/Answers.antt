use Rattle.rec_diff.proofs.lemmas.DiffLemmas as lemma
use Rattle.rec_diff.proofs.diffs.one_diff.Goals as goal

pub returns : goal.returns
returns c = lemma.one_diff
