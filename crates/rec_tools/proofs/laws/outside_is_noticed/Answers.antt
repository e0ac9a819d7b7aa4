use Rattle.rec_tools.proofs.lemmas.runs.OutsideLemmas as lemma
use Rattle.rec_tools.proofs.laws.outside_is_noticed.Goals as goal

pub returns : goal.returns
returns c = lemma.outside_is_noticed
