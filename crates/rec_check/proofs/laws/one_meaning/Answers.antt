use Rattle.rec_check.proofs.lemmas.field_types.MeaningLemmas as lemma
use Rattle.rec_check.proofs.laws.one_meaning.Goals as goal

pub returns : goal.returns
returns c = lemma.one_meaning
