use Rattle.rec_check.proofs.lemmas.laws.SameLemmas as lemma
use Rattle.rec_check.proofs.laws.one_schema.Goals as goal

pub returns : goal.returns
returns c = lemma.one_schema
