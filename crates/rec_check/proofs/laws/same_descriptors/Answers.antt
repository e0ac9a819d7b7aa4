use Rattle.rec_check.proofs.lemmas.laws.SameDescriptorLemmas as lemma
use Rattle.rec_check.proofs.laws.same_descriptors.Goals as goal

pub returns : goal.returns
returns c = lemma.same_descriptors
