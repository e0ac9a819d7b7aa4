use Rattle.rec_check.proofs.lemmas.laws.SameDescriptorLemmas as lemma
use Rattle.rec_check.proofs.laws.new_descriptor.Goals as goal

pub returns : goal.returns
returns c = lemma.new_descriptor
