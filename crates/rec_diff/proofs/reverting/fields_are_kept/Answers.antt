use Rattle.rec_diff.proofs.lemmas.reverting.FieldLemmas as lemma
use Rattle.rec_diff.proofs.reverting.fields_are_kept.Goals as goal

pub returns : goal.returns
returns c = lemma.fields_are_kept
