use Rattle.rec_edit.proofs.lemmas.outcomes.OneOutcomeLemmas as lemma
use Rattle.rec_edit.proofs.laws.edits_have_one_outcome.Goals as goal

pub returns : goal.returns
returns c = lemma.edits_have_one_outcome
