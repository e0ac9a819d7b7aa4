use Rattle.rec_edit.proofs.lemmas.outcomes.EditLemmas as lemma
use Rattle.rec_edit.proofs.laws.hunks_are_changes.Goals as goal

pub returns : goal.returns
returns c = lemma.hunks_are_changes
