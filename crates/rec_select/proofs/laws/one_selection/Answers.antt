use Rattle.rec_select.proofs.lemmas.selection.SelectionLemmas as lemma
use Rattle.rec_select.proofs.laws.one_selection.Goals as goal

pub returns : goal.returns
returns c = lemma.one_selection
