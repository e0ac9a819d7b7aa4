use Rattle.rec_tools.proofs.lemmas.runs.ShowAfterLemmas as lemma
use Rattle.rec_tools.proofs.laws.preview_is_show_after.Goals as goal

pub returns : goal.returns
returns c = lemma.preview_is_show_after
