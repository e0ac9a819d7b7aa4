use Rattle.rec_tools.proofs.lemmas.runs.LeadingLemmas as lemma
use Rattle.rec_tools.proofs.laws.moves_lead_there.Goals as goal

pub returns : goal.returns
returns c = lemma.moves_lead_there
