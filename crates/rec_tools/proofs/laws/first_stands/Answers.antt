use Rattle.rec_tools.proofs.lemmas.machine.StandsLemmas as lemma
use Rattle.rec_tools.proofs.laws.first_stands.Goals as goal

pub returns-clause-stands : goal.returns-clause-stands
returns-clause-stands c = lemma.first_stands

pub returns-clause-regular : goal.returns-clause-regular
returns-clause-regular c = lemma.empty_is_regular
