use Rattle.rec_tools.proofs.lemmas.runs.StopLemmas as lemma
use Rattle.rec_tools.proofs.laws.stops_are_steps.Goals as goal

pub returns-clause-stops : goal.returns-clause-stops
returns-clause-stops c = lemma.stops_are_steps

pub returns-clause-writes : goal.returns-clause-writes
returns-clause-writes c = lemma.writes_are_regular
