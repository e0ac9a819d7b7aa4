use Rattle.rec_tools.proofs.lemmas.runs.BackLemmas as lemma
use Rattle.rec_tools.proofs.laws.moves_bring_back.Goals as goal

pub returns-clause-undo : goal.returns-clause-undo
returns-clause-undo c = lemma.undo_brings_back

pub returns-clause-redo : goal.returns-clause-redo
returns-clause-redo c = lemma.redo_brings_back
