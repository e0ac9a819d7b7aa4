use Rattle.rec_diff.proofs.lemmas.composing.LeadingLemmas as leading
use Rattle.rec_diff.proofs.laws.one_composition.Goals as goal

pub returns : goal.returns
returns c = leading.one_composition
