use Rattle.rec_diff.proofs.lemmas.composing.LeadingLemmas as leading
use Rattle.rec_diff.proofs.laws.composes_splices.Goals as goal

pub returns : goal.returns
returns c = leading.composes_splices
