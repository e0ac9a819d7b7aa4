use Rattle.rec_diff.proofs.lemmas.composing.HunkLemmas as hunk
use Rattle.rec_diff.proofs.laws.composes_itself.Goals as goal

pub returns : goal.returns
returns c = hunk.composes_itself
