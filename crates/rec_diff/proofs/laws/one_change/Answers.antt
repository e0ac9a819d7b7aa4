use Rattle.rec_diff.proofs.lemmas.CutLemmas.{one_change}
use Rattle.rec_diff.proofs.laws.one_change.Goals as goal

pub returns : goal.returns
returns c = one_change
