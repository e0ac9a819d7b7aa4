use Rattle.rec_diff.proofs.lemmas.ChangeLemmas.{hunks_splice}
use Rattle.rec_diff.proofs.laws.hunks_splice.Goals as goal

pub returns : goal.returns
returns c = hunks_splice
