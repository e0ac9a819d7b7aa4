use Rattle.rec_diff.proofs.lemmas.PatchedLemmas.{one_text_after}
use Rattle.rec_diff.proofs.laws.one_text_after.Goals as goal

pub returns : goal.returns
returns c = one_text_after
