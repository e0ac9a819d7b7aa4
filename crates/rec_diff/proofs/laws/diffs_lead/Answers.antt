use Rattle.rec_diff.proofs.lemmas.PatchedLemmas.{diffs_lead}
use Rattle.rec_diff.proofs.laws.diffs_lead.Goals as goal

pub returns : goal.returns
returns c = diffs_lead
