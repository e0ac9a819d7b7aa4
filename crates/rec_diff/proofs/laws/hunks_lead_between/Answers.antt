use Rattle.rec_diff.proofs.lemmas.comparing.LeadingLemmas.{hunks_lead_between}
use Rattle.rec_diff.proofs.laws.hunks_lead_between.Goals as goal

pub returns : goal.returns
returns c = hunks_lead_between
