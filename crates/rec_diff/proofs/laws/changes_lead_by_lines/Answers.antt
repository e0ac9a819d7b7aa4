use Rattle.rec_diff.proofs.lemmas.WholeLineLemmas.{changes_lead_by_lines}
use Rattle.rec_diff.proofs.laws.changes_lead_by_lines.Goals as goal

pub returns : goal.returns
returns c = changes_lead_by_lines
