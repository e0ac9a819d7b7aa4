use Rattle.rec_diff.proofs.lemmas.LineLemmas.{open_none, open_some}
use Rattle.rec_diff.proofs.lines.open_start.Goals as goal

pub returns-in-Some : goal.returns-in-Some
returns-in-Some c = open_some c.args.text.now _ c.in-Some.ensures

pub returns-in-None : goal.returns-in-None
returns-in-None c = open_none c.args.text.now c.in-None.ensures
