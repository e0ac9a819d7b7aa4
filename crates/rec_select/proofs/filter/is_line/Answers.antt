use Rattle.rec_select.proofs.lemmas.selection.OneLineLemmas.{one_line_found, one_line_unfound}
use Rattle.rec_select.proofs.filter.is_line.Goals as goal

pub returns-in-Some : goal.returns-in-Some
returns-in-Some c = one_line_found c.args.text.now c.in-Some.at c.in-Some.ensures

pub returns-in-None : goal.returns-in-None
returns-in-None c = one_line_unfound c.args.text.now c.in-None.ensures
