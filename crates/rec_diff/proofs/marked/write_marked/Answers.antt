use Rattle.rec_select.proofs.lemmas.printing.PutsLemmas.{Prints-append}
use Rattle.rec_diff.proofs.marked.write_marked.Goals as goal

pub returns-clause-printed : goal.returns-clause-printed
returns-clause-printed g c = Prints-append c.in_ok-write_lines.ensures.printed _ _ c.write_ending.result c.write_ending.ensures.printed
