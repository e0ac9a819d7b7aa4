use Rattle.rec_select.proofs.lemmas.printing.PutsLemmas.{Prints-append}
use Rattle.rec_diff.proofs.printing.write_both.Goals as goal

pub returns-clause-printed : goal.returns-clause-printed
returns-clause-printed g c = Prints-append c.in_ok-write_marked.ensures.printed _ _ c.write_marked-2.result c.write_marked-2.ensures.printed
