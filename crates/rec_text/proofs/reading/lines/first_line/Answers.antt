use Rattle.std.proofs.Common.{sym}
use Rattle.rec_text.proofs.lemmas.elements.FromLineLemmas.{first_line-whole, first_line-cut}
use Rattle.rec_text.proofs.reading.lines.first_line.Goals as goal

pub returns-in-Some : goal.returns-in-Some
returns-in-Some c = sym (first_line-cut _ _ _ c.in-Some.ensures)

pub returns-in-None : goal.returns-in-None
returns-in-None c = sym (first_line-whole _ c.in-None.ensures)
