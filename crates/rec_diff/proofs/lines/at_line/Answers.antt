use Rattle.std.proofs.Common.{sym, ap, ◌∙◌}
use Rattle.rec_diff.specs.Lines.{at_line}
use Rattle.rec_diff.proofs.lemmas.LineLemmas.{at_line-last}
use Rattle.rec_diff.proofs.lines.at_line.Goals as goal

pub returns-in-Some : goal.returns-in-Some
returns-in-Some c = sym (ap at_line c.in-Some.ensures.cases.0 ∙ at_line-last c.in-Some.field-0-1.now c.in-Some.last.now)
