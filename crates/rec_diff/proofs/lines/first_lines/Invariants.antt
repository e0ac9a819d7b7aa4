use Rattle.rec_diff.proofs.lemmas.ContextLemmas.{ArePassed}
use Rattle.rec_diff.proofs.lines.first_lines.Given as goal

abbrev pub invariant-loop : goal.invariant-loop
invariant-loop l = ArePassed l.counter l.text l.rest
