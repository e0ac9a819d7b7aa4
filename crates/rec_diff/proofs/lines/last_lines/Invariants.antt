use Rattle.rec_diff.proofs.lemmas.ContextLemmas.{ArePassedBack}
use Rattle.rec_diff.proofs.lines.last_lines.Given as goal

abbrev pub invariant-loop : goal.invariant-loop
invariant-loop l = ArePassedBack l.counter l.text l.rest
