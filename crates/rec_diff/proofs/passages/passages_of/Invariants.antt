use Rattle.rec_diff.proofs.lemmas.PassageLemmas.{IsGrouped}
use Rattle.rec_diff.proofs.passages.passages_of.Given as goal

abbrev pub invariant-loop-index : goal.invariant-loop-index
invariant-loop-index l =
    IsGrouped l.texts.before.now l.texts.after.now l.context l.turns l.passages.items l.start l.first l.end l.index
