use Rattle.rec_diff.proofs.lemmas.comparing.RankLemmas.{IsRankedAfter}
use Rattle.rec_diff.proofs.comparing.choosing.ranked.Given as goal

abbrev pub invariant-loop-mark : goal.invariant-loop-mark
invariant-loop-mark l = IsRankedAfter l.marks l.mark-iterator.iter.rest.now l.ranking
