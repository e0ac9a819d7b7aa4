use Rattle.std.proofs.Common.{drop}
use Rattle.rec_diff.proofs.lemmas.comparing.RankLemmas.{AreChosen}
use Rattle.rec_diff.proofs.comparing.choosing.longest.Given as goal

abbrev pub invariant-loop-mark : goal.invariant-loop-mark
invariant-loop-mark l = AreChosen l.marks l.chosen.items (drop l.mark-index l.marks) l.left l.ranks.items
