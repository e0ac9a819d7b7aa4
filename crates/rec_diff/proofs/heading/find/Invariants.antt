use Rattle.std.proofs.Common.{length}
use Rattle.rec_diff.proofs.lemmas.HeadingLemmas.{HasFound}
use Rattle.rec_diff.proofs.heading.find.Given as goal

abbrev pub invariant-loop-line : goal.invariant-loop-line
invariant-loop-line l = HasFound l.found l.text l.field l.rest

abbrev pub decreases-loop-line : goal.decreases-loop-line
decreases-loop-line l = length l.rest
