use Rattle.std.proofs.Common.{length}
use Rattle.rec_diff.proofs.lemmas.comparing.LandmarkLemmas.{AreRead}
use Rattle.rec_diff.proofs.comparing.landmarks.lines_of.Given as goal

abbrev pub invariant-loop-line : goal.invariant-loop-line
invariant-loop-line l = AreRead l.text l.lines.items l.rest

abbrev pub decreases-loop-line : goal.decreases-loop-line
decreases-loop-line l = length l.rest
