use Rattle.std.proofs.Common.{length}
use Rattle.rec_diff.proofs.composing.+runs_of_all.Given as goal

abbrev pub decreases-runs_of_all : goal.decreases-runs_of_all
decreases-runs_of_all l = length l.steps.now
