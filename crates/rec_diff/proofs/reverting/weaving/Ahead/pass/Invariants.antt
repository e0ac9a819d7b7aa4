use Rattle.std.proofs.Common.{◌≡◌, length}
use Rattle.rec_diff.specs.proving.Moved.{ahead_of}
use Rattle.rec_diff.specs.proving.Moving.{passed}
use Rattle.rec_diff.proofs.reverting.weaving.Ahead.pass.Given as goal

-- those that were passed come before
abbrev pub invariant-loop-turn : goal.invariant-loop-turn
invariant-loop-turn l = passed l.other (ahead_of l.ahead) ≡ passed l.other (ahead_of l.fn.self)

abbrev pub decreases-loop-turn : goal.decreases-loop-turn
decreases-loop-turn l = length l.ahead.change.now
