use Rattle.std.proofs.Common.{◌-◌, length}
use Rattle.rec_diff.specs.proving.Making.{ArePassed}
use Rattle.rec_diff.specs.proving.Reading.{placed_of}
use Rattle.rec_diff.proofs.reverting.making.pass.Given as goal

abbrev pub invariant-loop-element : goal.invariant-loop-element
invariant-loop-element l = ArePassed (placed_of l.reading) l.index l.at

abbrev pub decreases-loop-element : goal.decreases-loop-element
decreases-loop-element l = length (placed_of l.reading).elements - l.index
