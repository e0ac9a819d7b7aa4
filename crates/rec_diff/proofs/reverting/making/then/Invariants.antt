use Rattle.std.proofs.Common.{◌≡◌, map, take}
use Rattle.rec_diff.specs.proving.Making.{made_at}
use Rattle.rec_diff.proofs.reverting.making.then.Given as goal

abbrev pub invariant-loop-record : goal.invariant-loop-record
invariant-loop-record l = l.both.items ≡ map (made_at l.next) (take l.record-index l.made)
