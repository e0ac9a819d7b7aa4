use Rattle.std.proofs.Common.{take}
use Rattle.rec_text.specs.Bytes.{texts}
use Rattle.rec_check.specs.Counters.{greatest_at, CountsFrom}
use Rattle.rec_check.proofs.automatic.counter.uncounted.Given as goal

abbrev pub invariant-loop-name : goal.invariant-loop-name
invariant-loop-name l = CountsFrom (texts (take l.name-index l.names)) (greatest_at l.greatest)
