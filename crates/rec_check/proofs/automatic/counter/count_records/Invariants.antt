use Rattle.std.proofs.Common.{take}
use Rattle.rec_text.specs.Places.{pieces_of}
use Rattle.rec_check.specs.Automatic.{readings}
use Rattle.rec_check.specs.Counters.{greatest_at, Counts}
use Rattle.rec_check.proofs.automatic.counter.count_records.Given as goal

abbrev pub invariant-loop-record : goal.invariant-loop-record
invariant-loop-record l = Counts (greatest_at l.fn.greatest) (greatest_at l.greatest) (readings (pieces_of l.elements) (take l.record-index l.records))
