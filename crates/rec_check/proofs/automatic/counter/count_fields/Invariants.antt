use Rattle.std.proofs.Common.{take}
use Rattle.rec_text.specs.Places.{pieces_of}
use Rattle.rec_check.specs.Counters.{greatest_at, Counts}
use Rattle.rec_check.specs.Counting.{readings_in}
use Rattle.rec_check.proofs.automatic.counter.count_fields.Given as goal

abbrev pub invariant-loop-field : goal.invariant-loop-field
invariant-loop-field l = Counts (greatest_at l.fn.greatest) (greatest_at l.greatest) (λ name. readings_in name (pieces_of (take l.field-index l.fields)))
