use Rattle.std.proofs.Common.{take}
use Rattle.rec_text.specs.Places.{pieces_of}
use Rattle.rec_check.specs.Automatic.{readings}
use Rattle.rec_check.specs.Counters.{greatest_at}
use Rattle.rec_check.proofs.lemmas.automatic.CountLemmas.{Counts-then, readings-taken}
use Rattle.rec_check.proofs.automatic.counter.count_records.Goals as goal

pub loop-record-preserved : goal.loop-record-preserved
loop-record-preserved c =
    let pieces = pieces_of c.args.elements.now in
    let records = c.args.records.now in
    let i = c.loop-record.record-index in
    Counts-then (greatest_at c.args.greatest.now) (greatest_at c.loop-record.greatest) (greatest_at c.count_fields.new.greatest)
    (readings pieces (take i records)) _ _
    (readings-taken pieces records i (record { start = 0; end = 0 }) (pieces_of c.elements_in.result.now) c.loop-record-test.true c.elements_in.ensures.pieces)
    c.loop-record.invariant c.in_ok-count_fields.ensures.counts
