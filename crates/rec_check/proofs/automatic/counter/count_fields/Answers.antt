use Rattle.std.proofs.Common.{take}
use Rattle.rec_text.specs.Places.{pieces_of}
use Rattle.rec_check.specs.Counters.{greatest_at}
use Rattle.rec_check.specs.Counting.{readings_in}
use Rattle.rec_check.proofs.lemmas.automatic.CountLemmas.{Counts-then, readings_in-taken}
use Rattle.rec_check.proofs.lemmas.checks.NameLemmas.{no_element}
use Rattle.rec_check.proofs.automatic.counter.count_fields.Goals as goal

pub loop-field-preserved : goal.loop-field-preserved
loop-field-preserved c =
    let fields = c.args.fields.now in
    let i = c.loop-field.field-index in
    Counts-then (greatest_at c.args.greatest.now) (greatest_at c.loop-field.greatest) (greatest_at c.count_field.new.greatest)
    (λ name. readings_in name (pieces_of (take i fields))) _ _
    (readings_in-taken fields i no_element c.loop-field-test.true) c.loop-field.invariant c.in_ok-count_field.ensures.counts
