use Rattle.std.proofs.Common.{arith}
use Rattle.rec_diff.proofs.lemmas.reverting.ReadingLemmas.{field_numbers_more}
use Rattle.rec_diff.proofs.reverting.reading.add_fields.Goals as goal

pub loop-element-preserved : goal.loop-element-preserved
loop-element-preserved c =
    let place = c.loop-element.invariant.place in
    record {
      place = omega (arith, place);
      added =
          field_numbers_more c.args.first c.args.elements.now c.loop-element.element-index c.loop-element.number _ c.loop-element.fields.items c.add_field.new.fields.items c.args.fields.now.items
          place c.loop-element-test.true c.loop-element.invariant.added c.in_ok-add_field.ensures;
    }
