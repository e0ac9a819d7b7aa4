use Rattle.std.proofs.Common.{◌<◌, ◌+◌, List, arith, length, subst, sym, take}
use Rattle.rec_diff.specs.declared.reverting.spread.Spread.{Spread}
use Rattle.rec_diff.specs.proving.Reading.{AreSpreadsBy, placed_of}
use Rattle.rec_diff.proofs.lemmas.reverting.SpreadLemmas.{next_spread}
use Rattle.rec_diff.proofs.reverting.spread.spreads_by.Goals as goal

pub loop-number-preserved : goal.loop-number-preserved
loop-number-preserved c =
    let one = placed_of c.args.one.now in
    let other = placed_of c.args.other.now in
    let k = c.loop-number.number in
    let within : k < length one.records = (let less = c.loop-number-test.true in let end = c.count-number-end.ensures in omega (arith, less, end)) in
    subst (AreSpreadsBy c.args.numbers.now one other (take (k + 1) one.records)) (sym {A = List Spread} c.in_ok-push.ensures.items)
    (next_spread one other c.args.numbers.now k c.fields_of.result.now c.spread_of.result c.loop-number.spreads.items within c.loop-number.invariant c.fields_of.ensures c.spread_of.ensures)
