use Rattle.std.proofs.Common.{subst}
use Rattle.std.proofs.lemmas.List.{take_all}
use Rattle.rec_diff.specs.proving.Reading.{IsFoundIn, IsSpread, placed_of}
use Rattle.rec_diff.proofs.lemmas.reverting.SpreadLemmas.{spread_step}
use Rattle.rec_diff.proofs.reverting.spread.spread_of.Goals as goal

pub loop-field-preserved : goal.loop-field-preserved
loop-field-preserved c =
    spread_step (IsFoundIn c.args.numbers.now (placed_of c.args.other.now)) c.args.fields.now c.loop-field.field-index 0 c.loop-field.spread c.with_owner-spread.result c.owner_there.result
    c.loop-field-test.true c.loop-field.invariant c.owner_there.ensures c.with_owner-spread.ensures

pub returns : goal.returns
returns c =
    subst (λ fields. IsSpread (IsFoundIn c.args.numbers.now (placed_of c.args.other.now)) fields c.loop-field.spread)
    (take_all c.loop-field.field-index c.args.fields.now c.loop-field-test.false) c.loop-field.invariant
