use Rattle.rec_check.proofs.lemmas.field_types.ResolvedLemmas.{AreRight-end, StaySettled-end, start_end, ArePlacesWithin-as}
use Rattle.rec_check.proofs.field_types.resolution.resolve.Goals as goal

pub settle-requires : goal.settle-requires
settle-requires c = ArePlacesWithin-as c.follow.new.passed.items c.deref.result.now c.follow.new.meanings c.in_ok-end.ensures.within c.deref.ensures.value

pub returns-clause-right : goal.returns-clause-right
returns-clause-right c = λ definitions are.
    AreRight-end definitions c.follow.new.passed.items c.deref.result.now c.in_ok-end.end c.follow.new.meanings c.settle.new.meanings c.settled_at-value_type.result
    (c.in_ok-end.ensures.work definitions are) c.in_ok-end.ensures.end c.settled_at-value_type.ensures c.deref.ensures.value c.settle.ensures

pub returns-clause-start : goal.returns-clause-start
returns-clause-start c = start_end c.args.start c.deref.result.now c.settled_at-value_type.result c.follow.new.meanings c.settle.new.meanings c.in_ok-end.ensures.start c.settle.ensures

pub returns-clause-settled : goal.returns-clause-settled
returns-clause-settled c = StaySettled-end c.deref.result.now c.settled_at-value_type.result c.args.meanings.now c.follow.new.meanings c.settle.new.meanings c.in_ok-end.ensures.settled
    c.settle.ensures
