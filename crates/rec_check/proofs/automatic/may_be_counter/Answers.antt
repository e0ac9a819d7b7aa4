use Rattle.std.proofs.Common.{◌∙◌, ◌&&◌, not, ap}
use Rattle.rec_check.specs.Automatic.{begins_special, may_count}
use Rattle.rec_check.proofs.automatic.may_be_counter.Goals as goal

pub returns-clause-counter : goal.returns-clause-counter
returns-clause-counter c = c.is_counter.ensures ∙ ap (λ value_type. not (begins_special c.args.name.now) && may_count value_type) (c.in_ok-types.ensures.types c.args.name.now)
