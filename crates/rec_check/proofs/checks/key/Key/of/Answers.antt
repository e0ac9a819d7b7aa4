use Rattle.std.proofs.Common.{ap}
use Rattle.std.specs.Cow.{cow_slice_items}
use Rattle.std.specs.List.{list_any}
use Rattle.std.specs.Str.{bytes_eq}
use Rattle.rec_check.proofs.checks.key.Key.of.Goals as goal

pub returns-clause-after : goal.returns-clause-after
returns-clause-after c = λ name value is. ap (list_any (λ bytes. bytes_eq value (cow_slice_items bytes))) c.new.ensures.empty
