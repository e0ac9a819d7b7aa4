use Rattle.std.proofs.Common.{refl, rules}
use Rattle.rec_check.specs.Types.{unchecked}
use Rattle.rec_check.proofs.field_types.kind.type_of_kind.Goals as goal

pub returns-in-None : goal.returns-in-None
returns-in-None c = (unchecked, search rules, refl)
