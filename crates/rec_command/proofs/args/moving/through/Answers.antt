use Rattle.std.proofs.Common.{subst}
use Rattle.rec_command.specs.Refusals.{IsOrRefuses}
use Rattle.rec_command.specs.Words.{IsEditGiven}
use Rattle.rec_command.proofs.args.moving.through.Goals as goal

pub returns : goal.returns
returns c = subst (λ word. IsOrRefuses (IsEditGiven word) c.edit_given.result) c.given.ensures c.edit_given.ensures
