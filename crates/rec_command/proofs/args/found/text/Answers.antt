use Rattle.std.proofs.Common.{◌∙◌, ap, Some, rules}
use Rattle.rec_command.proofs.args.found.text.Goals as goal

pub returns-in_ok-copy_of-in-Some : goal.returns-in_ok-copy_of-in-Some
returns-in_ok-copy_of-in-Some c = ap Some (search rules) ∙ c.in-Some.ensures
