use Rattle.std.proofs.Common.{◌≤◌, length, arith}
use Rattle.std.proofs.lemmas.Grind.{common_steps}
use Rattle.rec_diff.specs.proving.Runs.{weight}
use Rattle.rec_diff.proofs.lemmas.composing.RunLemmas.{length-le-weight}
use Rattle.rec_diff.proofs.composing.merging.is_done.Goals as goal

pub returns-else-is_empty : goal.returns-else-is_empty
returns-else-is_empty c =
    let long : length c.args.ahead.now.rest.now ≤ weight c.args.ahead.now.rest.now = length-le-weight c.args.ahead.now.rest.now in
    grind (arith, common_steps)
