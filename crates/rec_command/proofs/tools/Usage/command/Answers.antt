use Rattle.rec_command.proofs.UsageLemmas.{argument_added, globals-added}
use Rattle.rec_command.proofs.tools.Usage.command.Goals as goal

pub loop-argument-preserved : goal.loop-argument-preserved
loop-argument-preserved c =
    let adds = c.in_ok-command.ensures in
    let alone = c.arg.ensures.alone in
    let before = c.loop-argument.invariant in
    record {
      usage = argument_added _ _ _ adds alone _ _ c.loop-argument.argument-index _ c.loop-argument-test.true c.arg.ensures.rule before.usage;
      alone = globals-added _ _ _ adds alone before.alone;
    }
