use Rattle.std.proofs.Common.{◌∙◌}
use Rattle.rec_command.proofs.UsageLemmas.{tool_added}
use Rattle.rec_command.proofs.args.usage.with_tools.Goals as goal

pub loop-tool-preserved : goal.loop-tool-preserved
loop-tool-preserved c =
    tool_added _ _ _ _ _ c.loop-tool.tool-index _ c.in_ok-program.ensures c.in_ok-command.ensures.alone c.loop-tool-test.true
    (c.in_ok-command.ensures.usage ∙ c.usage.ensures.usage) c.loop-tool.invariant
