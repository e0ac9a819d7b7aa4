use Rattle.std.proofs.Common.{flat_map}
use Rattle.rec_select.proofs.lemmas.info.InfoLemmas.{IsTakenTo}
use Rattle.rec_tools.specs.proving.Listed.{line_of}
use Rattle.rec_tools.proofs.history.write_steps.Given as goal

-- the lines of the steps that are left are still to be put
abbrev pub invariant-loop-step : goal.invariant-loop-step
invariant-loop-step g l =
    IsTakenTo g.S.Sink.contents g.S.Sink.failure_count l.fn.out l.out (flat_map line_of l.fn.steps) (flat_map line_of l.step-iterator)
