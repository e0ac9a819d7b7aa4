use Rattle.rec_tools.specs.proving.Logs.{HaveSteps, left_over}
use Rattle.rec_tools.proofs.lemmas.printing.LogLemmas.{IsPrintedTo}
use Rattle.rec_tools.proofs.showing.write_lines.Given as goal

-- the log of the edits that are left is still to be printed
abbrev pub invariant-loop-walk : goal.invariant-loop-walk
invariant-loop-walk g l = HaveSteps l.walk × IsPrintedTo g.S.Sink.contents g.S.Sink.failure_count l.fn.out l.out l.style l.fn.walk l.walk

abbrev pub decreases-loop-walk : goal.decreases-loop-walk
decreases-loop-walk g l = left_over l.walk
