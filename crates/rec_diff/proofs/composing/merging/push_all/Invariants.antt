use Rattle.std.proofs.Common.{◌≡◌, ◌++◌, drop}
use Rattle.rec_diff.specs.proving.Runs.{run_deeds}
use Rattle.rec_diff.proofs.composing.merging.push_all.Given as goal

abbrev pub invariant-loop-run : goal.invariant-loop-run
invariant-loop-run l = run_deeds l.runs.items ++ run_deeds (drop l.run-index l.run-items) ≡ run_deeds l.initial.runs.items ++ run_deeds l.run-items
