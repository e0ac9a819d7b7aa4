use Rattle.std.proofs.Common.{◌≡◌, ◌++◌, drop}
use Rattle.rec_journal.specs.Patch.{AreApartFrom}
use Rattle.rec_diff.specs.Composing.{deeds_from, deeds_of}
use Rattle.rec_diff.specs.proving.Runs.{run_deeds}
use Rattle.rec_diff.proofs.composing.run.runs_of.Given as goal

-- what the hunks so far do, and those that are left
abbrev pub invariant-loop-hunk : goal.invariant-loop-hunk
invariant-loop-hunk l = record {
  apart : AreApartFrom l.place (drop l.hunk-index l.hunks);
  deeds : run_deeds l.runs.items ++ deeds_from l.place (drop l.hunk-index l.hunks) ≡ deeds_of l.hunks;
}
