use Rattle.std.proofs.Common.{◌≡◌, ◌+◌, ◌≤◌, length}
use Rattle.rec_diff.specs.WholeLines.{same_end}
use Rattle.rec_diff.proofs.lines.same_end.Given as goal

abbrev pub invariant-loop-o : goal.invariant-loop-o
invariant-loop-o l = record {
  fits : length l.old_rest ≤ length l.old;
  so_far : same_end l.old l.new + length l.old_rest ≡ length l.old + same_end l.old_rest l.new_rest;
}

abbrev pub decreases-loop-o : goal.decreases-loop-o
decreases-loop-o l = length l.old_rest
