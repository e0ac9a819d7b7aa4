use Rattle.std.proofs.Common.{◌≡◌}
use Rattle.rec_files.proofs.ahead.read_both.Given as goal

-- nothing is changed, and the disk works as before
pub record Trying (same works : Type 0) : Type 0 where
  pub same_story : same
  pub still_works : works

abbrev pub invariant-loop : goal.invariant-loop
invariant-loop g l = Trying (g.D.Disk.story l.disk ≡ g.D.Disk.story l.initial.disk) (g.D.Disk.works l.initial.disk → g.D.Disk.works l.disk)
