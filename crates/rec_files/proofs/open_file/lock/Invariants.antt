use Rattle.std.proofs.Common.{◌≡◌}
use Rattle.rec_files.specs.Succeeding.{IsTold}
use Rattle.rec_files.proofs.open_file.lock.Given as goal

-- nothing is changed, the disk works as before, and there is one try where the path is no link
pub record Trying (same works first : Type 0) : Type 0 where
  pub same_story : same
  pub works_still : works
  pub one_try : first

abbrev pub invariant-loop : goal.invariant-loop
invariant-loop g l =
    Trying (g.D.Disk.story l.disk ≡ g.D.Disk.story l.initial.disk) (g.D.Disk.works l.initial.disk → g.D.Disk.works l.disk)
    (IsTold (g.D.Disk.story l.initial.disk) (λ s. g.D.Disk.leads l.path ≡ g.D.Disk.place l.path) → l.counter ≡ 0)
