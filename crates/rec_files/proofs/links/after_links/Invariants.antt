use Rattle.std.proofs.Common.{◌≡◌, ◌-◌}
use Rattle.std.specs.Prelude.{string_bytes}
use Rattle.rec_disk.specs.Disk.{Told}
use Rattle.rec_files.specs.Paths.{end_of}
use Rattle.rec_files.proofs.links.after_links.Given as goal

-- nothing is changed, and the links that are left lead where all of them do
pub record Following (same works so_far : Type 0) : Type 0 where
  pub same_story : same
  pub still_works : works
  pub left : so_far

abbrev pub invariant-loop : goal.invariant-loop
invariant-loop g l =
    Following (g.D.Disk.story l.disk ≡ g.D.Disk.story l.initial.disk) (g.D.Disk.works l.initial.disk → g.D.Disk.works l.disk)
    (Told (g.D.Disk.story l.initial.disk)
    (λ s. end_of g.D.Disk.link 40 l.fn.path ≡ end_of g.D.Disk.link (40 - l.counter) (string_bytes l.path)))
