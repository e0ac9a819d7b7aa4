use Rattle.std.proofs.Common.{Bool, Option, take, drop}
use Rattle.std.specs.List.{AllByRecursion}
use Rattle.rec_disk.specs.Disk.{Story}
use Rattle.rec_files.specs.Succeeding.{IsTold}
use Rattle.rec_files.specs.proving.Steps.{Numbers, Plays, CanPlay, StepFits, numbers, task_by}
use Rattle.rec_files.proofs.steps.play.Given as goal

-- whoever plays the steps that are left has played them all
pub record Playing (goes works needs fits : Type 0) : Type 0 where
  pub plays : goes
  pub still_works : works
  pub can_play : needs
  pub fit : fits

abbrev pub invariant-loop-step : goal.invariant-loop-step
invariant-loop-step g l =
    let task = task_by g.D.Disk l.pair in
    let left = drop l.step-index l.steps in
    Playing
    ((ok : Bool) (y : Numbers) (n : Option Story) → Plays g.D.Disk task left ok (numbers g.D.Disk l.made) y (g.D.Disk.story l.disk) n
    → Plays g.D.Disk task l.steps ok (numbers g.D.Disk l.initial.made) y (g.D.Disk.story l.initial.disk) n)
    (g.D.Disk.works l.initial.disk → g.D.Disk.works l.disk)
    (IsTold (g.D.Disk.story l.initial.disk) (CanPlay g.D.Disk task l.steps (numbers g.D.Disk l.initial.made)) → IsTold (g.D.Disk.story l.disk) (CanPlay g.D.Disk task left (numbers g.D.Disk l.made)))
    (AllByRecursion (StepFits task) (take l.step-index l.steps))
