use Rattle.std.proofs.Common.{arith}
use Rattle.std.specs.Prelude.{option_copied}
use Rattle.std.specs.Result.{is_ok}
use Rattle.std.proofs.lemmas.Grind.{common_steps}
use Rattle.rec_files.specs.Succeeding.{FailedForMemory}
use Rattle.rec_files.specs.proving.Steps.{numbers, task_by}
use Rattle.rec_files.proofs.lemmas.Played.{can_ready, can_replace, none_made, puts_made, puts_refused, puts_removed}
use Rattle.rec_files.proofs.replacing.replace.Goals as goal

pub returns-in_err-play-clause-puts : goal.returns-in_err-play-clause-puts
returns-in_err-play-clause-puts g c =
    let task = task_by g.D.Disk c.args.pair.now in
    puts_refused g.D.Disk task (option_copied c.args.file) (numbers g.D.Disk c.args.found.now) _ (is_ok c.from_residual.result) (numbers g.D.Disk c.play.new.made) _ _
    (grind (arith, common_steps)) c.ready_steps-steps.ensures c.in_err-play.ensures.plays

pub returns-in_err-play-clause-succeeds : goal.returns-in_err-play-clause-succeeds
returns-in_err-play-clause-succeeds g c = λ is works.
    let task = task_by g.D.Disk c.args.pair.now in
    let played = c.in_err-play.ensures.succeeds works in (
      played.0,
      λ given.
          let memory : FailedForMemory c.in_err-play.field-0.0 =
          played.1 (can_ready g.D.Disk task (option_copied c.args.file) (numbers g.D.Disk c.args.found.now) _ _ c.ready_steps-steps.ensures given) in
          grind (arith, common_steps),
    )

pub returns-then-is_err-clause-puts : goal.returns-then-is_err-clause-puts
returns-then-is_err-clause-puts g c =
    let task = task_by g.D.Disk c.args.pair.now in
    puts_removed g.D.Disk task (option_copied c.args.file) (numbers g.D.Disk c.args.found.now) _ _ (is_ok c.play-put.result) (numbers g.D.Disk c.play.new.made)
    (numbers g.D.Disk c.new.result) (numbers g.D.Disk c.play-put.new.made) _ _ _ c.ready_steps-steps.ensures c.in_ok-play.ensures.plays c.steps_for.ensures
    (none_made g.D.Disk c.new.result c.new.ensures) c.play-put.ensures.plays _ (is_ok c.play-then-is_err.result) (numbers g.D.Disk c.play-then-is_err.new.made) _ (grind (arith, common_steps))
    c.removing_steps-steps.ensures c.play-then-is_err.ensures.plays

pub returns-else-is_err-clause-puts : goal.returns-else-is_err-clause-puts
returns-else-is_err-clause-puts g c =
    let task = task_by g.D.Disk c.args.pair.now in
    puts_made g.D.Disk task (option_copied c.args.file) (numbers g.D.Disk c.args.found.now) _ _ (is_ok c.play-put.result) (numbers g.D.Disk c.play.new.made)
    (numbers g.D.Disk c.new.result) (numbers g.D.Disk c.play-put.new.made) _ _ _ c.ready_steps-steps.ensures c.in_ok-play.ensures.plays c.steps_for.ensures
    (none_made g.D.Disk c.new.result c.new.ensures) c.play-put.ensures.plays

pub returns-then-is_err-clause-succeeds : goal.returns-then-is_err-clause-succeeds
returns-then-is_err-clause-succeeds g c = λ is works.
    let task = task_by g.D.Disk c.args.pair.now in
    let put = c.play-put.ensures.succeeds (c.in_ok-play.ensures.succeeds works).0 in (
      (c.play-then-is_err.ensures.succeeds put.0).0,
      λ given. put.1 (can_replace g.D.Disk task (option_copied c.args.file) (numbers g.D.Disk c.args.found.now) is _ _ _ (numbers g.D.Disk c.new.result) _ _
          c.ready_steps-steps.ensures c.steps_for.ensures (none_made g.D.Disk c.new.result c.new.ensures) given c.in_ok-play.ensures.plays),
    )

pub returns-else-is_err-clause-succeeds : goal.returns-else-is_err-clause-succeeds
returns-else-is_err-clause-succeeds g c = λ is works.
    let task = task_by g.D.Disk c.args.pair.now in
    let put = c.play-put.ensures.succeeds (c.in_ok-play.ensures.succeeds works).0 in (
      put.0,
      λ given. put.1 (can_replace g.D.Disk task (option_copied c.args.file) (numbers g.D.Disk c.args.found.now) is _ _ _ (numbers g.D.Disk c.new.result) _ _
          c.ready_steps-steps.ensures c.steps_for.ensures (none_made g.D.Disk c.new.result c.new.ensures) given c.in_ok-play.ensures.plays),
    )
