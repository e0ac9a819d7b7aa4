use Rattle.std.proofs.Common.{refl}
use Rattle.std.specs.Prelude.{option_map}
use Rattle.std.specs.Result.{is_ok}
use Rattle.rec_tools.specs.declared.home.Which.TheVariants.{Base, Journal}
use Rattle.rec_files.specs.proving.Steps.{numbers, task_by}
use Rattle.rec_files.proofs.lemmas.Playing.{needs_of, takes_file, takes_journal}
use Rattle.rec_files.proofs.steps.take.Goals as goal

pub returns-in-Base-clause-takes : goal.returns-in-Base-clause-takes
returns-in-Base-clause-takes g c =
    let task = task_by g.D.Disk c.args.pair.now in
    let x = numbers g.D.Disk c.args.made.now in
    takes_file g.D.Disk task c.args.step.1 x (record { file = option_map g.D.Disk.number c.perform.new.new; journal = x.journal }) (g.D.Disk.story c.args.disk.now)
    (g.D.Disk.story c.perform.new.disk) c.args.step.0
    (is_ok c.perform.result) c.in-Base.is refl c.perform.ensures.acts

pub returns-in-Base-clause-succeeds : goal.returns-in-Base-clause-succeeds
returns-in-Base-clause-succeeds g c = λ works.
    let done = c.perform.ensures.succeeds works in
    let task = task_by g.D.Disk c.args.pair.now in
    let x = numbers g.D.Disk c.args.made.now in
    (done.0, λ given. done.1 (needs_of g.D.Disk task c.args.step.1 x x (g.D.Disk.story c.args.disk.now) (g.D.Disk.story c.args.disk.now) c.args.step.0 Base c.in-Base.is given))

pub returns-in-Journal-clause-takes : goal.returns-in-Journal-clause-takes
returns-in-Journal-clause-takes g c =
    let task = task_by g.D.Disk c.args.pair.now in
    let x = numbers g.D.Disk c.args.made.now in
    takes_journal g.D.Disk task c.args.step.1 x (record { file = x.file; journal = option_map g.D.Disk.number c.perform-in-Journal.new.new }) (g.D.Disk.story c.args.disk.now)
    (g.D.Disk.story c.perform-in-Journal.new.disk)
    c.args.step.0 (is_ok c.perform-in-Journal.result) c.in-Journal.is refl c.perform-in-Journal.ensures.acts

pub returns-in-Journal-clause-succeeds : goal.returns-in-Journal-clause-succeeds
returns-in-Journal-clause-succeeds g c = λ works.
    let done = c.perform-in-Journal.ensures.succeeds works in
    let task = task_by g.D.Disk c.args.pair.now in
    let x = numbers g.D.Disk c.args.made.now in
    (done.0, λ given. done.1 (needs_of g.D.Disk task c.args.step.1 x x (g.D.Disk.story c.args.disk.now) (g.D.Disk.story c.args.disk.now) c.args.step.0 Journal c.in-Journal.is given))
