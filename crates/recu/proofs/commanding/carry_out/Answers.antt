use Rattle.std.proofs.Common.{◌∙◌, refl, ap, string_bytes, option_map, Ok, Err}
use Rattle.recu.proofs.commanding.carry_out.Goals as goal

pub returns-in-Ok : goal.returns-in-Ok
returns-in-Ok g c =
    let task = c.in-Ok.task in
    let done = c.do_task.ensures.answer in
    record {
      answer = (
        Ok (task.job, option_map string_bytes task.paths.file, option_map string_bytes task.paths.journal),
        c.in-Ok.ensures.found,
        record {
          own = done.own;
          same = done.same ∙ c.task_of.ensures.same;
          works_still = λ works. done.works_still (c.task_of.ensures.works works);
          home = done.home;
          home_is = done.home_is;
          closed = done.closed;
          answered = done.answered;
          last_is = done.last_is;
        },
      );
    }

pub returns-in-Err : goal.returns-in-Err
returns-in-Err g c = record {
  answer = (Err c.in-Err.fault, c.in-Err.ensures.refused, (ap Err c.from.ensures, c.task_of.ensures.same, refl));
}
