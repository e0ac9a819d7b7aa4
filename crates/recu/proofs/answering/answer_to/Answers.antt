use Rattle.std.proofs.Common.{refl}
use Rattle.recu.proofs.answering.answer_to.Goals as goal

pub returns-in-Once : goal.returns-in-Once
returns-in-Once g c =
    record { answers = (c.run_once-answer.new.home, rw c.in-Once.is c.run_once-answer.ensures.answers, c.close.ensures) }

pub returns-in-Through : goal.returns-in-Through
returns-in-Through g c =
    let (done, answered, closed) = c.move_through.ensures.answers in
    record { answers = (done, rw c.in-Through.is (refl, answered), closed) }

pub returns-in-DryThrough : goal.returns-in-DryThrough
returns-in-DryThrough g c =
    record { answers = (c.run_dry-answer.new.home, rw c.in-DryThrough.is c.run_dry-answer.ensures.answers, c.close-in-DryThrough.ensures) }
