use Rattle.std.proofs.Common.{Err, refl, sym, ap, subst}
use Rattle.rec_files.specs.Succeeding.{HomeGoes}
use Rattle.recu.specs.Answers.{out_of, Answers}
use Rattle.recu.proofs.AnswerLemmas.{new_output}
use Rattle.recu.proofs.answering.answer_by.Goals as goal

pub returns-in_default : goal.returns-in_default
returns-in_default g c = record {
  answers = (
    c.args.home.now,
    (ap Err c.from.ensures, refl),
    record {
      shut = c.close.ensures.shut;
      disk = c.close.ensures.same;
      file = c.close.ensures.paths.0;
      journal = c.close.ensures.paths.1;
      failed = c.close.ensures.kept;
    },
  );
  shut = c.close.ensures.shut;
}

pub returns : goal.returns
returns g c =
    let (done, answered, closed) = c.answer_to-answer.ensures.answers in
    record {
      answers = (
        done,
        subst (λ before. Answers g.D.Disk (HomeGoes g.D.Disk)
            c.args.home.now done before (out_of g.W.Write.contents c.answer_to-answer.new.out) c.args.job.now c.answer_to-answer.result)
            (sym (new_output g.W.Write.contents c.in-Ok.out c.args.writer c.in-Ok.ensures.writer c.in-Ok.ensures.empty
            c.in-Ok.ensures.sound)) answered,
        closed,
      );
      shut = closed.shut;
    }
