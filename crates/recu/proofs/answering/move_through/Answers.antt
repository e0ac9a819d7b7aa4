use Rattle.recu.proofs.answering.move_through.Goals as goal

pub returns : goal.returns
returns g c =
    let (answers, ends, (calls, printed, silent, done), on_disk) = c.run_through-through.ensures.attempts in
    record {
      answers = (
        c.run_through-through.new.home,
        record {
          told = c.run_through-through.result;
          answers = answers;
          ends = ends;
          calls = calls;
          printed = printed;
          silent = silent;
          attempts = done;
          on_disk = on_disk;
          moved = c.answer_of.ensures;
        },
        record {
          shut = c.close.ensures.shut;
          disk = c.close.ensures.same;
          file = c.close.ensures.paths.0;
          journal = c.close.ensures.paths.1;
          failed = c.close.ensures.kept;
        },
      );
    }
