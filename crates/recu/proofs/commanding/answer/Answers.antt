use Rattle.std.proofs.Common.{Ok}
use Rattle.std.specs.Prelude.{◌↔◌, IsSomeAnd, IsTrue, option_map}
use Rattle.rec_files.specs.Succeeding.{HomeGoes}
use Rattle.recu.specs.Answers.{out_of, HasLostReader, IsDone}
use Rattle.recu.proofs.AnswerLemmas.{replied}
use Rattle.recu.proofs.commanding.answer.Goals as goal

pub returns-in-Ok : goal.returns-in-Ok
returns-in-Ok g c = record {
  answer = (
    Ok c.in-Ok.line,
    c.in-Ok.ensures.parsed,
    replied (λ told. IsDone g.D.Disk (HomeGoes g.D.Disk) c.args.disk c.carry_out-answer.result.1 (g.W.Write.contents c.args.out)
        (option_map (out_of g.W.Write.contents) c.carry_out-answer.result.2) c.in-Ok.line told
        × (IsTrue c.has_lost_reader-is_lost.result ↔ IsSomeAnd c.carry_out-answer.result.2 HasLostReader))
        c.carry_out-answer.result.0 c.with_reply.result c.with_reply.ensures.reply c.with_reply.ensures.fault
        (c.carry_out-answer.ensures.answer, c.has_lost_reader-is_lost.ensures),
  );
}
