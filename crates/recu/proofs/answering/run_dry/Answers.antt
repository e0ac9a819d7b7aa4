use Rattle.std.proofs.Common.{sym, subst}
use Rattle.std.proofs.KnownBytes.{Appends-kept}
use Rattle.recu.specs.Answers.{out_of, IsLetOut}
use Rattle.recu.proofs.answering.run_dry.Goals as goal

pub returns : goal.returns
returns g c =
    let (answers, ends, printed, out, previews) = c.preview_through-through.ensures.attempts in
    record {
      answers = record {
        told = c.preview_through-through.result;
        answers = answers;
        ends = ends;
        printed = printed;
        taken = Appends-kept _ _ _ _ out.0 c.let_out.ensures.bytes;
        failed = out.1;
        previews = previews;
        still = c.preview_through-through.ensures.still;
        reached = c.answer_of.result;
        moved = c.answer_of.ensures;
        let_out = subst (λ n. IsLetOut c.answer_of.result n (out_of g.W.Write.contents c.let_out.new.out) c.let_out.result)
            (sym out.2) c.let_out.ensures.let_out;
      };
    }
