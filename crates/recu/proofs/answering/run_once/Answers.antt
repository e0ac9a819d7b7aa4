use Rattle.std.proofs.Common.{sym, subst}
use Rattle.std.proofs.KnownBytes.{Appends-kept}
use Rattle.rec_tools.specs.Requests.{asked_of}
use Rattle.rec_files.specs.OnDisk.{places_of}
use Rattle.recu.specs.Answers.{out_of, IsLetOut}
use Rattle.recu.proofs.AnswerLemmas.{request_on}
use Rattle.recu.proofs.answering.run_once.Goals as goal

pub returns : goal.returns
returns g c =
    let (calls, printed, out, done) = c.run-told.ensures.attempts in
    record {
      answers = record {
        told = c.run-told.result;
        calls = calls;
        printed = printed;
        taken = Appends-kept _ _ _ _ out.0 c.let_out.ensures.bytes;
        failed = out.1;
        attempts = done;
        on_disk = request_on g.D.Disk (asked_of c.args.request.now) c.run-told.result
            (g.D.Disk.story c.args.home.now.disk) (g.D.Disk.story c.run-told.new.home.disk)
            (places_of g.D.Disk c.args.home.now)
            c.run-told.ensures.any_moment c.run-told.ensures.lasting c.run-told.ensures.touches c.run-told.ensures.recovers;
        let_out = subst (λ n. IsLetOut c.run-told.result n (out_of g.W.Write.contents c.let_out.new.out) c.let_out.result)
            (sym out.2) c.let_out.ensures.let_out;
      };
    }
