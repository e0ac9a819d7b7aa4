use Rattle.std.proofs.Common.{refl}
use Rattle.rec_files.specs.OnDisk.{places_of}
use Rattle.rec_files.proofs.lemmas.Requests.{moves_at}
use Rattle.rec_files.proofs.running.run_through.Goals as goal

pub returns : goal.returns
returns g c =
    let (answers, ends, calls, printed, silent, done) = c.run_through.ensures.attempts in
    record {
      attempts = (
        answers,
        ends,
        (calls, printed, silent, done),
        moves_at g.D.Disk c.stops_are_steps.ensures.stops c.args.direction c.args.number c.args.home.now c.run_through.new.home (places_of g.D.Disk c.args.home.now) refl answers calls printed done,
      );
    }
