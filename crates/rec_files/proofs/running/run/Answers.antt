use Rattle.std.proofs.Common.{refl}
use Rattle.rec_files.specs.OnDisk.{places_of}
use Rattle.rec_files.proofs.lemmas.Requests.{request_on}
use Rattle.rec_files.proofs.lemmas.Steps.{if_some_so}
use Rattle.rec_files.proofs.running.run.Goals as goal

pub returns : goal.returns
returns g c =
    let (calls, printed, out, done) = c.run.ensures.attempts in
    let p = places_of g.D.Disk c.args.home.now in
    let all =
    request_on g.D.Disk c.stops_are_steps.ensures.stops c.args.request.now c.run.result calls printed c.args.home.now c.run.new.home done p refl in
    record {
      attempts = c.run.ensures.attempts;
      refusals = c.run.ensures.refusals;
      silent = c.run.ensures.silent;
      any_moment = if_some_so p _ _ (λ p is. is.any_moment) all;
      lasting = if_some_so p _ _ (λ p is. is.lasting) all;
      touches = if_some_so p _ _ (λ p is. is.touches) all;
      recovers = if_some_so p _ _ (λ p is. is.recovers) all;
    }
