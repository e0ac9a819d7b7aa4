use Rattle.std.proofs.Common.{None, refl}
use Rattle.std.specs.Prelude.{option_map}
use Rattle.rec_tools.proofs.lemmas.calls.AttemptLemmas.{refused_with, put-stopped, put-made}
use Rattle.rec_tools.proofs.runner.carry_out.Goals as goal

pub returns-in_err-put-in-Put-clause-calls : goal.returns-in_err-put-in-Put-clause-calls
returns-in_err-put-in-Put-clause-calls g c =
    rw (refused_with _ _ c.from_residual.ensures.1, c.in-Put.is)
    (put-stopped _ _ _ c.in-Put.journal _ (option_map (λ new. new.text) c.in-Put.new) _ c.as_slice.ensures c.slice_of.ensures
    c.in-Put.reply (Unit {0}) _ c.in_err-put-in-Put.ensures.refusals c.in_err-put-in-Put.ensures.call)

pub returns-in-Put-clause-calls : goal.returns-in-Put-clause-calls
returns-in-Put-clause-calls g c =
    rw (c.of_change-in-Put.ensures, c.in-Put.is)
    (put-made _ _ _ c.in-Put.journal _ (option_map (λ new. new.text) c.in-Put.new) _ c.as_slice.ensures c.slice_of.ensures c.in-Put.reply (Unit {0}) tt c.in_ok-put-in-Put.ensures.call)

pub returns-in_err-put-in-Adopt-clause-calls : goal.returns-in_err-put-in-Adopt-clause-calls
returns-in_err-put-in-Adopt-clause-calls g c =
    rw (refused_with _ _ c.from_residual-in_err-put-in-Adopt.ensures.1, c.in-Adopt.is)
    (put-stopped _ _ _ c.in-Adopt.journal _ None None c.as_slice-in-Adopt.ensures refl
    c.in-Adopt.reply (Unit {0}) _ c.in_err-put-in-Adopt.ensures.refusals c.in_err-put-in-Adopt.ensures.call)

pub returns-clause-calls : goal.returns-clause-calls
returns-clause-calls g c =
    rw (c.of_change-in-Adopt.ensures, c.in-Adopt.is)
    (put-made _ _ _ c.in-Adopt.journal _ None None c.as_slice-in-Adopt.ensures refl c.in-Adopt.reply (Unit {0}) tt c.in_ok-put-in-Adopt.ensures.call)
