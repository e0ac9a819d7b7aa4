use Rattle.std.proofs.Common.{inl, refl}
use Rattle.recu.proofs.answering.let_out.Goals as goal

pub returns : goal.returns
returns g c = record {
  bytes = c.finish.ensures.bytes;
  let_out = inl (refl, c.in_default.ensures.let_out, c.in_default.ensures.kept);
}
