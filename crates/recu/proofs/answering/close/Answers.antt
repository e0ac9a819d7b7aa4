use Rattle.recu.proofs.answering.close.Goals as goal

pub returns : goal.returns
returns g c = record {
  shut = c.close.ensures.shut;
  disk = c.close.ensures.same;
  file = c.close.ensures.paths.0;
  journal = c.close.ensures.paths.1;
  failed = c.close.ensures.kept;
}
