use Rattle.std.specs.Result.{is_ok}
use Rattle.rec_files.specs.proving.Steps.{side_by}
use Rattle.rec_files.proofs.lemmas.Playing.{told_ok, acts_write}
use Rattle.rec_files.proofs.steps.perform.Goals as goal

pub returns-in_ok-made_of-in-Write-clause-acts : goal.returns-in_ok-made_of-in-Write-clause-acts
returns-in_ok-made_of-in-Write-clause-acts g c =
    acts_write g.D.Disk (side_by g.D.Disk c.args.target.now c.args.other.now c.args.bytes.now) _ (g.D.Disk.number c.in_ok-made_of-in-Write.field-0.now) (is_ok c.told.result)
    c.in_ok-made_of-in-Write.ensures.made c.args.act c.in-Write.is _ _ c.write.result (told_ok _ _ c.write.result c.told.result c.told.ensures.value c.told.ensures.failure) c.write.ensures.goes
