use Rattle.std.proofs.Common.{arith}
use Rattle.std.proofs.lemmas.Grind.{common_steps}
use Rattle.rec_disk.specs.Disk.{IsMemory}
use Rattle.rec_files.proofs.lemmas.Succeeding.{opened_is_read}
use Rattle.rec_files.proofs.both.open_and_read.Goals as goal

pub returns-in_err-bytes-clause-succeeds : goal.returns-in_err-bytes-clause-succeeds
returns-in_err-bytes-clause-succeeds g c works =
    let read = c.in_err-bytes.ensures.succeeds (c.in_ok-target.ensures.succeeds works).0 in (
      read.0,
      λ given.
          let memory : IsMemory c.in_err-bytes.field-0.0 =
          read.1 (opened_is_read g.D.Disk c.args.which c.args.path.now (g.D.Disk.leads c.args.path.now) _
          c.in_ok-target.target.old _ _ c.in_ok-target.ensures.old c.in_ok-target.ensures.seen c.in_ok-target.ensures.same given) in
          grind (arith, common_steps),
    )
