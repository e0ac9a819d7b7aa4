use Rattle.std.proofs.Common.{sym}
use Rattle.rec_text.proofs.lemmas.ErrorLemmas.{kept_error}
use Rattle.rec_files.specs.Succeeding.{kept, known}
use Rattle.rec_files.proofs.lemmas.GoingOn.{can_read_still, can_go_on}
use Rattle.rec_files.proofs.lemmas.Succeeding.{seen_file}
use Rattle.rec_files.proofs.files.DiskHome.next_bytes.Goals as goal

pub returns-in_err-told-clause-succeeds : goal.returns-in_err-told-clause-succeeds
returns-in_err-told-clause-succeeds g c = rw (← c.disk.view_is) λ works.
    let noted = c.let_go-noted.ensures.succeeds works in (
      noted.0,
      λ had.
          rw (kept_error c.from_residual.ensures.1)
          (c.in_err-told.ensures.memory (noted.1 (can_go_on g.D.Disk (kept g.D.Disk c.args.self.now) c.args.which _ _ c.as_str-journal.ensures.value had))),
    )

pub returns-in_err-bytes-clause-succeeds : goal.returns-in_err-bytes-clause-succeeds
returns-in_err-bytes-clause-succeeds g c = rw (← c.disk.view_is) λ works.
    let read = c.bytes_of.ensures.succeeds (c.let_go-noted.ensures.succeeds works).0 in (
      read.0,
      λ had.
          rw (kept_error c.from_residual-in_err-bytes.ensures.1)
          (c.in_err-bytes.ensures.memory (read.1 (can_read_still g.D.Disk (kept g.D.Disk c.args.self.now) c.args.which _ _ _ c.let_go-noted.ensures.same
          (sym (seen_file (known g.D.Disk) c.args.self.now.both.file)) had))),
    )
