use Rattle.std.proofs.lemmas.Grind.{common_steps}
use Rattle.std.specs.Result.{is_ok}
use Rattle.std.proofs.Common.{◌≡◌, ◌∙◌, arith, false, inr, sym}
use Rattle.std.specs.Prelude.{option_copied}
use Rattle.std.proofs.lemmas.Bool.{false≢true}
use Rattle.rec_tools.specs.Home.{writes_by}
use Rattle.rec_files.specs.Succeeding.{known}
use Rattle.rec_files.specs.proving.Replacing.{led}
use Rattle.rec_files.specs.proving.Steps.{numbers, task_of}
use Rattle.rec_files.proofs.lemmas.Steps.{on_ok}
use Rattle.rec_files.proofs.lemmas.Putting.{are_telling, begun, is_put, may_replace, put_still}
use Rattle.rec_files.proofs.replacing.put.Goals as goal

pub returns-in_err-found-clause-goes : goal.returns-in_err-found-clause-goes
returns-in_err-found-clause-goes g c = λ short.
    put_still g.D.Disk (led g.D.Disk.leads c.args.paths.file.now c.args.paths.journal.now)
    (writes_by c.args.journal_bytes.now (option_copied c.args.file_bytes)) (is_ok c.from_residual.result) _ _ c.prepare.ensures.same
    (λ fine. let fails : is_ok c.from_residual.result ≡ false = grind (arith, common_steps) in absurd (false≢true (sym fails ∙ fine)))

pub returns-clause-noticed : goal.returns-clause-noticed
returns-clause-noticed g c =
    on_ok c.replace.result _ (begun g.D.Disk c.args.paths.file.now c.args.paths.journal.now (known g.D.Disk c.args.file.now) (known g.D.Disk c.args.journal.now) _ _ c.in_ok-found.ensures.begins)

pub returns-clause-unchanged : goal.returns-clause-unchanged
returns-clause-unchanged g c =
    inr (begun g.D.Disk c.args.paths.file.now c.args.paths.journal.now (known g.D.Disk c.args.file.now) (known g.D.Disk c.args.journal.now) _ _ c.in_ok-found.ensures.begins)

pub returns-clause-goes : goal.returns-clause-goes
returns-clause-goes g c = λ short.
    let task = task_of g.D.Disk c.args.file.now c.args.journal.now c.bytes_of.result.now c.args.journal_bytes.now in
    is_put g.D.Disk c.args.paths.file.now c.args.paths.journal.now task (option_copied c.args.file_bytes) (numbers g.D.Disk c.in_ok-found.found) c.bytes_of.ensures _ short _ _ _
    c.prepare.ensures.same (λ told. are_telling g.D.Disk.tells (λ opened. opened.seen) (λ status. g.met.D.Disk.told c.args.disk.now status told) c.args.file.now.old c.args.journal.now.old)
    c.in_ok-found.ensures.begins c.replace.ensures.puts

pub returns-clause-succeeds : goal.returns-clause-succeeds
returns-clause-succeeds g c = λ works.
    let task = task_of g.D.Disk c.args.file.now c.args.journal.now c.bytes_of.result.now c.args.journal_bytes.now in
    let put = c.replace.ensures.succeeds c.bytes_of.ensures (c.in_ok-found.ensures.succeeds works).0 in (
      put.0,
      λ given. put.1 (may_replace g.D.Disk c.args.paths.file.now c.args.paths.journal.now task (option_copied c.args.file_bytes) (numbers g.D.Disk c.in_ok-found.found) _ _
          c.prepare.ensures.same given c.in_ok-found.ensures.begins),
    )
