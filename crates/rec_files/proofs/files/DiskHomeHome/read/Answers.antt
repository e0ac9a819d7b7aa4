use Rattle.std.specs.Prelude.{string_bytes}
use Rattle.std.proofs.Common.{subst, sym, ◌∙◌}
use Rattle.rec_tools.specs.Home.{got, CountsOne}
use Rattle.rec_files.specs.OnDisk.{IsReadOf}
use Rattle.rec_files.specs.Succeeding.{NotesRead, ReadsRegular, GoesOn, IsLastOf, kept}
use Rattle.rec_files.proofs.lemmas.Home.{read_got, read_lacked, read_unread}
use Rattle.rec_files.proofs.lemmas.Noting.{fault_careful}
use Rattle.rec_files.proofs.lemmas.Succeeding.{read_excused, noted_memory, told_fact}
use Rattle.rec_files.proofs.files.DiskHomeHome.read.Goals as goal

pub returns-in-Ok-clause-call : goal.returns-in-Ok-clause-call
returns-in-Ok-clause-call g c =
    let disk = g.D.Disk in
    let home = c.args.self.now in
    let after = c.next_bytes.new.self in
    let is = c.from_vec.ensures in (
      read_got disk home after c.args.which c.next_bytes.ensures.paths.0 c.next_bytes.ensures.paths.1 c.next_bytes.ensures.same c.from_vec.result c.in-Ok.ensures.there
          c.next_bytes.ensures.kept (subst (IsReadOf disk home c.args.which) (sym is) c.in-Ok.ensures.read),
      (
        record { works_still = λ works. (c.next_bytes.ensures.succeeds works).0; for_memory = λ works had. absurd (told_fact ⊥ _ had) },
        record {
          access = c.next_bytes.ensures.access;
          only_regular = subst (λ bytes. ReadsRegular disk (kept disk home) (disk.story home.disk) (got c.args.which bytes)) (sym is) c.in-Ok.ensures.regular;
          reads = λ changes.
              subst (λ bytes. NotesRead disk (kept disk home) (kept disk after) (disk.story home.disk) (got c.args.which bytes)) (sym is) (c.in-Ok.ensures.noted changes);
          puts = tt;
          goes_on = subst (λ bytes. GoesOn disk (kept disk home) (kept disk after) (disk.story home.disk) (got c.args.which bytes)) (sym is) c.in-Ok.ensures.goes_on;
          last = c.next_bytes.ensures.last;
        },
      ),
    )

pub returns-in-Err-clause-call : goal.returns-in-Err-clause-call
returns-in-Err-clause-call g c = (
  read_lacked g.D.Disk c.args.self.now c.next_bytes.new.self c.args.which c.next_bytes.ensures.paths.0 c.next_bytes.ensures.paths.1 c.next_bytes.ensures.same c.next_bytes.ensures.kept,
  (
    record { works_still = λ works. (c.next_bytes.ensures.succeeds works).0; for_memory = λ works had. absurd (told_fact ⊥ _ had) },
    record { access = c.next_bytes.ensures.access; only_regular = tt; reads = λ changes. tt; puts = tt; goes_on = tt; last = c.next_bytes.ensures.last },
  ),
)

pub returns-in-Err-2-clause-call : goal.returns-in-Err-2-clause-call
returns-in-Err-2-clause-call g c =
    let disk = g.D.Disk in
    let home = c.args.self.now in
    let after = c.fail.new.self in
    let failed = c.fail.ensures in
    let read = c.next_bytes.ensures in (
      read_unread disk home after c.args.which (failed.paths.0 ∙ read.paths.0) (failed.paths.1 ∙ read.paths.1) (failed.same ∙ read.same) c.fail.result failed.fault
          (subst (λ failed. CountsOne failed after.failed) read.kept (failed.counted, failed.once)),
      (
        read_excused disk home after c.args.which c.fail.result failed.fault (λ works. failed.works (read.succeeds works).0)
            (λ works had. noted_memory _ _ failed.noted ((c.in-Err.ensures.succeeds works).1 had)),
        fault_careful disk home after c.args.which c.fail.result failed.fault (failed.access ∙ read.access)
            (subst (λ last. IsLastOf disk (string_bytes home.journal) home.last last (disk.story home.disk)) (sym failed.last) read.last),
      ),
    )
