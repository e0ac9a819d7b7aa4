use Rattle.std.specs.Prelude.{option_copied, option_map, string_bytes}
use Rattle.std.proofs.Common.{refl, ap, true, false}
use Rattle.rec_tools.specs.Home.{writes_by, put_all}
use Rattle.rec_files.specs.Succeeding.{known}
use Rattle.rec_files.proofs.lemmas.Home.{put_done, put_failed}
use Rattle.rec_files.proofs.lemmas.Noting.{finds_noted, only_noted, last_stays}
use Rattle.rec_files.proofs.lemmas.Succeeding.{told_fact, noted_memory, put_needs}
use Rattle.rec_files.proofs.files.DiskHomeHome.put.Goals as goal

pub returns-in-Ok-clause-call : goal.returns-in-Ok-clause-call
returns-in-Ok-clause-call g c =
    let home = c.args.self.now in (
      put_all (writes_by c.args.journal.now (option_copied c.args.file)),
      refl,
      (
        put_done g.D.Disk home _ refl refl c.args.journal.now (option_copied c.args.file) c.path_in.result.now c.as_str.result.now c.path_in.ensures c.as_str.ensures.value true _ refl
            (rw (← c.disk.view_is) c.in-Ok.ensures.goes) refl refl,
        (
          record {
            works_still = rw (← c.disk.view_is) λ works. (c.put.ensures.succeeds works).0;
            for_memory = λ works had. absurd (told_fact ⊥ _ had);
          },
          record {
            access = refl;
            only_regular = tt;
            reads = λ changes. tt;
            puts =
                finds_noted g.D.Disk home c.path_in.result.now c.as_str.result.now c.path_in.ensures c.as_str.ensures.value _ (rw (← c.disk.view_is) c.in-Ok.ensures.noticed);
            goes_on = (refl, (ap (option_map (known g.D.Disk)) c.put.ensures.held.0, ap (option_map (known g.D.Disk)) c.put.ensures.held.1));
            last = tt;
          },
        ),
      ),
    )

pub returns-in-Err-clause-call : goal.returns-in-Err-clause-call
returns-in-Err-clause-call g c =
    let home = c.args.self.now in
    put_failed g.D.Disk home c.fail.new.self c.fail.ensures.paths.0 c.fail.ensures.paths.1 c.args.journal.now (option_copied c.args.file) c.path_in.result.now c.as_str.result.now
    c.path_in.ensures c.as_str.ensures.value false _ c.fail.ensures.same (rw (← c.disk.view_is) c.in-Err.ensures.goes) (λ k. (c.fail.ensures.counted, c.fail.ensures.once)) (λ k. (
      record {
        works_still = rw (← c.disk.view_is) λ works. c.fail.ensures.works (c.put.ensures.succeeds works).0;
        for_memory = rw (← c.disk.view_is) λ works had.
            noted_memory _ _ c.fail.ensures.noted
            ((c.in-Err.ensures.succeeds works).1
            (put_needs g.D.Disk home c.args.journal.now (option_copied c.args.file) c.path_in.result.now c.as_str.result.now _ c.path_in.ensures c.as_str.ensures.value had));
      },
      record {
        access = c.fail.ensures.access;
        only_regular = tt;
        reads = λ changes. tt;
        puts =
            only_noted g.D.Disk home c.path_in.result.now c.as_str.result.now c.path_in.ensures c.as_str.ensures.value _ _ _ c.fail.ensures.same (rw (← c.disk.view_is) c.put.ensures.unchanged);
        goes_on = tt;
        last = last_stays g.D.Disk (string_bytes home.journal) home.last c.fail.new.self.last _ c.fail.ensures.last;
      },
    ))
