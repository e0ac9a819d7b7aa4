use Rattle.std.specs.Prelude.{Some, IsSomeAnd}
use Rattle.std.proofs.Common.{sym, subst, ◌≡◌, ◌∙◌}
use Rattle.rec_disk.specs.Disk.{Told}
use Rattle.rec_tools.specs.declared.home.Which.TheVariants.{Base}
use Rattle.rec_files.specs.Succeeding.{IsShort}
use Rattle.rec_files.proofs.lemmas.Steps.{some_so}
use Rattle.rec_files.proofs.lemmas.Replacing.{told_same}
use Rattle.rec_files.proofs.lemmas.Succeeding.{opened_is_read, still_so}
use Rattle.rec_files.proofs.texts.read_at.Goals as goal

pub returns-clause-succeeds : goal.returns-clause-succeeds
returns-clause-succeeds g c works =
    let p = g.D.Disk.leads c.args.path.now in
    let read = c.read.ensures.succeeds (c.in_ok-opened.ensures.succeeds (c.in_ok-file.ensures.excused works).0).0 in (
      read.0,
      λ given.
          read.1 (opened_is_read g.D.Disk Base c.args.path.now p (λ s n. Unit {0}) (Some c.in_ok-opened.opened) (g.D.Disk.story c.args.disk.now) (g.D.Disk.story c.new.new.disk)
          (subst (λ file. Told (g.D.Disk.story c.args.disk.now) (λ s. s.at p ≡ Some (g.D.Disk.number file))) (sym c.in_ok-opened.ensures.file) c.in_ok-file.ensures.opened)
          (told_same _ (g.D.Disk.story c.args.disk.now) (g.D.Disk.story c.open.new.self) c.open.ensures.same c.in_ok-opened.ensures.seen) (c.new.ensures.same ∙ c.open.ensures.same)
          (still_so (λ s. IsSomeAnd (s.at p) (IsShort s)) (λ s. IsSomeAnd (s.at p) (λ n. IsShort s n × Unit {0})) (g.D.Disk.story c.args.disk.now)
          (λ s there. some_so (s.at p) (IsShort s) (λ n. IsShort s n × Unit {0}) (λ n short. (short, tt)) there) given)),
    )
