use Rattle.std.proofs.Common.{◌≡◌, ◌+◌, take, arith, subst}
use Rattle.rec_disk.specs.Disk.{Told}
use Rattle.rec_files.proofs.lemmas.Steps.{whole_read}
use Rattle.rec_files.proofs.lemmas.Succeeding.{none_too_long}
use Rattle.rec_files.proofs.reading.read_whole.Goals as goal

pub returns-clause-whole : goal.returns-clause-whole
returns-clause-whole g c =
    whole_read (g.D.Disk.number c.args.file.now) 1_073_741_824 c.in_ok-bytes.bytes.items _ (omega (arith, c.if-len-gt-LIMIT.false, c.len.ensures))
    (subst (λ o. Told o (λ s. c.in_ok-bytes.bytes.items ≡ take (1_073_741_824 + 1) (s.bytes (g.D.Disk.number c.args.file.now)))) c.in_ok-status_of.ensures.same
    c.in_ok-bytes.ensures.bytes)

pub returns-then-len-gt-LIMIT-clause-succeeds : goal.returns-then-len-gt-LIMIT-clause-succeeds
returns-then-len-gt-LIMIT-clause-succeeds g c works = (
  (c.in_ok-bytes.ensures.excused (c.in_ok-status_of.ensures.excused works).0).0,
  λ given. absurd (none_too_long (g.D.Disk.number c.args.file.now) 1_073_741_824 c.in_ok-bytes.bytes.items _ _ (omega (arith, c.if-len-gt-LIMIT.true, c.len.ensures))
      c.in_ok-status_of.ensures.same c.in_ok-bytes.ensures.bytes given),
)
