use Rattle.std.proofs.Common.{ap}
use Rattle.std.specs.Prelude.{option_map, string_bytes}
use Rattle.rec_files.specs.Succeeding.{kept}
use Rattle.rec_files.proofs.lemmas.Noting.{notes_ok, looks_regular}
use Rattle.rec_files.proofs.lemmas.Succeeding.{readable_looked, readable_locked}
use Rattle.rec_files.proofs.files.DiskHome.bytes_of.Goals as goal

pub returns-in-Look-clause-succeeds : goal.returns-in-Look-clause-succeeds
returns-in-Look-clause-succeeds g c works =
    let look = c.look_at.ensures.succeeds works in (
      look.0,
      λ given.
          look.1 (readable_looked string_bytes g.D.Disk _ (string_bytes c.args.self.now.journal) _ c.args.which c.args.self.now.file c.path_in-path.result.now
          c.args.self.now.access _ c.path_in-path.ensures c.in-Look.is given),
    )

pub returns-in-Look-clause-regular : goal.returns-in-Look-clause-regular
returns-in-Look-clause-regular g c =
    looks_regular (λ bytes. bytes.items) g.D.Disk (kept g.D.Disk c.args.self.now) c.args.which c.path_in-path.result.now
    (g.D.Disk.story c.args.self.now.disk) c.look_at.result c.path_in-path.ensures c.look_at.ensures.regular

pub returns-in-Change-clause-succeeds : goal.returns-in-Change-clause-succeeds
returns-in-Change-clause-succeeds g c =
    rw (← c.disk.view_is)
    (λ works.
    let read = c.read.ensures.succeeds works in (
      read.0,
      λ given.
          read.1 (readable_locked string_bytes g.D.Disk _ (string_bytes c.args.self.now.journal) c.args.which c.args.self.now.file c.path_in-path.result.now
          c.args.self.now.access _ c.path_in-path.ensures c.in-Change.is given),
    ))

pub returns-in-Change-clause-noted : goal.returns-in-Change-clause-noted
returns-in-Change-clause-noted g c changes =
    notes_ok g.D.Disk c.args.self.now.access (string_bytes c.args.self.now.journal) c.args.self.now.last _
    c.path_in-path.result.now (λ bytes. bytes.items) c.read.result c.args.which (option_map string_bytes c.args.self.now.file) c.args.self.now.both.file c.args.self.now.both.journal
    c.read.new.self.file c.read.new.self.journal _ c.path_in-path.ensures (ap g.D.Disk.story c.disk.view_is)
    c.read.ensures.noted_file c.read.ensures.noted_journal c.read.ensures.locked c.read.ensures.kept
