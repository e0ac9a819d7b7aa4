use Rattle.std.proofs.Common.{◌/◌}
use Rattle.rec_disk.proofs.lemmas.Escapes.{decimal_octal}
use Rattle.rec_disk.proofs.escaped.OctalDisplay.fmt.Goals as goal

pub returns-clause-writes : goal.returns-clause-writes
returns-clause-writes g c = λ plain ok.
    let byte = c.args.self.now.0 in
    rw (decimal_octal (byte / 64), decimal_octal (byte / 8), decimal_octal byte) at (c.write.ensures.writes plain ok)
