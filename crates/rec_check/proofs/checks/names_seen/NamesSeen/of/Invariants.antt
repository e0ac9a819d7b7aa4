use Rattle.std.proofs.Common.{◌≡◌, take}
use Rattle.rec_text.specs.Places.{pieces_of}
use Rattle.rec_check.specs.proving.NamesSeen.{AreNamesSeen}
use Rattle.rec_check.specs.Words.{distinct}
use Rattle.rec_check.proofs.checks.names_seen.NamesSeen.of.Given as goal

abbrev pub invariant-loop-field : goal.invariant-loop-field
invariant-loop-field l = distinct l.names ≡ l.names → AreNamesSeen l.names (pieces_of (take l.field-index l.fields)) l.seen
