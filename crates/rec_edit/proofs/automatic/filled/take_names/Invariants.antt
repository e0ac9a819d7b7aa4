use Rattle.std.proofs.Common.{take}
use Rattle.rec_text.specs.Places.{pieces_of}
use Rattle.rec_check.specs.Violations.{names_of}
use Rattle.rec_edit.specs.proving.Filling.{AreNamesOf}
use Rattle.rec_edit.proofs.automatic.filled.take_names.Given as goal

abbrev pub invariant-loop-field : goal.invariant-loop-field
invariant-loop-field l = AreNamesOf l.names (names_of (pieces_of (take l.field-index l.fields)))
