use Rattle.std.proofs.Common.{◌≡◌, take}
use Rattle.rec_text.specs.Places.{pieces_of}
use Rattle.rec_check.specs.proving.Names.{allows}
use Rattle.rec_check.proofs.lemmas.checks.NameLemmas.{others}
use Rattle.rec_check.proofs.checks.allowed.Allowed.others.Given as goal

abbrev pub invariant-loop-field : goal.invariant-loop-field
invariant-loop-field l = l.names ≡ others (allows l.self) (pieces_of (take l.field-index l.fields))
