use Rattle.std.proofs.Common.{◌≡◌, take}
use Rattle.rec_text.specs.Places.{pieces_of}
use Rattle.rec_check.specs.proving.NamesSeen.{places_of}
use Rattle.rec_check.specs.proving.Singulars.{has_seen}
use Rattle.rec_check.specs.Words.{distinct}
use Rattle.rec_check.proofs.lemmas.checks.SingularLemmas.{has_broken}
use Rattle.rec_check.proofs.checks.singular.Singular.broken.Given as goal

abbrev pub invariant-loop-field : goal.invariant-loop-field
invariant-loop-field l = distinct l.self.names ≡ l.self.names → l.broken.keys ≡ places_of (has_broken (has_seen l.self) (pieces_of (take l.field-index l.fields))) l.self.names
