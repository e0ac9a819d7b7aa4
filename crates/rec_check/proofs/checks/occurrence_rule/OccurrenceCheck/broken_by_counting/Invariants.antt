use Rattle.std.proofs.Common.{◌≡◌, take}
use Rattle.rec_text.specs.Places.{pieces_of}
use Rattle.rec_check.specs.Checks.{breaking}
use Rattle.rec_text.specs.Bytes.{texts}
use Rattle.rec_check.proofs.checks.occurrence_rule.OccurrenceCheck.broken_by_counting.Given as goal

abbrev pub invariant-loop-name : goal.invariant-loop-name
invariant-loop-name l = texts l.broken.items ≡ breaking l.self.rule (texts (take l.name-index l.name-items)) (pieces_of l.fields)
