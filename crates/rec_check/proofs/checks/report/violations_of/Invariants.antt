use Rattle.std.proofs.Common.{length, map}
use Rattle.rec_text.specs.Places.{pieces_of}
use Rattle.rec_check.specs.Stored.{rules_stored}
use Rattle.rec_check.proofs.lemmas.DescribedLemmas.{IsReported}
use Rattle.rec_check.proofs.checks.report.violations_of.Given as goal

abbrev pub invariant-loop-set : goal.invariant-loop-set
invariant-loop-set l = IsReported l.database (pieces_of l.lines.elements.now) l.records l.sets (map rules_stored l.rules) (length l.yielded) l.lines.passed l.found.items
