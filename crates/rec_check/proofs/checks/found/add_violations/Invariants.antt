use Rattle.std.proofs.Common.{◌≡◌, ◌++◌, take}
use Rattle.rec_text.specs.Bytes.{texts}
use Rattle.rec_check.specs.Violations.{violations_of}
use Rattle.rec_check.proofs.checks.found.add_violations.Given as goal

abbrev pub invariant-loop-name : goal.invariant-loop-name
invariant-loop-name l = l.found.items ≡ l.fn.found.items ++ violations_of l.line l.rule (texts (take l.name-index l.names))
