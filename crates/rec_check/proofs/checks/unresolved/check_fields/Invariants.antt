use Rattle.std.proofs.Common.{◌≡◌, ◌++◌, ◌+◌, ◌≤◌, take}
use Rattle.rec_text.specs.Places.{pieces_of}
use Rattle.rec_check.specs.proving.Resolved.{resolved_by}
use Rattle.rec_check.specs.Violations.{unresolved_violations}
use Rattle.rec_check.proofs.checks.unresolved.check_fields.Given as goal

abbrev pub invariant-loop-i : goal.invariant-loop-i
invariant-loop-i l = record {
  found : l.found.items ≡ l.fn.found.items ++ unresolved_violations (pieces_of l.fn.lines.elements.now) (resolved_by l.resolver) l.start (pieces_of (take l.i l.fields));
  passed : l.lines.passed ≤ l.start + l.i;
  elements : l.lines.elements.now ≡ l.fn.lines.elements.now;
}
