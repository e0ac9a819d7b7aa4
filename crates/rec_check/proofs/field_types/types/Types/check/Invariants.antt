use Rattle.std.proofs.Common.{◌≡◌, ◌++◌, ◌+◌, ◌≤◌, ℕ, List, take}
use Rattle.rec_text.specs.Places.{pieces_of}
use Rattle.rec_check.specs.Violations.{type_violations}
use Rattle.rec_check.specs.proving.Tests.{type_in}
use Rattle.rec_check.proofs.field_types.types.Types.check.Given as goal

abbrev pub invariant-loop-i : goal.invariant-loop-i
invariant-loop-i l = record {
  found : l.found.items ≡ l.fn.found.items ++ type_violations (pieces_of l.fn.lines.elements.now) (type_in l.fn.self) l.start (pieces_of (take l.i l.fields));
  same : (name : List ℕ) → type_in l.self name ≡ type_in l.fn.self name;
  passed : l.lines.passed ≤ l.start + l.i;
  elements : l.lines.elements.now ≡ l.fn.lines.elements.now;
}
