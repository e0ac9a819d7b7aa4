use Rattle.std.proofs.Common.{◌≡◌, ◌++◌, [], ℕ, List, drop, map, take}
use Rattle.std.specs.declared.ops.Range.{Range}
use Rattle.rec_text.specs.Places.{pieces_of}
use Rattle.rec_text.specs.Records.{AreAscending, elements_in}
use Rattle.rec_check.specs.Checks.{AddsOfRecords}
use Rattle.rec_check.specs.proving.Ready.{IsReady}
use Rattle.rec_check.specs.Rules.{Rules}
use Rattle.rec_check.proofs.checks.checker.Checker.check_all.Given as goal

abbrev pub invariant-loop-record : goal.invariant-loop-record
invariant-loop-record l = record {
  ready : (rules : Rules) → IsReady rules [] l.fn.self → IsReady rules (map (elements_in (pieces_of l.fn.lines.elements.now)) (take l.record-index l.records)) l.self;
  added : (rules : Rules) → IsReady rules [] l.fn.self → AddsOfRecords (pieces_of l.fn.lines.elements.now) rules (take l.record-index l.records) l.fn.found.items l.found.items;
  here : AreAscending l.lines.passed (drop l.record-index l.records);
  ahead : (rest : List (Range ℕ)) → AreAscending l.fn.lines.passed (l.records ++ rest) → AreAscending l.lines.passed (drop l.record-index l.records ++ rest);
  elements : l.lines.elements.now ≡ l.fn.lines.elements.now;
}
