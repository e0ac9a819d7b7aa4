use Rattle.std.proofs.Common.{◌≡◌, map, take}
use Rattle.rec_text.specs.Places.{pieces_of}
use Rattle.rec_sex.specs.Searching.{searched}
use Rattle.rec_check.specs.Checks.{AddsUnselected}
use Rattle.rec_check.specs.proving.Constraints.{terms_in}
use Rattle.rec_check.proofs.checks.constraints.Constraints.check.Given as goal

abbrev pub invariant-loop-i : goal.invariant-loop-i
invariant-loop-i l = record {
  same : map searched l.search-items ≡ terms_in l.fn.self;
  added : AddsUnselected l.line (take l.i (terms_in l.fn.self)) (pieces_of l.fields) l.fn.found.items l.found.items;
}
