use Rattle.std.proofs.Common.{◌≡◌, ◌+◌, ◌++◌, take}
use Rattle.rec_diff.specs.proving.Reading.{field_numbers}
use Rattle.rec_diff.proofs.reverting.reading.add_fields.Given as goal

abbrev pub invariant-loop-element : goal.invariant-loop-element
invariant-loop-element l = record {
  place : l.number ≡ l.first + l.element-index;
  added : l.fields.items ≡ l.initial.fields.items ++ field_numbers l.first (take l.element-index l.elements);
}
