use Rattle.std.proofs.Common.{◌≡◌, ◌≤◌, ◌++◌, length}
use Rattle.std.specs.List.{AllByRecursion}
use Rattle.rec_text.specs.Places.{pieces_of}
use Rattle.rec_text.specs.Records.{AreAscending, IsRecord}
use Rattle.rec_diff.specs.proving.Reading.{IsReadSoFar, ranges_of}
use Rattle.rec_diff.proofs.reverting.reading.Reading.of_database.Given as goal

-- the records so far, and those that are left, in order
abbrev pub invariant-loop-range : goal.invariant-loop-range
invariant-loop-range l = record {
  so_far : IsReadSoFar (pieces_of l.elements) l.records;
  ranges : ranges_of l.records.each.items ++ l.range-iterator ≡ l.initial.range-iterator;
  each : AllByRecursion (IsRecord (pieces_of l.elements)) l.range-iterator;
  fit : length l.records.owners.items ≤ length l.elements;
  ascending : AreAscending (length l.records.owners.items) l.range-iterator;
}
