use Rattle.std.proofs.Common.{◌≡◌, List, take}
use Rattle.std.specs.List.{AllByRecursion, AllZip}
use Rattle.rec_diff.specs.declared.turn.Turn.{Turn}
use Rattle.rec_diff.specs.Changes.{Stretch}
use Rattle.rec_diff.specs.Making.{StaysAmong}
use Rattle.rec_diff.specs.Placed.{PlacedRecord}
use Rattle.rec_diff.specs.proving.Reading.{AreNumbers, AreTurnsOf, IsMadeOf, placed_of, text_of_reading}
use Rattle.rec_diff.proofs.reverting.keeping.together.all_again.Given as goal

-- those so far
abbrev pub invariant-loop-spread : goal.invariant-loop-spread
invariant-loop-spread l = record {
  index : l.number ≡ l.spread-index;
  made : (parts : List Stretch) (turns : List Turn) → AreTurnsOf parts (text_of_reading l.one) (text_of_reading l.other) turns → AreNumbers parts (placed_of l.one) (placed_of l.other) l.numbers
      → AllZip (IsMadeOf (λ (own its : PlacedRecord). AllByRecursion (StaysAmong parts its.fields) own.fields) (placed_of l.other).records) (take l.number (placed_of l.one).records) l.again.items;
}
