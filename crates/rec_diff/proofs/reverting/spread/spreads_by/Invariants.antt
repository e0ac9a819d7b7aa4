use Rattle.std.proofs.Common.{take}
use Rattle.rec_diff.specs.proving.Reading.{AreSpreadsBy, placed_of}
use Rattle.rec_diff.proofs.reverting.spread.spreads_by.Given as goal

-- where the fields of the records so far are
abbrev pub invariant-loop-number : goal.invariant-loop-number
invariant-loop-number l = AreSpreadsBy l.numbers (placed_of l.one) (placed_of l.other) (take l.number (placed_of l.one).records) l.spreads.items
