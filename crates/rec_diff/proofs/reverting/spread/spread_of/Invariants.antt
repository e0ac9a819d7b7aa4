use Rattle.std.proofs.Common.{take}
use Rattle.rec_diff.specs.proving.Reading.{IsFoundIn, IsSpread, placed_of}
use Rattle.rec_diff.proofs.reverting.spread.spread_of.Given as goal

-- where the fields so far are
abbrev pub invariant-loop-field : goal.invariant-loop-field
invariant-loop-field l = IsSpread (IsFoundIn l.numbers (placed_of l.other)) (take l.field-index l.fields) l.spread
