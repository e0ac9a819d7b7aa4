use Rattle.std.proofs.Common.{List, take}
use Rattle.rec_diff.specs.Changes.{Stretch}
use Rattle.rec_diff.specs.proving.Keeping.{AreBeside, AreOthers, HaveNoOther, IsPutBy}
use Rattle.rec_diff.specs.proving.Reading.{placed_of}
use Rattle.rec_diff.proofs.reverting.keeping.known.Known.others_than.Given as goal

-- those so far
abbrev pub invariant-loop-record : goal.invariant-loop-record
invariant-loop-record l = (ahead back : List Stretch) → AreBeside l.fn.self ahead back
    → HaveNoOther ahead back (placed_of l.fn.self.readings.now.before) (placed_of l.fn.self.readings.now.here) (placed_of l.fn.self.readings.now.left)
    → AreOthers (IsPutBy l.led ahead back (placed_of l.fn.self.readings.now.before) (placed_of l.fn.self.readings.now.here) (placed_of l.fn.self.readings.now.left))
    (placed_of l.fn.self.readings.now.left) (take l.record-index l.records) l.others.items
