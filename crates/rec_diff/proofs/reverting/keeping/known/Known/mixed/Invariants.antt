use Rattle.std.proofs.Common.{List}
use Rattle.rec_diff.specs.Changes.{Stretch}
use Rattle.rec_diff.specs.proving.Keeping.{AreBeside, IsOneWhole}
use Rattle.rec_diff.specs.proving.Reading.{placed_of}
use Rattle.rec_diff.proofs.lemmas.reverting.KeepingLemmas.{AreThoseIn}
use Rattle.rec_diff.proofs.reverting.keeping.known.Known.mixed.Given as goal

-- those so far
abbrev pub invariant-loop-number : goal.invariant-loop-number
invariant-loop-number l = (ahead back : List Stretch) → AreBeside l.fn.self ahead back
    → AreThoseIn (IsOneWhole ahead back (placed_of l.fn.self.readings.now.before) (placed_of l.fn.self.readings.now.here)) (placed_of l.fn.self.readings.now.left) l.number l.mixed.items
