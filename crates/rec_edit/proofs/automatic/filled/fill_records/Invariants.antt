use Rattle.std.proofs.Common.{ℕ, ℤ, List}
use Rattle.rec_text.specs.Places.{pieces_of}
use Rattle.rec_check.specs.Counters.{AreCounters}
use Rattle.rec_check.specs.Rules.{Rules}
use Rattle.rec_edit.specs.proving.Filling.{filled_of}
use Rattle.rec_edit.proofs.lemmas.automatic.FillLemmas.{IsFilledUpTo}
use Rattle.rec_edit.proofs.automatic.filled.fill_records.Given as goal

abbrev pub invariant-loop-record : goal.invariant-loop-record
invariant-loop-record l = (rules : Rules) (numbers : List ℕ → List ℤ) → AreCounters rules numbers l.fn.counters
    → IsFilledUpTo (pieces_of l.elements) rules numbers l.records l.record-index (filled_of l.fn.filled.items) (filled_of l.filled.items) l.counters
