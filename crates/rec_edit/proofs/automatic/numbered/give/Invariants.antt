use Rattle.std.proofs.Common.{ℕ, ℤ, List}
use Rattle.rec_check.specs.Counters.{AreCounters}
use Rattle.rec_check.specs.Rules.{Rules}
use Rattle.rec_edit.specs.proving.Filling.{numbered, AreNamesOf}
use Rattle.rec_edit.proofs.lemmas.automatic.NumberLemmas.{IsGivenUpTo}
use Rattle.rec_edit.proofs.automatic.numbered.give.Given as goal

abbrev pub invariant-loop-i : goal.invariant-loop-i
invariant-loop-i l = (rules : Rules) (numbers : List ℕ → List ℤ) (own : List (List ℕ)) → AreCounters rules numbers l.fn.counters → AreNamesOf l.fn.names own
    → IsGivenUpTo rules numbers own l.fn.counters l.counters l.i (numbered l.given.items)
