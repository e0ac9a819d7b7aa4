use Rattle.std.proofs.Common.{◌≡◌, ◌⊎◌, List, None}
use Rattle.rec_check.specs.proving.Resolved.{AreAtWork, AreRight, ArePlacesWithin, StaySettled, open_at}
use Rattle.rec_check.specs.Types.{Definition}
use Rattle.rec_check.proofs.lemmas.field_types.ResolvedLemmas.{count_open}
use Rattle.rec_check.proofs.field_types.resolution.follow.Given as goal

abbrev pub invariant-loop-next : goal.invariant-loop-next
invariant-loop-next l = record {
  work : (definitions : List Definition) → AreRight definitions l.fn.meanings → AreAtWork definitions l.passed.items l.at l.meanings;
  start : (l.at ≡ l.start) ⊎ (open_at l.meanings l.start ≡ None);
  settled : StaySettled l.fn.meanings l.meanings;
  within : ArePlacesWithin l.passed.items l.meanings;
}

abbrev pub decreases-loop-next : goal.decreases-loop-next
decreases-loop-next l = count_open l.meanings
