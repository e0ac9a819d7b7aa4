use Rattle.std.proofs.Common.{◌≡◌, ◌<◌, ℕ, List, None}
use Rattle.rec_check.specs.proving.Resolved.{AreRight, open_at}
use Rattle.rec_check.specs.Types.{Definition}
use Rattle.rec_check.proofs.field_types.resolution.resolve_all.Given as goal

abbrev pub invariant-loop-start : goal.invariant-loop-start
invariant-loop-start l = record {
  right : (definitions : List Definition) → AreRight definitions l.fn.meanings → AreRight definitions l.meanings;
  settled : (place : ℕ) → place < l.start → open_at l.meanings place ≡ None;
}
