use Rattle.std.proofs.Common.{take}
use Rattle.rec_check.specs.proving.Resolved.{AreSettledAt}
use Rattle.rec_check.proofs.field_types.resolution.settle.Given as goal

abbrev pub invariant-loop-place : goal.invariant-loop-place
invariant-loop-place l = AreSettledAt (take l.place-index l.places) l.value_type l.fn.meanings l.meanings
