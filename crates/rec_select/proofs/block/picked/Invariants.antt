use Rattle.std.proofs.Common.{◌≡◌, take}
use Rattle.std.specs.Prelude.{filter_map, slice_get}
use Rattle.rec_text.specs.Places.{pieces_of}
use Rattle.rec_select.proofs.block.picked.Given as goal

abbrev pub invariant-loop-place : goal.invariant-loop-place
invariant-loop-place l = pieces_of l.elements.items ≡ filter_map (λ place. slice_get (pieces_of l.fields) place) (take l.place-index l.place-items)
