use Rattle.std.proofs.Common.{take, flat_map}
use Rattle.rec_text.specs.Places.{pieces_of}
use Rattle.rec_select.specs.proving.Blocks.{in_form}
use Rattle.rec_select.specs.Taken.{HasTaken}
use Rattle.rec_select.proofs.block.write_elements.Given as goal

abbrev pub invariant-loop-element : goal.invariant-loop-element
invariant-loop-element g l =
    HasTaken g.S.Sink.contents g.S.Sink.failure_count l.fn.out l.out (flat_map (in_form l.form) (pieces_of (take l.element-index l.elements)))
