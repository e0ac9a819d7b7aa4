use Rattle.rec_select.specs.proving.Blocks.{in_form}
use Rattle.rec_select.proofs.lemmas.printing.PutsLemmas.{Prints-stopped, HasStopped-within}
use Rattle.rec_select.proofs.lemmas.printing.BlockLemmas.{flat_map_at}
use Rattle.rec_select.proofs.block.write_elements.Goals as goal

pub returns-in_err-write_element : goal.returns-in_err-write_element
returns-in_err-write_element g c =
    let parts = flat_map_at (in_form c.args.form) c.args.elements.now c.loop-element.element-index _ c.loop-element-test.true in
    Prints-stopped c.from_residual.result c.from_residual.ensures.1 (HasStopped-within _ _ parts c.loop-element.invariant c.in_err-write_element.ensures)
