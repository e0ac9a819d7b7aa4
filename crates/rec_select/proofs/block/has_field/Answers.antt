use Rattle.std.proofs.Common.{sym}
use Rattle.rec_select.proofs.lemmas.printing.BlockLemmas.{is_field-at, is_field-more}
use Rattle.rec_select.proofs.block.has_field.Goals as goal

pub returns-in-Field : goal.returns-in-Field
returns-in-Field c = sym (is_field-at c.args.elements.now c.loop-element.element-index _ c.loop-element-test.true c.in-Field.is)

pub loop-element-preserved : goal.loop-element-preserved
loop-element-preserved c = is_field-more c.args.elements.now c.loop-element.element-index _ c.loop-element-test.true c.in_default.not-Field c.loop-element.invariant
