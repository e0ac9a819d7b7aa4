use Rattle.std.proofs.Common.{◌∙◌, sym}
use Rattle.std.specs.Slice.Iter.{iter_rest}
use Rattle.std.specs.Iterator.Adapters.{zip_first, zip_second}
use Rattle.std.proofs.lemmas.Slice.Zip.{either_empty_from_Zip}
use Rattle.rec_diff.proofs.lemmas.reverting.TogetherLemmas.{out_at_end}
use Rattle.rec_diff.proofs.reverting.keeping.gone.are_still_out.Goals as goal

pub returns : goal.returns
returns c =
    let now = c.loop-element.element-iterator in
    sym
    (out_at_end c.args.turns.now (iter_rest (zip_first now)) (iter_rest (zip_second now)) (either_empty_from_Zip now c.next.new.self c.next.result c.in-None.is c.next.ensures.steps))
    ∙ c.loop-element.invariant.out
