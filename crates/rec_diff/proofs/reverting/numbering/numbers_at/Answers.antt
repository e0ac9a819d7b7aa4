use Rattle.std.proofs.Common.{◌∙◌, ◌++◌, ap, append-nil, sym}
use Rattle.std.specs.Slice.Iter.{iter_rest}
use Rattle.std.specs.Iterator.Adapters.{zip_first, zip_second}
use Rattle.std.proofs.lemmas.Slice.Zip.{either_empty_from_Zip}
use Rattle.rec_diff.proofs.lemmas.reverting.NumberLemmas.{no_numbers_there}
use Rattle.rec_diff.proofs.reverting.numbering.numbers_at.Goals as goal

pub returns : goal.returns
returns c =
    let now = c.loop-element.element-iterator in
    let found = c.loop-element.found.items in
    let none = no_numbers_there c.args.others.now (iter_rest (zip_first now)) (iter_rest (zip_second now))
    (either_empty_from_Zip now c.next.new.self c.next.result c.in-None.is c.next.ensures.steps) in
    sym (append-nil found) ∙ ap (found ++◌) (sym none) ∙ c.loop-element.invariant.found
