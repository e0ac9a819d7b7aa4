use Rattle.std.proofs.Common.{◌∙◌, ap, length, subst, sym}
use Rattle.rec_diff.specs.proving.Numbering.{AreInOrder}
use Rattle.rec_diff.specs.proving.Weaving.{at_start}
use Rattle.rec_diff.proofs.lemmas.reverting.NumberLemmas.{length-places_there, places_in_order}
use Rattle.rec_diff.proofs.reverting.numbering.numbers.Goals as goal

pub numbers_at-requires-clause-in_order : goal.numbers_at-requires-clause-in_order
numbers_at-requires-clause-in_order c =
    subst (AreInOrder 0) (sym (c.deref.ensures.value ∙ c.in_ok-places.ensures))
    (places_in_order c.args.last c.args.turns.now c.args.elements.now c.requires.in_step c.requires.elements)

pub numbers_at-requires-clause-lengths : goal.numbers_at-requires-clause-lengths
numbers_at-requires-clause-lengths c =
    ap length (c.deref.ensures.value ∙ c.in_ok-places.ensures) ∙ length-places_there at_start c.args.turns.now c.args.elements.now
