use Rattle.rec_select.proofs.lemmas.printing.ExcerptLemmas.{IsExcerpt-whole}
use Rattle.rec_select.proofs.excerpt.Excerpt.of.Goals as goal

pub invariant_of-result : goal.invariant_of-result
invariant_of-result c = IsExcerpt-whole _ _ _ c.text.ensures.text c.elements.ensures.pieces c.elements.ensures.whole c.elements.ensures.places
