use Rattle.std.proofs.Common.{ap, ◌∙◌}
use Rattle.rec_text.specs.Records.{elements_in}
use Rattle.rec_select.proofs.lemmas.printing.ExcerptLemmas.{IsExcerpt-sliced}
use Rattle.rec_select.proofs.excerpt.Excerpt.part.Goals as goal

pub invariant_of-result : goal.invariant_of-result
invariant_of-result c = rw c.elements_in.ensures.elements (IsExcerpt-sliced _ _ _ _ c.self.invariant)

pub returns : goal.returns
returns c = c.elements_in.ensures.pieces ∙ ap (λ pieces. elements_in pieces c.args.indexes) c.self.view_is
