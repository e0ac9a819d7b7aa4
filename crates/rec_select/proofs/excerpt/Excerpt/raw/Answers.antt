use Rattle.std.proofs.Common.{ap, ◌∙◌, arith, rules}
use Rattle.rec_text.specs.Elements.{text_of}
use Rattle.rec_select.proofs.lemmas.printing.ExcerptLemmas.{ends_within, in_order, text_between}
use Rattle.rec_select.proofs.excerpt.Excerpt.raw.Goals as goal

pub overflow_add-result : goal.overflow_add-result
overflow_add-result c =
    let within = ends_within _ _ _ c.self.invariant c.in-Some-Some.ensures'.value in
    omega (arith, within)

pub slice_bounds-result-count : goal.slice_bounds-result-count
slice_bounds-result-count c = in_order _ _ _ c.self.invariant c.in-Some-Some.ensures'.value _ c.in-Some-Some.ensures.value

pub slice_bounds-result-start : goal.slice_bounds-result-start
slice_bounds-result-start c =
    let within = ends_within _ _ _ c.self.invariant c.in-Some-Some.ensures'.value in
    let ordered = in_order _ _ _ c.self.invariant c.in-Some-Some.ensures'.value _ c.in-Some-Some.ensures.value in
    search rules

pub slice_bounds-result-end-2 : goal.slice_bounds-result-end-2
slice_bounds-result-end-2 c =
    let within = ends_within _ _ _ c.self.invariant c.in-Some-Some.ensures'.value in
    search rules

pub returns-clause-text : goal.returns-clause-text
returns-clause-text c = text_between _ _ _ c.self.invariant c.in-Some-Some.ensures'.value _ c.in-Some-Some.ensures.value ∙ ap text_of c.self.view_is
