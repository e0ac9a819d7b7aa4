use Rattle.std.proofs.Common.{List, refl, sym, subst, ◌∙◌}
use Rattle.std.specs.Prelude.{Any}
use Rattle.std.proofs.lemmas.Bool.{false≢true}
use Rattle.rec_text.specs.Elements.{Piece}
use Rattle.rec_select.specs.Selection.{HasValue}
use Rattle.rec_select.proofs.lemmas.selection.FilterLemmas.{any_at, any_later}
use Rattle.rec_select.proofs.filter.any_has_value.Goals as goal

pub loop-element-init : goal.loop-element-init
loop-element-init c =
    let P : List Piece → Type 0 = λ pieces. Any (HasValue c.args.wanted.now) pieces in
    λ some. subst P (sym c.elements-element-items.ensures) some

pub returns-then-branch-clause-has : goal.returns-then-branch-clause-has
returns-then-branch-clause-has c =
    let P : List Piece → Type 0 = λ pieces. Any (HasValue c.args.wanted.now) pieces in
    let here = any_at (HasValue c.args.wanted.now) c.elements-element-items.result.now c.loop-element.element-index _ c.loop-element-test.true (c.in_ok-has_value.ensures.has.0 c.if-branch.true) in
    (λ _. subst P c.elements-element-items.ensures here, λ _. refl)

pub loop-element-preserved : goal.loop-element-preserved
loop-element-preserved c = λ some.
    any_later (HasValue c.args.wanted.now) c.elements-element-items.result.now c.loop-element.element-index _ c.loop-element-test.true
    (λ has. absurd (false≢true (sym c.if-branch.false ∙ c.in_ok-has_value.ensures.has.1 has))) (c.loop-element.invariant some)
