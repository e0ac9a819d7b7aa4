use Rattle.std.proofs.Common.{List, refl, sym, subst, ◌∙◌}
use Rattle.std.specs.Prelude.{Any}
use Rattle.std.proofs.lemmas.Bool.{false≢true}
use Rattle.rec_text.specs.Elements.{Piece}
use Rattle.rec_select.specs.proving.Filters.{HasText}
use Rattle.rec_select.proofs.lemmas.selection.FilterLemmas.{any_at, any_later}
use Rattle.rec_select.proofs.lemmas.selection.OneLineLemmas.{not_in_line}
use Rattle.rec_select.proofs.filter.any_has_text.Goals as goal

pub loop-element-init : goal.loop-element-init
loop-element-init c =
    let P : List Piece → Type 0 = λ pieces. Any (HasText c.args.text.now) pieces in
    λ some. subst P (sym c.elements-element-items.ensures) some

pub returns-then-branch-clause-has : goal.returns-then-branch-clause-has
returns-then-branch-clause-has c =
    let P : List Piece → Type 0 = λ pieces. Any (HasText c.args.text.now) pieces in
    let here = any_at (HasText c.args.text.now) c.elements-element-items.result.now c.loop-element.element-index _ c.loop-element-test.true (c.in_ok-has_text.ensures.has.0 c.if-branch.true) in
    (λ _. subst P c.elements-element-items.ensures here, λ _. refl)

pub loop-element-preserved-then-is_line : goal.loop-element-preserved-then-is_line
loop-element-preserved-then-is_line c = λ some.
    any_later (HasText c.args.text.now) c.elements-element-items.result.now c.loop-element.element-index _ c.loop-element-test.true
    (not_in_line _ _ _ _ _ c.raw.ensures.text c.elements-element-items.ensures c.find.ensures c.if-not-occurs.ensures _ _ c.loop-element-test.true c.if-is_line.ensures) (c.loop-element.invariant some)

pub loop-element-preserved : goal.loop-element-preserved
loop-element-preserved c = λ some.
    any_later (HasText c.args.text.now) c.elements-element-items.result.now c.loop-element.element-index _ c.loop-element-test.true
    (λ has. absurd (false≢true (sym c.if-branch.false ∙ c.in_ok-has_text.ensures.has.1 has))) (c.loop-element.invariant some)
