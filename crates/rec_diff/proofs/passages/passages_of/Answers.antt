use Rattle.std.proofs.Common.{◌∙◌, get_or, length, length-append, refl, sym, ap, subst, arith}
use Rattle.std.specs.List.{flat_map}
use Rattle.rec_diff.specs.proving.Passages.{ArePassages, passage_text}
use Rattle.rec_diff.proofs.lemmas.PassageLemmas.{no_turn, IsGrouped-as, grouped_first, grouped_near, grouped_far, grouped_text, grouped_order}
use Rattle.rec_diff.proofs.passages.passages_of.Goals as goal
use Rattle.rec_diff.proofs.passages.passages_of.Goals.{then-are_apart+in_ok-push, else-are_apart}

pub loop-index-init : goal.loop-index-init
loop-index-init c =
    let all = c.args.turns.now in
    IsGrouped-as _ _ _ _ _ _ _ _ c.new-passages.ensures.items refl refl
    (grouped_first c.args.texts.before.now c.args.texts.after.now c.args.context all no_turn (get_or all 0 no_turn) c.start_before-start.result c.requires.some refl
    c.requires.kept c.start_before-start.ensures)

pub loop-index-preserved : goal.loop-index-preserved
loop-index-preserved c =
    let all = c.args.turns.now in
    let l = c.loop-index in
    let next = get_or all l.index no_turn in
    let before = c.args.texts.before.now in
    let after = c.args.texts.after.now in
    elim c.if-are_apart.branch [
      | then-are_apart+in_ok-push w ↦
          IsGrouped-as _ _ _ _ _ _ _ _ (ap (λ vec. vec.items) w.passages-is ∙ w.in_ok-push.ensures.items) w.start-is w.first-is
          (grouped_far before after c.args.context all l.passages.items l.start l.first l.end l.index no_turn next l.invariant c.loop-index-test.true refl
          (sym c.are_apart.ensures ∙ w.if-are_apart.true) _ _ refl refl w.end_after.ensures w.start_before-start-then-are_apart.ensures)
      | else-are_apart w ↦
          IsGrouped-as _ _ _ _ _ _ _ _ (ap (λ vec. vec.items) w.passages-is) w.start-is w.first-is
          (grouped_near before after c.args.context all l.passages.items l.start l.first l.end l.index no_turn next l.invariant c.loop-index-test.true refl
          (sym c.are_apart.ensures ∙ w.if-are_apart.false))
    ]

pub returns-clause-some : goal.returns-clause-some
returns-clause-some c =
    let count = ap length c.in_ok-push-2.ensures.items ∙ length-append c.loop-index.passages.items _ in
    omega (arith, count)

pub returns-clause-text : goal.returns-clause-text
returns-clause-text c =
    let all = c.args.turns.now in
    let l = c.loop-index in
    let before = c.args.texts.before.now in
    let after = c.args.texts.after.now in
    ap (flat_map (passage_text before after)) c.in_ok-push-2.ensures.items
    ∙ grouped_text before after c.args.context all l.passages.items l.start l.first l.end l.index l.invariant
    (omega (arith, c.loop-index-test.false)) _ refl refl c.end_after-2.ensures

pub returns-clause-order : goal.returns-clause-order
returns-clause-order c =
    let all = c.args.turns.now in
    let l = c.loop-index in
    let before = c.args.texts.before.now in
    let after = c.args.texts.after.now in
    subst (ArePassages before after 0 0) (sym c.in_ok-push-2.ensures.items)
    (grouped_order before after c.args.context all l.passages.items l.start l.first l.end l.index l.invariant
    (omega (arith, c.loop-index-test.false)) _ refl refl c.end_after-2.ensures)
