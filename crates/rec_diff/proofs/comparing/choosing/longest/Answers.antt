use Rattle.std.proofs.Common.{◌≡◌, ◌∙◌, ◌+◌, ◌-◌, drop, length, get_or, sym, arith}
use Rattle.std.proofs.lemmas.Bool.{eqb-true, eqb-false}
use Rattle.std.proofs.lemmas.List.{drop_more}
use Rattle.rec_diff.specs.declared.turn.Place.{Place}
use Rattle.rec_diff.proofs.lemmas.comparing.RankLemmas.{chosen_none, chosen_more, chosen_less, some_left}
use Rattle.rec_diff.proofs.comparing.choosing.longest.Goals as goal
use Rattle.rec_diff.proofs.comparing.choosing.longest.Goals.{then-eq+in_ok-push, else-eq}

pub loop-mark-init : goal.loop-mark-init
loop-mark-init c =
    let tops = c.in_ok-ranking.ranking.tops.items in
    let all : c.len-left.result ≡ length tops = omega arith in
    rw (c.in_ok-chosen.ensures.items, all) (chosen_none c.args.marks.now c.in_ok-ranking.ranking c.in_ok-ranking.ensures)

pub loop-mark-preserved : goal.loop-mark-preserved
loop-mark-preserved c =
    let i = c.loop-mark.mark-index in
    let marks = c.args.marks.now in
    let m : Place = get_or marks i (record { old = 0; new = 0 }) in
    let rest = drop (i + 1) marks in
    let left = c.loop-mark.left in
    let ranks = c.loop-mark.ranks in
    let before = rw (drop_more marks i (record { old = 0; new = 0 }) c.loop-mark-test.true) at c.loop-mark.invariant in
    let rank = get_or ranks.items (ranks.len - 1) 0 in
    let some = c.pop.ensures.value 0 (omega (arith, some_left marks c.loop-mark.chosen.items rest m left ranks.items before)) in
    let split = rw some at c.pop.ensures.items in
    let equal = rw some at c.eq.ensures in
    elim c.if-eq.branch [
      | then-eq+in_ok-push w ↦
          rw (w.chosen-is, w.left-is, w.in_ok-push.ensures.items)
          (chosen_more marks c.loop-mark.chosen.items rest m left ranks.items _ rank before split (eqb-true rank left (sym equal ∙ w.if-eq.true)))
      | else-eq w ↦
          rw (w.chosen-is, w.left-is)
          (chosen_less marks c.loop-mark.chosen.items rest m left ranks.items _ rank before split (eqb-false rank left (sym equal ∙ w.if-eq.false)))
    ]
