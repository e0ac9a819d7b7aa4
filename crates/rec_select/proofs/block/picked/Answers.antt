use Rattle.std.proofs.Common.{◌∙◌, ap}
use Rattle.rec_select.proofs.lemmas.printing.BlockLemmas.{picked_with, picked_without}
use Rattle.rec_select.proofs.block.picked.Goals as goal
use Rattle.rec_select.proofs.block.picked.Goals.{in-Some+in_ok-push, in_default}

pub loop-place-preserved : goal.loop-place-preserved
loop-place-preserved c =
    elim c.match-get.branch [
      | in-Some+in_ok-push w ↦
          let found = w.in-Some.ensures.lookup.3 in
          picked_with c.args.fields.now c.deref-place-items.result.now c.loop-place.place-index c.loop-place.elements.items c.match-get.elements.items
          w.in-Some.field.now c.loop-place-test.true found.0 (found.1 w.in-Some.field.now) (ap (λ v. v.items) w.elements-is ∙ w.in_ok-push.ensures.items) c.loop-place.invariant
      | in_default w ↦
          rw w.elements-is
          (picked_without c.args.fields.now c.deref-place-items.result.now c.loop-place.place-index c.loop-place.elements.items c.loop-place-test.true w.in_default.ensures.lookup.3
          c.loop-place.invariant)
    ]
