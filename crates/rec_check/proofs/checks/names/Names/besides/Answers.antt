use Rattle.std.proofs.Common.{◌∙◌, ℕ, List, [], ap, sym}
use Rattle.std.specs.Borrow.{Bor}
use Rattle.rec_text.specs.Bytes.{texts}
use Rattle.rec_check.proofs.lemmas.checks.NamePlaceLemmas.{beside_added, beside_passed}
use Rattle.rec_check.proofs.checks.names.Names.besides.Goals as goal
use Rattle.rec_check.proofs.checks.names.Names.besides.Goals.{then-not-contains+in_ok-push, else-not-contains}

pub loop-place-preserved : goal.loop-place-preserved
loop-place-preserved c =
    let all = c.as_slice-all.result.now in
    let i = c.loop-place.place-counter in
    let nothing : Bor (List ℕ) = record { ref_ptr = (0, 0); now = [] } in
    let found = c.loop-place.names.items in
    elim c.if-not-contains.branch [
      | then-not-contains+in_ok-push w ↦
          ap (λ vec. texts vec.items) w.names-is
          ∙ beside_added c.args.places.now.keys all found i nothing c.loop-place-test.true c.loop-place.invariant w.push.new.self.items (sym c.contains.ensures
          ∙ w.if-not-contains.true) w.in_ok-push.ensures.items
      | else-not-contains w ↦
          ap (λ vec. texts vec.items) w.names-is
          ∙ beside_passed c.args.places.now.keys all found i nothing c.loop-place-test.true c.loop-place.invariant (sym c.contains.ensures ∙ w.if-not-contains.false)
    ]
