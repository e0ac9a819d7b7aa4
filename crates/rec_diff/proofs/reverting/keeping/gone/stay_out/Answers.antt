use Rattle.std.proofs.Common.{◌≡◌, ◌<◌, ◌∙◌, ◌++◌, true, false, ap, filter, length, map, refl, subst, sym}
use Rattle.std.specs.List.{AllByRecursion, AllZip}
use Rattle.std.proofs.lemmas.Bool.{false≢true}
use Rattle.rec_text.specs.declared.element.Element.{Element}
use Rattle.rec_diff.specs.Making.{IsTakenOut, StaysAmong}
use Rattle.rec_diff.specs.Placed.{Placed, is_field}
use Rattle.rec_diff.specs.proving.Keeping.{AreAfter, all_out, is_out_by, later_steps}
use Rattle.rec_diff.specs.proving.Reading.{AreTurnsOf, IsNumber, placed, placed_of, text_of_reading}
use Rattle.rec_diff.proofs.lemmas.reverting.AmongLemmas.{element_of}
use Rattle.rec_diff.proofs.lemmas.reverting.FoundLemmas.{found_change, found_parts, found_turns, lead_both, one_change_by}
use Rattle.rec_diff.proofs.lemmas.reverting.ListLemmas.{all_from}
use Rattle.rec_diff.proofs.lemmas.reverting.PlacesKeptLemmas.{change_of_steps}
use Rattle.rec_diff.proofs.lemmas.reverting.SharingLemmas.{element_some}
use Rattle.rec_diff.proofs.lemmas.reverting.TogetherLemmas.{all_are_out, none_out, out_all, stay_from, stay_to, turns_in_order}
use Rattle.rec_diff.proofs.reverting.keeping.gone.stay_out.Goals as goal

pub returns-then-not-take_out : goal.returns-then-not-take_out
returns-then-not-take_out c = λ left change later ahead back led read.
    let edits = c.args.edits in
    let r = c.args.readings.now in
    let ts = c.args.woven.now.change.items in
    let none = sym (c.take_out.ensures) ∙ c.if-not-take_out.true in
    let (all, is) = change_of_steps (edits.steps.now ++ later_steps edits) edits.before.now edits.here.now
    (lead_both edits.steps.now (later_steps edits) edits.before.now edits.after.now edits.here.now c.requires.own c.requires.later) in (
      λ e. (
        all,
        is,
        stay_from change all edits.before.now edits.after.now ts led.change_turns (placed_of r.before).elements (placed_of r.here).elements
            (all_from (λ x. is_out_by ts x ≡ true → StaysAmong all (placed_of r.here).elements x → ⊥) (placed_of r.before).elements
            (λ k x at out there. false≢true (sym (subst (λ l. is_out_by l x ≡ false) c.deref.ensures.value (none_out c.deref.result.now x none)) ∙ out))),
      ),
      λ s. refl,
    )

pub numbers_in-requires-clause-turns : goal.numbers_in-requires-clause-turns
numbers_in-requires-clause-turns c =
    let edits = c.args.edits in
    let r = c.args.readings.now in
    let (left, is_led, read) = c.requires.led in
    let parts = found_parts c.in_ok-turns.ensures in (
      parts,
      subst (AreTurnsOf parts (text_of_reading r.before) (text_of_reading r.here)) (sym c.deref-2.ensures.value)
          (subst (λ t. AreTurnsOf parts t (text_of_reading r.here) c.in_ok-turns.turns.items) (sym read.is_before)
          (subst (λ t. AreTurnsOf parts edits.before.now t c.in_ok-turns.turns.items) (sym read.is_here) (found_turns c.in_ok-turns.ensures))),
    )

pub are_still_out-requires-clause-order : goal.are_still_out-requires-clause-order
are_still_out-requires-clause-order c =
    let edits = c.args.edits in
    let (left, (change, later, ahead, back, led), read) = c.requires.led in
    (0, subst (AreAfter 0) (sym c.deref-3.ensures.value) (turns_in_order edits.before.now edits.after.now 0 0 c.args.woven.now.change.items led.change_turns.order))

pub are_still_out-requires-clause-some : goal.are_still_out-requires-clause-some
are_still_out-requires-clause-some c =
    let r = c.args.readings.now in
    let (left, is_led, read) = c.requires.led in
    let es = c.elements.result.now in
    all_from (λ (e : Element). 0 < length e.raw.now) es (λ k e at. element_some r.before read.before k (placed e) (element_of r.before es k e c.elements.ensures.elements at))

pub returns : goal.returns
returns c = λ left change later ahead back led read.
    let edits = c.args.edits in
    let r = c.args.readings.now in
    let es = c.elements.result.now in
    let ts = c.args.woven.now.change.items in
    let H = (placed_of r.here).elements in
    let steps = edits.steps.now ++ later_steps edits in
    let all = found_parts c.in_ok-turns.ensures in
    let is = found_change c.in_ok-turns.ensures in
    let turned : AreTurnsOf all (text_of_reading r.before) (text_of_reading r.here) c.deref-2.result.now =
    subst (AreTurnsOf all (text_of_reading r.before) (text_of_reading r.here)) (sym c.deref-2.ensures.value)
    (subst (λ t. AreTurnsOf all t (text_of_reading r.here) c.in_ok-turns.turns.items) (sym read.is_before)
    (subst (λ t. AreTurnsOf all edits.before.now t c.in_ok-turns.turns.items) (sym read.is_here) (found_turns c.in_ok-turns.ensures))) in
    let numbers = c.deref-4.result.now in
    let numbered : AllZip (IsNumber all H) (map placed es) numbers =
    subst (λ l. AllZip (IsNumber all H) l numbers) (sym c.elements.ensures.elements)
    (subst (AllZip (IsNumber all H) (placed_of r.before).elements) (sym c.deref-4.ensures.value) (c.in_ok-numbers.ensures all turned)) in
    let told : c.are_still_out.result ≡ all_out ts es numbers = c.are_still_out.ensures ∙ ap (λ l. all_out l es numbers) c.deref-3.ensures.value in
    let Out = λ (x : Placed). is_out_by ts x ≡ true → StaysAmong all H x → ⊥ in (
      λ e. (
        all,
        is,
        stay_from change all edits.before.now edits.after.now ts led.change_turns (placed_of r.before).elements H
            (subst (AllByRecursion Out) c.elements.ensures.elements (out_all all H ts es numbers numbered (sym told ∙ e))),
      ),
      λ (other, is_other, each).
          let same = one_change_by steps edits.before.now edits.here.now other all is_other is in
          let each_too = subst (λ p. AllByRecursion (λ x. IsTakenOut change x → StaysAmong p H x → ⊥) (filter is_field (placed_of r.before).elements)) same each in
          told
          ∙ all_are_out all H ts es numbers numbered
          (subst (AllByRecursion Out) (sym c.elements.ensures.elements) (stay_to change all edits.before.now edits.after.now ts led.change_turns (placed_of r.before).elements H each_too)),
    )
