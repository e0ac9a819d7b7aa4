use Rattle.std.proofs.Common.{◌≡◌, ◌∙◌, Any, subst, sym}
use Rattle.std.proofs.lemmas.Option.{MatchOption-at_some}
use Rattle.rec_diff.specs.Placed.{PlacedRecord}
use Rattle.rec_diff.specs.proving.Keeping.{AreOthers, IsLedOn, IsPutBy, later_steps}
use Rattle.rec_diff.specs.proving.Reading.{AreMade, placed_of}
use Rattle.rec_diff.proofs.lemmas.reverting.PlacesKeptLemmas.{led_leads, unput}
use Rattle.rec_diff.proofs.lemmas.reverting.StepLemmas.{one_steps_make}
use Rattle.rec_diff.proofs.reverting.keeping.together.others_led.Goals as goal

pub others_than-requires-clause-led : goal.others_than-requires-clause-led
others_than-requires-clause-led c =
    let edits = c.args.edits in
    let known = c.args.known in
    let r = known.readings.now in
    let (left, read) = c.requires.read in
    led_leads (IsLedOn edits) edits known c.args.own.now c.deref.result.now c.deref-3.result.now left read c.requires.own
    (subst (AreMade (IsLedOn edits) (placed_of r.after) (placed_of r.here)) (sym c.deref.ensures.value)
    (MatchOption-at_some ((one other : PlacedRecord) → IsLedOn edits one other → ⊥)
    (λ made. AreMade (IsLedOn edits) (placed_of r.after) (placed_of r.here) made.items) c.in-Some.later c.in-Some.is c.in_ok-later.ensures.made))
    (c.deref-3.ensures.value ∙ c.in_ok-led.ensures)

pub others_than-requires-clause-records : goal.others_than-requires-clause-records
others_than-requires-clause-records c = λ k any. c.requires.records k (subst (Any (◌≡◌ k)) c.deref-2.ensures.value any)

pub returns-clause-others : goal.returns-clause-others
returns-clause-others c =
    let edits = c.args.edits in
    let known = c.args.known in
    let r = known.readings.now in
    let (left, read) = c.requires.read in
    let led = c.deref-3.result.now in
    let others = c.in_ok-others_than.field-0.items in
    unput (IsLedOn edits) edits known c.args.own.now c.deref.result.now led left read c.requires.own
    (subst (AreMade (IsLedOn edits) (placed_of r.after) (placed_of r.here)) (sym c.deref.ensures.value)
    (MatchOption-at_some ((one other : PlacedRecord) → IsLedOn edits one other → ⊥)
    (λ made. AreMade (IsLedOn edits) (placed_of r.after) (placed_of r.here) made.items) c.in-Some.later c.in-Some.is c.in_ok-later.ensures.made))
    (c.deref-3.ensures.value ∙ c.in_ok-led.ensures) (λ b a d b_in a_in d_in one other. one_steps_make (later_steps edits) edits.after.now edits.here.now b a d one other) c.args.records.items others
    (λ ahead back beside no_other.
    subst (λ l. AreOthers (IsPutBy led ahead back (placed_of r.before) (placed_of r.here) (placed_of r.left)) (placed_of r.left) l others) c.deref-2.ensures.value
    (c.in_ok-others_than.ensures ahead back beside no_other))
