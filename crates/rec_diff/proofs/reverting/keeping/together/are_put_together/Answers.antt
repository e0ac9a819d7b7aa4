use Rattle.std.proofs.Common.{◌≡◌, ◌∙◌, ◌↔◌, true, [], Any, refl, subst, sym}
use Rattle.std.proofs.lemmas.Bool.{false≢true}
use Rattle.std.proofs.lemmas.Option.{MatchOption-at_none, MatchOption-at_some}
use Rattle.rec_diff.specs.Making.{StepsMake}
use Rattle.rec_diff.specs.Placed.{PlacedRecord}
use Rattle.rec_diff.specs.proving.Keeping.{AreOwn, AreUnput, IsAgain, IsUntouched}
use Rattle.rec_diff.specs.proving.Reading.{placed_of}
use Rattle.rec_diff.proofs.lemmas.reverting.KeepingLemmas.{no_fact}
use Rattle.rec_diff.proofs.lemmas.reverting.PlacesKeptLemmas.{put_again, put_last, put_none, put_of_none, put_untouched, unput_within}
use Rattle.rec_diff.proofs.lemmas.reverting.StepLemmas.{none_of}
use Rattle.rec_diff.proofs.reverting.keeping.together.are_put_together.Goals as goal

pub returns-then-is_none-clause-together : goal.returns-then-is_none-clause-together
returns-then-is_none-clause-together c = λ left change later ahead back led read beside no_other. (
  λ e. put_none c.args.edits c.args.known c.args.woven.now left change later ahead back led beside no_other c.args.records.now c.requires.records
      (c.is_none.ensures.0 c.if-is_none.true),
  λ all. refl,
)

pub returns-in_default-clause-together : goal.returns-in_default-clause-together
returns-in_default-clause-together c = λ left change later ahead back led read beside no_other.
    let edits = c.args.edits in
    no_fact _
    (put_of_none edits c.args.known c.args.woven.now left change later ahead back led beside no_other c.args.records.now c.requires.records
    (MatchOption-at_none ((one other : PlacedRecord) → StepsMake edits.steps.now edits.before.now edits.after.now one other → ⊥) (λ made. AreOwn edits c.args.known.readings.now made.items)
    (none_of c.in_ok-own.field-0 c.in_default.not-Some) c.in_ok-own.ensures.made)
    (λ e. false≢true (sym c.if-is_none.false ∙ c.is_none.ensures.1 e)))

pub others_untouched-requires-clause-own : goal.others_untouched-requires-clause-own
others_untouched-requires-clause-own c =
    let edits = c.args.edits in
    subst (AreOwn edits c.args.known.readings.now) (sym c.deref.ensures.value)
    (MatchOption-at_some ((one other : PlacedRecord) → StepsMake edits.steps.now edits.before.now edits.after.now one other → ⊥) (λ made. AreOwn edits c.args.known.readings.now made.items)
    c.in-Some.own c.in-Some.is c.in_ok-own.ensures.made)

pub returns-then-is_none-2-clause-together : goal.returns-then-is_none-2-clause-together
returns-then-is_none-2-clause-together c = λ left change later ahead back led read beside no_other. (
  λ e. put_untouched c.args.edits c.args.known c.args.woven.now left change later ahead back led beside no_other c.args.records.now c.requires.records c.in_ok-touched.touched.items
      c.in_ok-touched.ensures (sym c.deref-2.ensures.value ∙ c.is_none-2.ensures.0 c.if-is_none-2.true),
  λ all. refl,
)

pub others_again-requires-clause-own : goal.others_again-requires-clause-own
others_again-requires-clause-own c =
    let edits = c.args.edits in
    subst (AreOwn edits c.args.known.readings.now) (sym c.deref-3.ensures.value)
    (MatchOption-at_some ((one other : PlacedRecord) → StepsMake edits.steps.now edits.before.now edits.after.now one other → ⊥) (λ made. AreOwn edits c.args.known.readings.now made.items)
    c.in-Some.own c.in-Some.is c.in_ok-own.ensures.made)

pub others_again-requires-clause-led : goal.others_again-requires-clause-led
others_again-requires-clause-led c = let (left, (change, later, ahead, back, led), read) = c.requires.led in (later, led.later_turns)

pub others_again-requires-clause-records : goal.others_again-requires-clause-records
others_again-requires-clause-records c = λ k any.
    let edits = c.args.edits in
    let known = c.args.known in
    let (ahead, back, beside, no_other) = c.requires.no_other in
    unput_within (IsUntouched edits (placed_of known.readings.now.here))
    edits known ahead back beside no_other c.args.records.now c.in_ok-touched.touched.items c.in_ok-touched.ensures c.requires.records k
    (subst (Any (◌≡◌ k)) c.deref-4.ensures.value any)

pub returns-then-is_none-3-clause-together : goal.returns-then-is_none-3-clause-together
returns-then-is_none-3-clause-together c = λ left change later ahead back led read beside no_other.
    let edits = c.args.edits in
    let known = c.args.known in (
      λ e. put_again edits known c.args.woven.now left change later ahead back led beside no_other c.args.records.now c.requires.records c.in_ok-touched.touched.items c.in_ok-gone.gone.items
          c.in_ok-touched.ensures (subst (λ l. AreUnput (IsAgain later) edits known l c.in_ok-gone.gone.items) c.deref-4.ensures.value (c.in_ok-gone.ensures later led.later_turns))
          (sym c.deref-5.ensures.value ∙ c.is_none-3.ensures.0 c.if-is_none-3.true),
      λ all. refl,
    )

pub others_led-requires-clause-own : goal.others_led-requires-clause-own
others_led-requires-clause-own c =
    let edits = c.args.edits in
    subst (AreOwn edits c.args.known.readings.now) (sym c.deref-6.ensures.value)
    (MatchOption-at_some ((one other : PlacedRecord) → StepsMake edits.steps.now edits.before.now edits.after.now one other → ⊥) (λ made. AreOwn edits c.args.known.readings.now made.items)
    c.in-Some.own c.in-Some.is c.in_ok-own.ensures.made)

pub others_led-requires-clause-records : goal.others_led-requires-clause-records
others_led-requires-clause-records c = λ k any.
    let edits = c.args.edits in
    let known = c.args.known in
    let (ahead, back, beside, no_other) = c.requires.no_other in
    let (left, (change, later, ahead_too, back_too, led), read) = c.requires.led in
    let touched = c.in_ok-touched.touched.items in
    let gone = c.in_ok-gone.gone.items in
    unput_within (IsAgain later) edits known ahead back beside no_other touched gone
    (subst (λ l. AreUnput (IsAgain later) edits known l gone) c.deref-4.ensures.value (c.in_ok-gone.ensures later led.later_turns))
    (λ j other. unput_within (IsUntouched edits (placed_of known.readings.now.here))
    edits known ahead back beside no_other c.args.records.now touched c.in_ok-touched.ensures c.requires.records j other) k any

pub returns-clause-together : goal.returns-clause-together
returns-clause-together c = λ left change later ahead back led read beside no_other.
    let edits = c.args.edits in
    let known = c.args.known in
    let touched = c.in_ok-touched.touched.items in
    let gone = c.in_ok-gone.gone.items in
    let others = c.in_ok-others.others.items in
    put_last edits known c.args.woven.now left change later ahead back led beside no_other c.args.records.now c.requires.records touched gone others c.in_ok-touched.ensures
    (subst (λ l. AreUnput (IsAgain later) edits known l gone) c.deref-4.ensures.value (c.in_ok-gone.ensures later led.later_turns)) c.in_ok-others.ensures.others c.is_none-4.result
    (subst (λ l. (c.is_none-4.result ≡ true) ↔ (l ≡ [])) c.deref-7.ensures.value c.is_none-4.ensures)
