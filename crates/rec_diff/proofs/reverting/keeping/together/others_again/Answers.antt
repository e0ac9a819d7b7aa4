use Rattle.std.proofs.Common.{◌∙◌, List, Vec, Global, ℕ, subst, sym}
use Rattle.std.proofs.lemmas.Result.{IfOk-weaker}
use Rattle.rec_diff.specs.Changes.{Stretch}
use Rattle.rec_diff.specs.proving.Keeping.{AreBeside, AreOthers, AreUnput, HaveNoOther, IsAgain, IsPutBy}
use Rattle.rec_diff.specs.proving.Reading.{AreMade, AreTurnsOf, placed_of}
use Rattle.rec_diff.proofs.lemmas.reverting.PlacesKeptLemmas.{led_leads, later_of_read, one_again, unput}
use Rattle.rec_diff.proofs.reverting.keeping.together.others_again.Goals as goal

pub others_than-requires-clause-led : goal.others_than-requires-clause-led
others_than-requires-clause-led c =
    let edits = c.args.edits in
    let known = c.args.known in
    let r = known.readings.now in
    let (left, read) = c.requires.read in
    let (later, turned) = c.requires.led in
    led_leads (IsAgain later) edits known c.args.own.now c.deref.result.now c.deref-2.result.now left read c.requires.own
    (subst (AreMade (IsAgain later) (placed_of r.after) (placed_of r.here)) (sym c.deref.ensures.value)
    (c.in_ok-again.ensures later (later_of_read edits left r read later c.args.woven.now.later.items turned)))
    (c.deref-2.ensures.value ∙ c.in_ok-led.ensures)

pub again-requires-clause-later : goal.again-requires-clause-later
again-requires-clause-later c =
    let (left, read) = c.requires.read in
    let (later, turned) = c.requires.led in
    (later, later_of_read c.args.edits left c.args.known.readings.now read later c.args.woven.now.later.items turned)

pub returns : goal.returns
returns c =
    let edits = c.args.edits in
    let known = c.args.known in
    let r = known.readings.now in
    let records = c.args.records.now in
    let (left, read) = c.requires.read in
    let led = c.deref-2.result.now in
    let ts = c.args.woven.now.later.items in
    IfOk-weaker c.others_than.result
    (λ (others : Vec ℕ Global). (ahead back : List Stretch) → AreBeside known ahead back → HaveNoOther ahead back (placed_of r.before) (placed_of r.here) (placed_of r.left)
    → AreOthers (IsPutBy led ahead back (placed_of r.before) (placed_of r.here) (placed_of r.left)) (placed_of r.left) records others.items)
    (λ (others : Vec ℕ Global). (later : List Stretch) → AreTurnsOf later edits.after.now edits.here.now ts → AreUnput (IsAgain later) edits known records others.items)
    (λ others told later turned.
    let turned_read = later_of_read edits left r read later ts turned in
    unput (IsAgain later) edits known c.args.own.now c.deref.result.now led left read c.requires.own
    (subst (AreMade (IsAgain later) (placed_of r.after) (placed_of r.here)) (sym c.deref.ensures.value) (c.in_ok-again.ensures later turned_read)) (c.deref-2.ensures.value ∙ c.in_ok-led.ensures)
    (one_again r.after r.here read.after read.here later ts turned_read) records others.items told)
    c.others_than.ensures
