use Rattle.std.proofs.Common.{◌∙◌, List, Vec, Global, ℕ, subst, sym}
use Rattle.std.proofs.lemmas.Result.{IfOk-weaker}
use Rattle.rec_diff.specs.Changes.{Stretch}
use Rattle.rec_diff.specs.proving.Keeping.{AreBeside, AreOthers, AreUnput, HaveNoOther, IsPutBy, IsUntouched}
use Rattle.rec_diff.specs.proving.Reading.{AreMade, placed_of}
use Rattle.rec_diff.proofs.lemmas.reverting.PlacesKeptLemmas.{led_leads, one_untouched, unput}
use Rattle.rec_diff.proofs.reverting.keeping.together.others_untouched.Goals as goal

pub others_than-requires-clause-led : goal.others_than-requires-clause-led
others_than-requires-clause-led c =
    let edits = c.args.edits in
    let known = c.args.known in
    let r = known.readings.now in
    let own = c.args.own.now in
    let (left, read) = c.requires.read in
    let next = c.deref.result.now in
    led_leads (IsUntouched edits (placed_of r.here)) edits known own next c.deref-2.result.now left read c.requires.own
    (subst (AreMade (IsUntouched edits (placed_of r.here)) (placed_of r.after) (placed_of r.here)) (sym c.deref.ensures.value) c.in_ok-untouched.ensures)
    (c.deref-2.ensures.value ∙ c.in_ok-led.ensures)

pub returns : goal.returns
returns c =
    let edits = c.args.edits in
    let known = c.args.known in
    let r = known.readings.now in
    let own = c.args.own.now in
    let records = c.args.records.now in
    let (left, read) = c.requires.read in
    let next = c.deref.result.now in
    let led = c.deref-2.result.now in
    IfOk-weaker c.others_than.result
    (λ (others : Vec ℕ Global). (ahead back : List Stretch) → AreBeside known ahead back → HaveNoOther ahead back (placed_of r.before) (placed_of r.here) (placed_of r.left)
    → AreOthers (IsPutBy led ahead back (placed_of r.before) (placed_of r.here) (placed_of r.left)) (placed_of r.left) records others.items)
    (λ (others : Vec ℕ Global). AreUnput (IsUntouched edits (placed_of r.here)) edits known records others.items)
    (λ others told.
    unput (IsUntouched edits (placed_of r.here)) edits known own next led left read c.requires.own
    (subst (AreMade (IsUntouched edits (placed_of r.here)) (placed_of r.after) (placed_of r.here)) (sym c.deref.ensures.value) c.in_ok-untouched.ensures)
    (c.deref-2.ensures.value ∙ c.in_ok-led.ensures)
    (λ b a d b_in a_in d_in one other. one_untouched edits (placed_of r.here) b a d one other) records others.items told)
    c.others_than.ensures
