use Rattle.std.proofs.Common.{◌≡◌, ◌+◌, ◌<◌, arith, length, subst, sym}
use Rattle.rec_diff.specs.proving.Keeping.{IsOneWhole}
use Rattle.rec_diff.specs.proving.Reading.{placed_of}
use Rattle.rec_diff.proofs.lemmas.reverting.KeepingLemmas.{AreThoseIn, all_those, those_step}
use Rattle.rec_diff.proofs.lemmas.reverting.ListLemmas.{there}
use Rattle.rec_diff.proofs.reverting.keeping.known.Known.mixed.Goals as goal

pub loop-number-preserved : goal.loop-number-preserved
loop-number-preserved c = λ ahead back beside.
    let r = c.args.self.readings.now in
    let n = c.loop-number.number in
    let mixed = c.loop-number.mixed.items in
    let low : n < length (placed_of r.left).records = omega arith in
    let (own, at) = there (placed_of r.left).records n low in
    let P = IsOneWhole ahead back (placed_of r.before) (placed_of r.here) in
    subst (AreThoseIn P (placed_of r.left) (n + 1)) (sym c.in_ok-add_unless.ensures)
    (those_step P (placed_of r.left) n mixed own c.is_whole.result at (c.is_whole.ensures ahead back own beside at) (c.loop-number.invariant ahead back beside))

pub returns : goal.returns
returns c = λ ahead back beside.
    let r = c.args.self.readings.now in
    let mixed = c.loop-number.mixed.items in
    let P = IsOneWhole ahead back (placed_of r.before) (placed_of r.here) in
    let ends : c.loop-number.number ≡ length (placed_of r.left).records = omega arith in
    all_those P (placed_of r.left) mixed (subst (λ n. AreThoseIn P (placed_of r.left) n mixed) ends (c.loop-number.invariant ahead back beside))
