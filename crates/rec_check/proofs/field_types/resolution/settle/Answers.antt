use Rattle.std.proofs.Common.{rules, ◌<◌, length, take, get_or, refl, arith}
use Rattle.std.proofs.lemmas.List.{take_more}
use Rattle.rec_check.proofs.lemmas.field_types.ResolvedLemmas.{AreSettledAt-more, ArePlacesWithin-at}
use Rattle.rec_check.proofs.field_types.resolution.settle.Goals as goal

pub offset_bounds-meanings-place : goal.offset_bounds-meanings-place
offset_bounds-meanings-place c =
    let below : get_or c.args.places.now c.loop-place.place-index 0 < length c.args.meanings.now =
    ArePlacesWithin-at c.args.places.now c.args.meanings.now c.loop-place.place-index 0 c.requires c.loop-place-test.true in
    let same = c.loop-place.invariant.size in
    search (rules, below)

pub bounds-meanings-place : goal.bounds-meanings-place
bounds-meanings-place c =
    let below : get_or c.args.places.now c.loop-place.place-index 0 < length c.args.meanings.now =
    ArePlacesWithin-at c.args.places.now c.args.meanings.now c.loop-place.place-index 0 c.requires c.loop-place-test.true in
    let same = c.loop-place.invariant.size in
    omega arith

pub loop-place-preserved : goal.loop-place-preserved
loop-place-preserved c =
    AreSettledAt-more (take c.loop-place.place-index c.args.places.now) _ c.args.value_type c.args.meanings.now c.loop-place.meanings _ (get_or c.args.places.now c.loop-place.place-index 0)
    (ArePlacesWithin-at c.args.places.now c.args.meanings.now c.loop-place.place-index 0 c.requires c.loop-place-test.true) c.loop-place.invariant
    (take_more c.args.places.now c.loop-place.place-index 0 c.loop-place-test.true) refl
