use Rattle.std.proofs.Common.{◌∙◌, ◌++◌, ◌∷◌, [], map, take, ap, sym, arith}
use Rattle.std.proofs.lemmas.List.{length-map, length-take-le, map_more, take_all}
use Rattle.std.proofs.lemmas.Map.Text.{hash_map_updates_str}
use Rattle.rec_check.specs.proving.Fitting.{place_of}
use Rattle.rec_check.specs.Stored.{definition_stored}
use Rattle.rec_check.proofs.lemmas.field_types.ResolvedLemmas.{AreLastPlaces-more}
use Rattle.rec_check.proofs.field_types.resolution.last_places.Goals as goal

pub loop-place-preserved : goal.loop-place-preserved
loop-place-preserved c =
    let so_far = map definition_stored (take c.loop-place.place c.args.definitions.now) in
    AreLastPlaces-more so_far _ (definition_stored c.index-definitions-place.result) c.as_slice.result.now (place_of c.loop-place.places) (place_of c.insert.new.self) c.loop-place.place
    c.loop-place.invariant
    (map_more definition_stored c.args.definitions.now c.loop-place.place c.index-definitions-place.result c.loop-place-test.true
    ∙ ap (λ d. so_far ++ definition_stored d ∷ []) (sym c.index-definitions-place.is))
    (omega (arith, length-map (take c.loop-place.place c.args.definitions.now) definition_stored, length-take-le c.loop-place.place c.args.definitions.now (omega arith)))
    c.as_slice.ensures
    (hash_map_updates_str c.as_slice.result.now c.loop-place.places c.insert.new.self _ c.in_ok-insert.ensures.updates)

pub returns : goal.returns
returns c = rw (sym (take_all c.loop-place.place c.args.definitions.now c.loop-place-test.false)) c.loop-place.invariant
