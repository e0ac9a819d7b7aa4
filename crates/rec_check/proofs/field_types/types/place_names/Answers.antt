use Rattle.std.proofs.Common.{Some}
use Rattle.std.proofs.lemmas.Map.Text.{hash_map_updates_str}
use Rattle.rec_check.specs.proving.Fitting.{place_of}
use Rattle.rec_check.proofs.lemmas.field_types.FittingLemmas.{place_more}
use Rattle.rec_check.proofs.field_types.types.place_names.Goals as goal

pub loop-name-preserved : goal.loop-name-preserved
loop-name-preserved c = λ name.
    place_more c.args.names.now c.loop-name.name-index c.as_slice.result.now c.name-item.result name (Some c.args.place) (place_of c.args.places.now name) (place_of c.loop-name.places name)
    (place_of c.insert.new.self name)
    c.loop-name-test.true c.name-item.is c.as_slice.ensures (c.loop-name.invariant name)
    (hash_map_updates_str c.as_slice.result.now c.loop-name.places c.insert.new.self _ c.in_ok-insert.ensures.updates name)
