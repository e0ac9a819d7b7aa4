use Rattle.std.proofs.Common.{filter_map, length, refl}
use Rattle.std.proofs.lemmas.Option.{slice_get_read}
use Rattle.std.specs.List.{slice_get}
use Rattle.rec_check.proofs.lemmas.checks.NamePlaceLemmas.{name_more}
use Rattle.rec_check.proofs.checks.names.Names.at.Goals as goal

pub loop-place-preserved : goal.loop-place-preserved
loop-place-preserved c =
    let own = c.args.self.now in
    let all = c.as_slice-all.result.now in
    name_more own all c.loop-place.names.items c.in-Some.place.now c.loop-place.place-iterator c.next.new.self (filter_map (slice_get own) c.args.places.now.keys)
    c.as_slice-all.ensures c.in-Some.ensures.steps c.loop-place.invariant c.in-Some-get.name.now c.push.new.self.items
    (slice_get_read all (length all) c.in-Some.place.now c.in-Some-get.name.now refl c.in-Some-get.ensures.lookup.3.0 c.in-Some-get.ensures.lookup.1) c.in_ok-push.ensures.items
