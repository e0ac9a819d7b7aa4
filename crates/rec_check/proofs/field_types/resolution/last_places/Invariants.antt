use Rattle.std.proofs.Common.{map, take}
use Rattle.rec_check.specs.proving.Fitting.{place_of}
use Rattle.rec_check.specs.proving.Resolved.{AreLastPlaces}
use Rattle.rec_check.specs.Stored.{definition_stored}
use Rattle.rec_check.proofs.field_types.resolution.last_places.Given as goal

abbrev pub invariant-loop-place : goal.invariant-loop-place
invariant-loop-place l = AreLastPlaces (map definition_stored (take l.place l.definitions)) (place_of l.places)
