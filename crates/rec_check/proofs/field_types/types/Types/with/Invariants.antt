use Rattle.std.proofs.Common.{map, take}
use Rattle.rec_check.specs.proving.Fitting.{place_of, type_tested}
use Rattle.rec_check.specs.proving.Resolved.{meaning_by}
use Rattle.rec_check.specs.Rules.{type_by}
use Rattle.rec_check.specs.Stored.{typing_stored}
use Rattle.rec_check.proofs.lemmas.field_types.FittingLemmas.{LeadsTo}
use Rattle.rec_check.proofs.field_types.types.Types.with.Given as goal

abbrev pub invariant-loop-place : goal.invariant-loop-place
invariant-loop-place l = LeadsTo (type_by (meaning_by l.resolver)) (map typing_stored (take l.place l.typings)) (map type_tested l.tests.items) (place_of l.places)
