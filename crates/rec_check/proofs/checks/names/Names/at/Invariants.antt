use Rattle.std.proofs.Common.{◌≡◌, ◌++◌, filter_map}
use Rattle.std.specs.List.{slice_get}
use Rattle.rec_text.specs.Bytes.{texts}
use Rattle.rec_check.proofs.checks.names.Names.at.Given as goal

-- the names so far, and then those at the places that are left
abbrev pub invariant-loop-place : goal.invariant-loop-place
invariant-loop-place l = filter_map (slice_get l.self) l.places.keys ≡ texts l.names.items ++ filter_map (slice_get l.self) l.place-iterator
