use Rattle.std.proofs.Common.{◌≡◌, filter_map, take}
use Rattle.std.specs.List.{enumerate_from}
use Rattle.rec_text.specs.Bytes.{texts}
use Rattle.rec_check.proofs.lemmas.checks.NamePlaceLemmas.{beside}
use Rattle.rec_check.proofs.checks.names.Names.besides.Given as goal

abbrev pub invariant-loop-place : goal.invariant-loop-place
invariant-loop-place l = texts l.names.items ≡ filter_map (beside l.places.keys) (enumerate_from 0 (texts (take l.place-counter l.all)))
