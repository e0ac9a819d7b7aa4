use Rattle.std.proofs.Common.{◌≡◌, ℕ, List, Some, cond, take}
use Rattle.rec_check.specs.proving.Fitting.{place_of}
use Rattle.rec_text.specs.Bytes.{is_among}
use Rattle.rec_check.proofs.field_types.types.place_names.Given as goal

abbrev pub invariant-loop-name : goal.invariant-loop-name
invariant-loop-name l = (name : List ℕ) → place_of l.places name ≡ cond (is_among (take l.name-index l.names) name) (Some l.place) (place_of l.fn.places name)
