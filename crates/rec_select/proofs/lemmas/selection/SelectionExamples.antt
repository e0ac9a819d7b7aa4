-- The set of a selection, for some lists of sets: each example computes.
use Rattle.std.proofs.Common.{◌≡◌, [], ◌∷◌, Some, None, Ok, Err, refl}
use Rattle.std.specs.Prelude.{codes}
use Rattle.rec_text.specs.declared.fault.Fault.TheVariants.{TypeNeeded, NoSuchType}
use Rattle.rec_check.specs.declared.set.Set_.{Set_}
use Rattle.rec_select.specs.Selection.{set_for}

-- no record, and two of them
abbrev empty : Set_
empty = record { kind = None; head = None; members = record { start = 0; end = 0 } }

abbrev untyped : Set_
untyped = record { kind = None; head = None; members = record { start = 0; end = 2 } }

abbrev people : Set_
people = record { kind = Some (codes "Person"); head = Some 2; members = record { start = 3; end = 5 } }

abbrev towns : Set_
towns = record { kind = Some (codes "Town"); head = Some 5; members = record { start = 6; end = 6 } }

-- the set of a type, whether or not it has records
of_type : set_for (Some (codes "Town")) (untyped ∷ people ∷ towns ∷ []) ≡ Ok towns
of_type = refl

of_no_type : set_for (Some (codes "Tow")) (untyped ∷ people ∷ towns ∷ []) ≡ Err NoSuchType
of_no_type = refl

-- without a type the untyped set where it has a record, however many others there are
untyped_first : set_for None (untyped ∷ people ∷ towns ∷ []) ≡ Ok untyped
untyped_first = refl

-- or else the only typed one, though it has no record
only_typed : set_for None (empty ∷ towns ∷ []) ≡ Ok towns
only_typed = refl

-- with none, the empty untyped one
no_typed : set_for None (empty ∷ []) ≡ Ok empty
no_typed = refl

-- with two or more a type is needed
two_typed : set_for None (empty ∷ people ∷ towns ∷ []) ≡ Err TypeNeeded
two_typed = refl
