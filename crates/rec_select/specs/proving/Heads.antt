-- The order of the descriptors of record sets.
use Rattle.std.specs.Prelude.{ℕ, ◌+◌, ◌≤◌, List, [], ◌∷◌, length, Some, None}
use Rattle.std.specs.declared.ops.Range.{Range}
use Rattle.rec_text.specs.Elements.{Piece}
use Rattle.rec_text.specs.Records.{AreRecords}
use Rattle.rec_check.specs.declared.set.Set_.{Set_}

-- the descriptors of the sets stand in order, from this index on and below the size
abbrev pub HeadsFrom : ℕ → ℕ → List Set_ → Type 0
HeadsFrom size at [] = at ≤ size
HeadsFrom size at (s ∷ sets) = elim s.head [
  | None ↦ HeadsFrom size at sets
  | Some head ↦ (at ≤ head) × HeadsFrom size (head + 1) sets
]

-- the descriptors of the sets are records of the text, in order
abbrev pub AreHeads : List Piece → List Set_ → Type 0
AreHeads pieces sets = (records : List (Range ℕ)) × AreRecords pieces records × HeadsFrom (length records) 0 sets
