-- The sets of a text with one record more.
use Rattle.std.specs.Prelude.{◌≡◌, ℕ, ◌+◌, List, [], ◌∷◌, ◌++◌, filter_map, map, Option, Some, None}
use Rattle.rec_check.specs.declared.set.Set_.{Set_}

-- the types of some sets
abbrev pub record_types : List Set_ → List (List ℕ)
record_types sets = filter_map (λ s. s.kind) sets

-- the first of the sets has no type, and the others have these
abbrev pub HaveTypes : List Set_ → List (List ℕ) → Type 0
HaveTypes sets types = map (λ s. s.kind) sets ≡ None ∷ map Some types

-- one record more in the last set
abbrev pub with_member : List Set_ → ℕ → List Set_
with_member [] index = []
with_member (s ∷ []) index = record s { members = record s.members { end = index + 1 } } ∷ []
with_member (s ∷ next ∷ sets) index = s ∷ with_member (next ∷ sets) index

-- the sets with the record of this index, which names this type, after the others
abbrev pub with_record : List Set_ → ℕ → Option (List ℕ) → List Set_
with_record sets index None = with_member sets index
with_record sets index (Some record_type) =
    sets ++ record {
      kind = Some record_type;
      head = Some index;
      members = record { start = index + 1; end = index + 1 };
    } ∷ []
