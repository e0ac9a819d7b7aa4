-- Record sets: the list of records, cut at its descriptors.
use Rattle.std.specs.Prelude.{◌≡◌, ℕ, ◌+◌, ◌-◌, ◌≤◌, Bool, true, false, List, [], ◌∷◌, ◌++◌, flat_map, replicate}
use Rattle.std.specs.Prelude.{Option, Some, None}
use Rattle.std.specs.List.{AllByRecursion}
use Rattle.std.specs.Option.{is_some, option_map_or}
use Rattle.std.specs.Str.{bytes_eq}
use Rattle.rec_check.specs.declared.set.Set_.{Set_}

-- for each record of a set in order the type that it names: the descriptor, which is first, names the set's, a member
-- none
abbrev pub named_in : Set_ → List (Option (List ℕ))
named_in s =
    (elim s.kind [ None ↦ [] | Some record_type ↦ Some record_type ∷ [] ])
    ++ replicate (s.members.end - s.members.start) None

-- the set's descriptor is the record of this index, where the set is typed, and its members stand after it
abbrev pub BeginsAt : ℕ → Set_ → Type 0
BeginsAt at s = (s.members.start ≤ s.members.end) × (elim s.kind [
  | None ↦ (s.head ≡ None) × (s.members.start ≡ at)
  | Some record_type ↦ (s.head ≡ Some at) × (s.members.start ≡ at + 1)
])

-- each set begins where the one before it ends, the first at this index
abbrev pub AreFrom : ℕ → List Set_ → Type 0
AreFrom at [] = Unit {0}
AreFrom at (s ∷ sets) = BeginsAt at s × AreFrom s.members.end sets

-- an untyped set, and then typed ones
abbrev pub IsUntypedFirst : List Set_ → Type 0
IsUntypedFirst [] = ⊥
IsUntypedFirst (s ∷ sets) = (s.kind ≡ None) × AllByRecursion (λ typed. is_some typed.kind ≡ true) sets

-- The record sets, where `types` says of each record in order which type it names: joined, they are all records, and
-- each descriptor begins a set.
pub record AreSets (types : List (Option (List ℕ))) (sets : List Set_) : Type 0 where
  pub joined : flat_map named_in sets ≡ types
  pub untyped_first : IsUntypedFirst sets
  pub places : AreFrom 0 sets

-- the set is that of this type
abbrev pub is_of_type : List ℕ → Set_ → Bool
is_of_type record_type s = option_map_or (λ own. bytes_eq own record_type) s.kind false
