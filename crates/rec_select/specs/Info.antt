-- What is printed of record sets: how many records each holds, the types, or the descriptors.
use Rattle.std.specs.Prelude.{◌≡◌, ℕ, ◌-◌, false, List, [], ◌∷◌, ◌++◌, map, filter_map, flat_map, decimal, Option, Some}
use Rattle.std.specs.Prelude.{None, Result, Ok, Err, if◌then◌else◌}
use Rattle.std.specs.declared.ops.Range.{Range}
use Rattle.rec_text.specs.declared.fault.Fault.{Fault}
use Rattle.rec_text.specs.Ascii.{newline, space}
use Rattle.rec_text.specs.Elements.{Piece}
use Rattle.rec_text.specs.Records.{AreRecords}
use Rattle.rec_check.specs.declared.set.Set_.{Set_}
use Rattle.rec_select.specs.declared.info.InfoForm.{InfoForm}
use Rattle.rec_select.specs.declared.info.InfoForm.TheVariants.{Counts, Names, Descriptors}
use Rattle.rec_select.specs.declared.records.Shape.TheVariants.{Blocks}
use Rattle.rec_select.specs.Printing.{block_of, joined_blocks, number_line}
use Rattle.rec_select.specs.Selection.{has_members, record_at, set_of_type}

-- how many records a set holds
abbrev pub size_of : Set_ → ℕ
size_of s = s.members.end - s.members.start

-- the number of a set's records and its type; of the untyped set the number alone, where it has a record
abbrev pub count_line : Set_ → List ℕ
count_line s = elim s.kind [
  | None ↦ if has_members s then number_line (size_of s) else []
  | Some record_type ↦ decimal (size_of s) ++ space ∷ (record_type ++ newline ∷ [])
]

-- the type of a set
abbrev pub name_line : Set_ → List ℕ
name_line s = elim s.kind [ None ↦ [] | Some record_type ↦ record_type ++ newline ∷ [] ]

-- what is printed of these sets
abbrev pub info : InfoForm → List Piece → List (Range ℕ) → List Set_ → List ℕ
info Counts pieces records sets = flat_map count_line sets
info Names pieces records sets = flat_map name_line sets
info Descriptors pieces records sets =
    joined_blocks false (map (λ i. block_of Blocks (record_at pieces records i)) (filter_map (λ s. s.head) sets))

-- all sets, or that of a type
abbrev pub sets_for : Option (List ℕ) → List Set_ → Result (List Set_) Fault
sets_for None sets = Ok sets
sets_for (Some record_type) sets = elim (set_of_type record_type sets) [ Ok s ↦ Ok (s ∷ []) | Err fault ↦ Err fault ]

-- the text that is printed of the sets of a type, or of all; or that there is no such type
abbrev pub IsInfo : List Piece → List Set_ → Option (List ℕ) → InfoForm → Result (List ℕ) Fault → Type 0
IsInfo pieces sets record_type form (Ok text) =
    (kept : List Set_) × (records : List (Range ℕ)) × AreRecords pieces records
    × (sets_for record_type sets ≡ Ok kept) × (text ≡ info form pieces records kept)
IsInfo pieces sets record_type form (Err fault) = sets_for record_type sets ≡ Err fault
