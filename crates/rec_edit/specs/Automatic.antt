-- Automatic fields: those that a new record lacks, and those that the records of a text lack.
use Rattle.std.specs.Prelude.{◌≡◌, ℕ, ℤ, Bool, true, not, List, [], ◌∷◌, ◌++◌, map, filter, position, Option, Some}
use Rattle.std.specs.Prelude.{option_to_list}
use Rattle.std.specs.Prelude.{None, Result, Ok}
use Rattle.std.specs.Str.{bytes_eq}
use Rattle.std.specs.declared.ops.Range.{Range}
use Rattle.rec_text.specs.declared.fault.Fault.{Fault}
use Rattle.rec_text.specs.Elements.{Piece}
use Rattle.rec_text.specs.Records.{elements_in}
use Rattle.rec_text.specs.Steps.{Then}
use Rattle.rec_check.specs.declared.set.Set_.{Set_}
use Rattle.rec_check.specs.Automatic.{automatic_names, automatic_of, readings, IsNext, IsAutomatic}
use Rattle.rec_check.specs.Rules.{Rules}
use Rattle.rec_check.specs.Schemas.{Described}
use Rattle.rec_check.specs.Sets.{is_of_type}
use Rattle.rec_check.specs.Violations.{members, names_of}
use Rattle.rec_text.specs.Bytes.{is_among}
use Rattle.rec_edit.specs.Insertions.{Numbered}

-- those of the automatic names that aren't among the names of a record's fields
abbrev pub lacking : List (List ℕ) → List (List ℕ) → List (List ℕ)
lacking automatic names = filter (λ name. not (is_among names name)) automatic

-- each of these names with its next number
abbrev pub AreNumbered : (List ℕ → Result ℤ Fault → Type 0) → List (List ℕ) → Result (List Numbered) Fault → Type 0
AreNumbered next [] answer = answer ≡ Ok []
AreNumbered next (name ∷ names) answer =
    Then (next name) (λ number.
    Then (AreNumbered next names) (λ given answer.
    answer ≡ Ok (record { name = name; number = number } ∷ given))) answer

-- ---- a new record

-- what stands first in a new record of a type, which has fields of these names; nothing where that isn't asked for
abbrev pub AreAutomatic : List Piece → Described → Option (List ℕ) → Bool → List (List ℕ) → Result (List Numbered) Fault
    → Type 0
AreAutomatic pieces schema (Some record_type) true names answer = elim (position (is_of_type record_type) schema.sets) [
  | None ↦ answer ≡ Ok []
  | Some place ↦ AreNumbered (IsAutomatic pieces schema place) (lacking (automatic_of schema place) names) answer
]
AreAutomatic pieces schema _ _ names answer = answer ≡ Ok []

-- ---- all records

-- the numbers of a name among these
abbrev pub numbers_in : List Numbered → List ℕ → List ℤ
numbers_in given name = map (λ one. one.number) (filter (λ one. bytes_eq one.name name) given)

-- Record by record, the fields that each lacks. A number that is given counts for the records after.
abbrev pub AreFilled : List Piece → Rules → (List ℕ → List ℤ) → List (Range ℕ) → Result (List (List Numbered)) Fault
    → Type 0
AreFilled pieces rules numbers [] answer = answer ≡ Ok []
AreFilled pieces rules numbers (own_range ∷ records) answer =
    Then (AreNumbered (λ name. IsNext rules name (numbers name))
    (lacking (automatic_names rules) (names_of (elements_in pieces own_range)))) (λ given.
    Then (AreFilled pieces rules (λ name. numbers_in given name ++ numbers name) records) (λ filled answer.
    answer ≡ Ok (given ∷ filled))) answer

-- the records of a set: its descriptor is given none, and then its members
abbrev pub AreFilledSet : List Piece → List (Range ℕ) → Set_ → Rules → Result (List (List Numbered)) Fault → Type 0
AreFilledSet pieces records s rules =
    Then (AreFilled pieces rules (readings pieces (members records s)) (members records s)) (λ filled answer.
    answer ≡ Ok (map (λ _. []) (option_to_list s.head) ++ filled))

-- set by set; the untyped set has no automatic field
abbrev pub AreFilledSets : List Piece → List (Range ℕ) → List Set_ → List Rules → Result (List (List Numbered)) Fault
    → Type 0
AreFilledSets pieces records [] [] answer = answer ≡ Ok []
AreFilledSets pieces records (s ∷ sets) (rules ∷ more) answer =
    Then (AreFilledSet pieces records s rules) (λ own.
    Then (AreFilledSets pieces records sets more) (λ filled answer.
    answer ≡ Ok (own ++ filled))) answer
AreFilledSets pieces records _ _ answer = ⊥

-- what each record of a text is given, in their order
abbrev pub AreFilledOf : List Piece → List (Range ℕ) → Described → Result (List (List Numbered)) Fault → Type 0
AreFilledOf pieces records schema = AreFilledSets pieces records schema.sets schema.rules
