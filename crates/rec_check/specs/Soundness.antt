-- Which descriptors are faulty: each by its own fields, and by the types that are named before it.
use Rattle.std.specs.Prelude.{◌≡◌, ℕ, true, List, [], ◌∷◌, ◌++◌, filter, map, position, is_some, Some, None, Ok}
use Rattle.std.specs.declared.ops.Range.{Range}
use Rattle.rec_text.specs.Canonical.{is_plain_name}
use Rattle.rec_text.specs.Elements.{Piece, name_of}
use Rattle.rec_text.specs.Records.{AreRecords}
use Rattle.rec_text.specs.Values.{value_of}
use Rattle.rec_text.specs.Records.{elements_in}
use Rattle.rec_check.specs.Descriptors.{rec_name, type_of}
use Rattle.rec_check.specs.Rules.{no_rules}
use Rattle.rec_check.specs.Schemas.{Described, IsSchema}
use Rattle.rec_check.specs.Sets.{is_of_type}

-- what an element says: a name and a value; a comment says nothing
abbrev pub says : Piece → List ℕ × List ℕ
says piece = (name_of piece, value_of piece)

-- what the descriptors among the records say, element by element
abbrev pub descriptors : List Piece → List (Range ℕ) → List (List (List ℕ × List ℕ))
descriptors pieces records = map (map says) (filter (λ own. is_some (type_of own)) (map (elements_in pieces) records))

-- Two texts with the same descriptors: where none of the one is faulty, none of the other is, and their sets have the
-- same types and rules. Nothing else of the texts matters, nor where the descriptors stand.
abbrev pub SameDescriptors : Type 0
SameDescriptors = (pieces others : List Piece) (records ranges : List (Range ℕ)) (schema : Described)
    → AreRecords pieces records → AreRecords others ranges → descriptors pieces records ≡ descriptors others ranges
    → IsSchema pieces (Ok schema)
    → (same : Described) × IsSchema others (Ok same) × (same.rules ≡ schema.rules)
    × (map (λ s. s.kind) same.sets ≡ map (λ s. s.kind) schema.sets)

-- one descriptor more, after the others, that gives a new set its type and says nothing else: it isn't faulty
abbrev pub NewDescriptor : Type 0
NewDescriptor =
    (pieces others : List Piece) (records ranges : List (Range ℕ)) (schema : Described) (record_type : List ℕ)
    → AreRecords pieces records → AreRecords others ranges
    → descriptors others ranges ≡ descriptors pieces records ++ ((rec_name, record_type) ∷ []) ∷ []
    → is_plain_name record_type ≡ true → position (is_of_type record_type) schema.sets ≡ None
    → IsSchema pieces (Ok schema)
    → (more : Described) × IsSchema others (Ok more) × (more.rules ≡ schema.rules ++ no_rules ∷ [])
    × (map (λ s. s.kind) more.sets ≡ map (λ s. s.kind) schema.sets ++ Some record_type ∷ [])
