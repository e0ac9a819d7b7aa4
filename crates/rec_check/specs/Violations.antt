-- Where a text breaks the rules of its record sets, in the order of the report.
use Rattle.std.specs.Prelude.{◌≡◌, ◌≢◌, ◌⊎◌, ℕ, ◌+◌, ◌-◌, ◌==◌, Bool, true, false, ◌&&◌, ◌||◌, not, nat_le, List, []}
use Rattle.std.specs.Prelude.{◌∷◌, ◌++◌, codes, length, map, filter, filter_map, take, drop, decimal, is_some, Option}
use Rattle.std.specs.Prelude.{Some, None, unwrap_or, option_to_list, option_map, option_and_then, slice_get, Result, Ok}
use Rattle.std.specs.Prelude.{Err, if◌then◌else◌}
use Rattle.std.specs.List.{list_any, enumerate_from}
use Rattle.std.specs.Option.{option_map_or}
use Rattle.std.specs.Str.{bytes_eq}
use Rattle.std.specs.declared.ops.Range.{Range}
use Rattle.regex.specs.Patterns.{Re}
use Rattle.rec_text.specs.declared.fault.Fault.{Fault}
use Rattle.rec_text.specs.declared.fault.Fault.TheVariants.{BadPattern}
use Rattle.rec_text.specs.declared.violations.Rule.{Rule}
use Rattle.rec_text.specs.declared.violations.Rule.TheVariants.{Size, Typedef, Key, Mandatory, Prohibit, Unique}
use Rattle.rec_text.specs.declared.violations.Rule.TheVariants.{Singular, Allowed, Fit, Constraint}
use Rattle.rec_text.specs.declared.violations.Violation.{Violation}
use Rattle.rec_text.specs.Elements.{Piece, text_of, name_of, has_name}
use Rattle.rec_text.specs.Reading.{IsReading, line_after}
use Rattle.rec_text.specs.Records.{AreRecords, is_field_piece}
use Rattle.rec_text.specs.Values.{value_of}
use Rattle.rec_sex.specs.Grammar.{Term}
use Rattle.rec_sex.specs.Meaning.{values_of, Selects}
use Rattle.rec_check.specs.declared.set.Set_.{Set_}
use Rattle.rec_text.specs.Records.{elements_in}
use Rattle.rec_check.specs.Descriptors.{meets}
use Rattle.rec_check.specs.Meanings.{meaning_in}
use Rattle.rec_check.specs.Rules.{Rules, field_type}
use Rattle.rec_check.specs.Schemas.{Described, IsSchema}
use Rattle.rec_check.specs.Types.{FieldType, Definition, fits, unchecked}
use Rattle.rec_check.specs.Words.{distinct, words}
use Rattle.rec_text.specs.Bytes.{is_among}

-- the line at which the element of an index begins
abbrev pub line_at : List Piece → ℕ → ℕ
line_at pieces i = line_after (text_of (take i pieces))

abbrev pub violation : ℕ → Rule → List ℕ → Violation
violation line rule name = record { line = line; rule = rule; name = name }

abbrev pub violations_of : ℕ → Rule → List (List ℕ) → List Violation
violations_of line rule names = map (violation line rule) names

-- ---- one record: its elements are `fields`, and it begins at `line`

-- how many fields have the name
abbrev pub occurrences : List Piece → List ℕ → ℕ
occurrences fields name = length (values_of name fields)

-- the only one
abbrev pub only : List (List ℕ) → Option (List ℕ)
only (value ∷ []) = Some value
only _ = None

-- the key of a record: the value of the only field of that name
abbrev pub key_of : List ℕ → List Piece → Option (List ℕ)
key_of name fields = only (values_of name fields)

-- one of the earlier records of the set has this key
abbrev pub is_taken : List ℕ → List (List Piece) → List ℕ → Bool
is_taken name earlier value = list_any (λ fields. option_map_or (bytes_eq value) (key_of name fields) false) earlier

-- the record has not exactly one key field, or its key is taken
abbrev pub breaks_key : List (List Piece) → List Piece → List ℕ → Bool
breaks_key earlier fields name = option_map_or (is_taken name earlier) (key_of name fields) true

abbrev pub key_violations : Rules → ℕ → List (List Piece) → List Piece → List Violation
key_violations rules line earlier fields =
    violations_of line Key (filter (breaks_key earlier fields) (option_to_list rules.key))

abbrev pub mandatory_violations : Rules → ℕ → List Piece → List Violation
mandatory_violations rules line fields =
    violations_of line Mandatory (filter (λ name. occurrences fields name == 0) (distinct rules.mandatory))

abbrev pub prohibit_violations : Rules → ℕ → List Piece → List Violation
prohibit_violations rules line fields =
    violations_of line Prohibit (filter (λ name. nat_le 1 (occurrences fields name)) (distinct rules.prohibited))

abbrev pub unique_violations : Rules → ℕ → List Piece → List Violation
unique_violations rules line fields =
    violations_of line Unique (filter (λ name. nat_le 2 (occurrences fields name)) (distinct rules.unique))

-- one of these records has a field of this name with this value
abbrev pub stands_in : List ℕ → List (List Piece) → List ℕ → Bool
stands_in name records value = list_any (λ fields. is_among (values_of name fields) value) records

-- the record has a value of this name that an earlier one has too
abbrev pub breaks_singular : List (List Piece) → List Piece → List ℕ → Bool
breaks_singular earlier fields name = list_any (stands_in name earlier) (values_of name fields)

abbrev pub singular_violations : Rules → ℕ → List (List Piece) → List Piece → List Violation
singular_violations rules line earlier fields =
    violations_of line Singular (filter (breaks_singular earlier fields) (distinct rules.singular))

-- the names of the fields
abbrev pub names_of : List Piece → List (List ℕ)
names_of fields = map name_of (filter is_field_piece fields)

-- where names are limited, the name may occur
abbrev pub is_allowed : Rules → List ℕ → Bool
is_allowed rules name =
    option_map_or (λ names. is_among (names ++ (rules.mandatory ++ option_to_list rules.key)) name) rules.allowed true

abbrev pub allowed_violations : Rules → ℕ → List Piece → List Violation
allowed_violations rules line fields =
    violations_of line Allowed (filter (λ name. not (is_allowed rules name)) (distinct (names_of fields)))

-- there is a type, and the value doesn't fit it
abbrev pub fails : Option (FieldType Re) → List ℕ → Bool
fails value_type value = option_map_or (λ value_type. not (fits value_type value)) value_type false

-- the element is a field whose value doesn't fit the type of its name
abbrev pub misfits : (List ℕ → Option (FieldType Re)) → Piece → Bool
misfits types piece = is_field_piece piece && fails (types (name_of piece)) (value_of piece)

-- each of the fields, which begin at an index, with such a value, at its own line
abbrev pub type_violations : List Piece → (List ℕ → Option (FieldType Re)) → ℕ → List Piece → List Violation
type_violations pieces types start fields =
    filter_map
    (λ (i, piece). if misfits types piece then Some (violation (line_at pieces i) Fit (name_of piece)) else None)
    (enumerate_from start fields)

-- those of the constraints, which are counted from this number on, that don't select the record
abbrev pub AreUnselected : ℕ → ℕ → List Term → List Piece → List Violation → Type 0
AreUnselected line number [] fields found = found ≡ []
AreUnselected line number (term ∷ terms) fields found =
    (Selects term fields × AreUnselected line (number + 1) terms fields found)
    ⊎ (¬ Selects term fields
    × ((rest : List Violation) × (found ≡ violation line Constraint (decimal number) ∷ rest)
    × AreUnselected line (number + 1) terms fields rest))

-- all of a record, after these records of its set
pub record AreOfRecord (pieces : List Piece) (rules : Rules) (earlier : List (List Piece)) (own_range : Range ℕ)
    (found : List Violation) : Type 0 where
  pub unselected : List Violation
  pub are : AreUnselected (line_at pieces own_range.start) 1 rules.constraints (elements_in pieces own_range) unselected
  pub joined :
      let fields : List Piece = elements_in pieces own_range in
      let line : ℕ = line_at pieces own_range.start in
      found ≡ key_violations rules line earlier fields
      ++ (mandatory_violations rules line fields ++ (prohibit_violations rules line fields
      ++ (unique_violations rules line fields ++ (singular_violations rules line earlier fields
      ++ (allowed_violations rules line fields
      ++ (type_violations pieces (field_type rules) own_range.start fields ++ unselected))))))

-- ---- record sets

-- record by record, after these
abbrev pub AreOfRecords : List Piece → Rules → List (List Piece) → List (Range ℕ) → List Violation → Type 0
AreOfRecords pieces rules earlier [] found = found ≡ []
AreOfRecords pieces rules earlier (own_range ∷ records) found =
    (own rest : List Violation) × AreOfRecord pieces rules earlier own_range own
    × AreOfRecords pieces rules (earlier ++ elements_in pieces own_range ∷ []) records rest × (found ≡ own ++ rest)

-- the members of a set
abbrev pub members : List (Range ℕ) → Set_ → List (Range ℕ)
members records s = take (s.members.end - s.members.start) (drop s.members.start records)

-- the line at which the descriptor of a set begins
abbrev pub head_line : List Piece → List (Range ℕ) → Set_ → ℕ
head_line pieces records s =
    option_map_or (λ own_range. line_at pieces own_range.start) (option_and_then (slice_get records) s.head) 0

-- the number of records isn't as the descriptor asks
abbrev pub breaks_size : Rules → Set_ → Bool
breaks_size rules s = option_map_or (λ bound. not (meets bound (s.members.end - s.members.start))) rules.size false

abbrev pub size_violations : List Piece → List (Range ℕ) → Rules → Set_ → List Violation
size_violations pieces records rules s =
    if breaks_size rules s then violation (head_line pieces records s) Size (unwrap_or s.kind []) ∷ [] else []

-- ---- kinds without a meaning

-- by these definitions a kind means a type
abbrev pub resolves : List Definition → List ℕ → Bool
resolves definitions kind = is_some (meaning_in definitions kind unchecked)

-- the field is a `%type` or a `%typedef`
abbrev pub names_kind : Piece → Bool
names_kind piece = has_name (codes "%type") piece || has_name (codes "%typedef") piece

-- the kind that such a field names, its second word, where that means nothing
abbrev pub unresolved_in : (List ℕ → Bool) → List ℕ → Option (List ℕ)
unresolved_in resolves value =
    option_and_then (λ kind. if resolves kind then None else Some kind) (slice_get (words value) 1)

abbrev pub unresolved_of : (List ℕ → Bool) → Piece → Option (List ℕ)
unresolved_of resolves piece = if names_kind piece then unresolved_in resolves (value_of piece) else None

-- each of the fields, which begin at an index, that names such a kind, at its own line
abbrev pub unresolved_violations : List Piece → (List ℕ → Bool) → ℕ → List Piece → List Violation
unresolved_violations pieces resolves start fields =
    filter_map (λ (i, piece). option_map (violation (line_at pieces i) Typedef) (unresolved_of resolves piece))
    (enumerate_from start fields)

-- those of a set's descriptor
abbrev pub typedef_violations : List Piece → List (Range ℕ) → Rules → Set_ → List Violation
typedef_violations pieces records rules s = option_map_or
    (λ own_range. unresolved_violations pieces (resolves rules.definitions) own_range.start
    (elements_in pieces own_range))
    (option_and_then (slice_get records) s.head) []

-- what is found before all records of a set
abbrev pub head_violations : List Piece → List (Range ℕ) → Rules → Set_ → List Violation
head_violations pieces records rules s =
    size_violations pieces records rules s ++ typedef_violations pieces records rules s

-- all of a set: its size, the kinds of its descriptor, and then record by record
abbrev pub AreOfSet : List Piece → List (Range ℕ) → Set_ → Rules → List Violation → Type 0
AreOfSet pieces records s rules found = (rest : List Violation) × AreOfRecords pieces rules [] (members records s) rest
    × (found ≡ head_violations pieces records rules s ++ rest)

-- set by set
abbrev pub AreOfSets : List Piece → List (Range ℕ) → List Set_ → List Rules → List Violation → Type 0
AreOfSets pieces records [] [] found = found ≡ []
AreOfSets pieces records (s ∷ sets) (rules ∷ more) found =
    (own rest : List Violation) × AreOfSet pieces records s rules own
    × AreOfSets pieces records sets more rest × (found ≡ own ++ rest)
AreOfSets pieces records _ _ found = ⊥

-- the violations of these elements with this schema
abbrev pub AreViolations : List Piece → Described → List Violation → Type 0
AreViolations pieces schema found =
    (records : List (Range ℕ)) × AreRecords pieces records × AreOfSets pieces records schema.sets schema.rules found

-- a text has one report, whichever way its patterns were built
abbrev pub OneReport : Type 0
OneReport =
    (pieces : List Piece) (schema same : Described) (one other : List Violation)
    → IsSchema pieces (Ok schema) → IsSchema pieces (Ok same)
    → AreViolations pieces schema one → AreViolations pieces same other → one ≡ other

-- the violations of a text, or why it has none to tell: it is no rec text, or its descriptors are refused
abbrev pub AreViolationsOf : List ℕ → Result (List Violation) Fault → Type 0
AreViolationsOf text (Ok found) =
    (pieces : List Piece) × (schema : Described) × IsReading text (Ok pieces) × IsSchema pieces (Ok schema)
    × AreViolations pieces schema found
AreViolationsOf text (Err fault) =
    IsReading text (Err fault) ⊎ ((pieces : List Piece) × IsReading text (Ok pieces) × IsSchema pieces (Err fault))

-- a text has one such answer; only where `regex` may refuse a pattern of its descriptors, that refusal may stand
-- instead of the other answer
abbrev pub OneCheck : Type 0
OneCheck =
    (text : List ℕ) (one other : Result (List Violation) Fault) → AreViolationsOf text one → AreViolationsOf text other
    → (one ≢ Err BadPattern) → (other ≢ Err BadPattern) → one ≡ other
