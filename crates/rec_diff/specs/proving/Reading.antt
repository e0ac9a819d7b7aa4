-- What the code knows of texts that read, by the numbers of their elements and records.
use Rattle.std.specs.Prelude.{◌≡◌, ◌≢◌, ◌↔◌, ℕ, ◌+◌, ◌-◌, ◌≤◌, ◌<◌, true, List, [], ◌∷◌, ◌++◌, Any, length}
use Rattle.std.specs.Prelude.{map, take, drop, Option, Some, None, slice_get, if◌then◌else◌, ◌==◌}
use Rattle.std.specs.Option.{option_map_or}
use Rattle.std.specs.List.{AllByRecursion, AllZip, between}
use Rattle.std.specs.declared.ops.Range.{Range}
use Rattle.rec_text.specs.declared.element.Element.{Element}
use Rattle.rec_text.specs.Elements.{Piece, AreElementsOf, text_of}
use Rattle.rec_text.specs.Places.{piece_of}
use Rattle.rec_text.specs.Records.{AreRecords, is_field_at}
use Rattle.rec_diff.specs.declared.reverting.reading.Reading.{Reading}
use Rattle.rec_diff.specs.declared.reverting.reading.Record.{Record}
use Rattle.rec_diff.specs.declared.reverting.reading.Records.{Records}
use Rattle.rec_diff.specs.declared.reverting.spread.Spread.{Spread}
use Rattle.rec_diff.specs.declared.turn.Turn.{Turn}
use Rattle.rec_diff.specs.Changes.{Stretch, before_of, after_of, hunks_at}
use Rattle.rec_diff.specs.Making.{IsSame, StaysAmong, WasAmong}
use Rattle.rec_diff.specs.Placed.{Placed, PlacedRecord, PlacedText, is_field, placed_from, placed_text, record_of}
use Rattle.rec_diff.specs.Placed.{records_from}
use Rattle.rec_diff.specs.proving.Turns.{AreIn}
use Rattle.rec_diff.specs.proving.Weaving.{AreInStep, at_start, hunk_on}

-- ---- turns

-- the turns of parts: from the one text to the other, where these are both
pub record AreTurnsOf (parts : List Stretch) (before after : List ℕ) (turns : List Turn) : Type 0 where
  pub from : before_of parts ≡ before
  pub to : after_of parts ≡ after
  pub hunks : hunks_at 0 parts ≡ map (hunk_on before after) turns
  pub order : AreIn before after 0 0 turns
  pub in_step : AreInStep (record { old = length before; new = length after }) at_start turns

-- ---- elements

abbrev pub placed : Element → Placed
placed e = record { at = e.at; piece = piece_of e }

-- the number of the one of others that an element is
abbrev pub IsNumber : List Stretch → List Placed → Placed → Option ℕ → Type 0
IsNumber parts others x None = StaysAmong parts others x → ⊥
IsNumber parts others x (Some j) = (y : Placed) × (slice_get others j ≡ Some y) × IsSame parts x y

abbrev pub AreNumbers : List Stretch → PlacedText → PlacedText → List (Option ℕ) → Type 0
AreNumbers parts text other numbers = AllZip (IsNumber parts other.elements) text.elements numbers

-- the number of the one of others that it was
abbrev pub IsOrigin : List Stretch → List Placed → Placed → Option ℕ → Type 0
IsOrigin parts others y None = WasAmong parts others y → ⊥
IsOrigin parts others y (Some i) = (x : Placed) × (slice_get others i ≡ Some x) × IsSame parts x y

abbrev pub AreOrigins : List Stretch → PlacedText → PlacedText → List (Option ℕ) → Type 0
AreOrigins parts text other numbers = AllZip (IsOrigin parts text.elements) other.elements numbers

-- ---- records

-- the fields of the record of this number; none where there is none
abbrev pub fields_at : PlacedText → ℕ → List Placed
fields_at text k = option_map_or (λ (r : PlacedRecord). r.fields) (slice_get text.records k) []

abbrev pub type_at : PlacedText → ℕ → Option (List ℕ)
type_at text k = option_map_or (λ (r : PlacedRecord). r.record_type) (slice_get text.records k) None

-- the elements of these numbers
abbrev pub ArePicked : List Placed → List ℕ → List Placed → Type 0
ArePicked elements numbers picked = AllZip (λ i x. slice_get elements i ≡ Some x) numbers picked

-- the element of this number is a field of the record of that one
abbrev pub IsFieldOf : PlacedText → ℕ → ℕ → Type 0
IsFieldOf text i k = (x : Placed) × (slice_get text.elements i ≡ Some x) × Any (◌≡◌ x) (fields_at text k)

-- ---- what a reading is of

abbrev pub text_of_reading : Reading → List ℕ
text_of_reading r = text_of r.database

abbrev pub ranges_of : List Record → List (Range ℕ)
ranges_of records = map (λ (own : Record). own.elements) records

-- the elements of each range
abbrev pub owns_in : List Piece → List (Range ℕ) → List (List Placed)
owns_in pieces ranges = map (λ own. drop own.start (take own.end (placed_from 0 pieces))) ranges

abbrev pub placed_of : Reading → PlacedText
placed_of r = placed_text r.database (ranges_of r.records.each.items)

-- the type of this number, of all types; none where there is none
abbrev pub IsTypeAt : List (List ℕ) → Option ℕ → Option (List ℕ) → Type 0
IsTypeAt types None is = is ≡ None
IsTypeAt types (Some number) is = (named : List ℕ) × (slice_get types number ≡ Some named) × (is ≡ Some named)

-- a record has the fields of these numbers, of all fields, and the type of this number, of all types
pub record IsRead (elements : List Placed) (fields : List ℕ) (types : List (List ℕ)) (own : Record) (is : PlacedRecord)
    : Type 0 where
  pub order : own.fields.start ≤ own.fields.end
  pub within : own.fields.end ≤ length fields
  pub picked : ArePicked elements (between own.fields.start own.fields.end fields) is.fields
  pub of_type : IsTypeAt types own.record_type is.record_type

abbrev pub AreRead : Reading → Type 0
AreRead r = AllZip (IsRead (placed_of r).elements r.records.fields.items r.records.types.items) r.records.each.items
    (placed_of r).records

pub record IsReading (r : Reading) : Type 0 where
  pub read : AreElementsOf r.database (text_of_reading r)
  pub are_records : AreRecords r.database (ranges_of r.records.each.items)
  pub records : AreRead r
  pub owners : (i k : ℕ) → (slice_get r.records.owners.items i ≡ Some (Some k)) ↔ IsFieldOf (placed_of r) i k

-- ---- as it is read

-- the record of this number, where its element is a field
abbrev pub owner_in : ℕ → Element → Option ℕ
owner_in number e = if is_field (placed e) then Some number else None

-- the number of an element, if it is a field; the numbers of fields, where the first of these elements has this one
abbrev pub field_number : ℕ → Element → List ℕ
field_number number e = if is_field (placed e) then number ∷ [] else []

abbrev pub field_numbers : ℕ → List Element → List ℕ
field_numbers number [] = []
field_numbers number (e ∷ es) = field_number number e ++ field_numbers (number + 1) es

abbrev pub with_type : List (List ℕ) → Option (List ℕ) → List (List ℕ)
with_type types None = types
with_type types (Some named) = types ++ named ∷ []

abbrev pub last_type : List (List ℕ) → Option (List ℕ)
last_type types = slice_get types (length types - 1)

-- the type of the set in which the next record is, if it names none
abbrev pub type_past : Option (List ℕ) → List (List Placed) → Option (List ℕ)
type_past record_type [] = record_type
type_past record_type (own ∷ owns) = type_past (record_of record_type own).record_type owns

-- the element of this number is a field, and lies in the range of that one
abbrev pub LiesInAt : List Piece → List (Range ℕ) → ℕ → ℕ → Type 0
LiesInAt pieces ranges i k = (own : Range ℕ) × (slice_get ranges k ≡ Some own) × (own.start ≤ i) × (i < own.end)
    × (is_field_at pieces i ≡ true)

-- the records that are read so far
pub record AreReadSoFar (pieces : List Piece) (records : List Record) (fields : List ℕ) (owners : List (Option ℕ))
    (types : List (List ℕ)) : Type 0 where
  pub each : AllZip (IsRead (placed_from 0 pieces) fields types) records
      (records_from None (owns_in pieces (ranges_of records)))
  pub owned : (i k : ℕ) → (slice_get owners i ≡ Some (Some k)) ↔ LiesInAt pieces (ranges_of records) i k
  pub last : last_type types ≡ type_past None (owns_in pieces (ranges_of records))

abbrev pub IsReadSoFar : List Piece → Records → Type 0
IsReadSoFar pieces s = AreReadSoFar pieces s.each.items s.fields.items s.owners.items s.types.items

-- ---- where the fields of records are

-- Which record has what there is of these fields, where this tells of a field in which record it is.
abbrev pub IsSpread : {X : Type 0} → (X → ℕ → Type 0) → List X → Spread → Type 0
IsSpread is_in fields Spread.Nowhere = AllByRecursion (λ x. (k : ℕ) → is_in x k → ⊥) fields
IsSpread is_in fields (Spread.In k) =
    Any (λ x. is_in x k) fields × AllByRecursion (λ x. (j : ℕ) → is_in x j → j ≡ k) fields
IsSpread is_in fields Spread.Several =
    (k : ℕ) × (j : ℕ) × (k ≢ j) × Any (λ x. is_in x k) fields × Any (λ x. is_in x j) fields

-- with one more field, which may be in a record
abbrev pub spread_with : Spread → Option ℕ → Spread
spread_with spread None = spread
spread_with Spread.Nowhere (Some k) = Spread.In k
spread_with (Spread.In j) (Some k) = if j == k then Spread.In k else Spread.Several
spread_with Spread.Several (Some k) = Spread.Several

-- the element of this number has one in the other text, where it is a field of that record
abbrev pub IsFoundIn : List (Option ℕ) → PlacedText → ℕ → ℕ → Type 0
IsFoundIn numbers other i k = (j : ℕ) × (slice_get numbers i ≡ Some (Some j)) × IsFieldOf other j k

-- the same of fields, by their numbers
abbrev pub IsSpreadBy : List (Option ℕ) → PlacedText → PlacedText → List Placed → Spread → Type 0
IsSpreadBy numbers one other fields spread = (own : List ℕ) × ArePicked one.elements own fields
    × IsSpread (IsFoundIn numbers other) own spread

abbrev pub AreSpreadsBy : List (Option ℕ) → PlacedText → PlacedText → List PlacedRecord → List Spread → Type 0
AreSpreadsBy numbers one other records spreads =
    AllZip (λ (r : PlacedRecord) s. IsSpreadBy numbers one other r.fields s) records spreads

abbrev pub AreSpreads : (Placed → ℕ → Type 0) → PlacedText → List Spread → Type 0
AreSpreads is_in text spreads = AllZip (λ (r : PlacedRecord) s. IsSpread is_in r.fields s) text.records spreads

-- a field stays as one of the record of this number; it was one of it
abbrev pub StaysIn : List Stretch → PlacedText → Placed → ℕ → Type 0
StaysIn parts other x k = StaysAmong parts (fields_at other k) x

abbrev pub WasIn : List Stretch → PlacedText → Placed → ℕ → Type 0
WasIn parts text y k = WasAmong parts (fields_at text k) y

-- ---- what is made of records

-- the number of the one of others to which this relation leads from a record
abbrev pub IsMadeOf : (PlacedRecord → PlacedRecord → Type 0) → List PlacedRecord → PlacedRecord → Option ℕ → Type 0
IsMadeOf leads others one None = AllByRecursion (λ other. leads one other → ⊥) others
IsMadeOf leads others one (Some k) =
    (other : PlacedRecord) × (slice_get others k ≡ Some other) × leads one other

abbrev pub AreMade : (PlacedRecord → PlacedRecord → Type 0) → PlacedText → PlacedText → List (Option ℕ) → Type 0
AreMade leads text other made = AllZip (IsMadeOf leads other.records) text.records made
