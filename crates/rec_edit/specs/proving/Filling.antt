-- Automatic fields as they are given: counter by counter, record by record, and set by set.
use Rattle.std.specs.Prelude.{◌≡◌, ◌<◌, ℕ, ℤ, Bool, List, [], ◌++◌, length, map, Option, Result, Ok}
use Rattle.std.specs.Prelude.{Err}
use Rattle.std.specs.Borrow.{Bor}
use Rattle.std.specs.HashSet.{HashSet}
use Rattle.std.specs.declared.ops.Range.{Range}
use Rattle.rec_text.specs.declared.fault.Fault.{Fault}
use Rattle.rec_text.specs.Elements.{Piece}
use Rattle.rec_text.specs.Records.{AreRecords}
use Rattle.rec_check.specs.declared.automatic.counter.Counter.{Counter}
use Rattle.rec_check.specs.Automatic.{automatic_names, automatic_of, IsAutomatic, IsNext}
use Rattle.rec_check.specs.Counters.{AreCounters}
use Rattle.rec_sex.specs.proving.Choices.{has_name}
use Rattle.rec_check.specs.Rules.{Rules}
use Rattle.rec_check.specs.Schemas.{Described}
use Rattle.rec_text.specs.Bytes.{is_among}
use Rattle.rec_edit.specs.declared.automatic.filled.FilledRecord.{FilledRecord}
use Rattle.rec_edit.specs.declared.automatic.numbered.NumberedField.{NumberedField}
use Rattle.rec_edit.specs.Automatic.{lacking, numbers_in, AreNumbered, AreAutomatic, AreFilledOf}
use Rattle.rec_edit.specs.Insertions.{Numbered}

-- ---- as they are kept

abbrev pub numbered : List NumberedField → List Numbered
numbered fields = map (λ field. record { name = field.name.now; number = field.number }) fields

abbrev pub filled_of : List FilledRecord → List (List Numbered)
filled_of records = map (λ one. numbered one.given.items) records

-- the set has these names
abbrev pub AreNamesOf : {S : Type 0} → HashSet (Bor (List ℕ)) S → List (List ℕ) → Type 0
AreNamesOf names own = (name : List ℕ) → has_name names name ≡ is_among own name

-- ---- as they are given

-- these stand before what else is answered
abbrev pub before : {X : Type 0} → List X → Result (List X) Fault → Result (List X) Fault
before some (Ok more) = Ok (some ++ more)
before some (Err fault) = Err fault

-- the numbers of each name, after those that are given
abbrev pub with_given : List Numbered → (List ℕ → List ℤ) → List ℕ → List ℤ
with_given given numbers name = numbers_in given name ++ numbers name

-- the fields that a record with fields of these names is given, and the counters after them
pub record IsGiven (rules : Rules) (numbers : List ℕ
    → List ℤ) (own : List (List ℕ)) (given : List Numbered) (counters : List Counter) : Type 0 where
  pub fields : AreNumbered (λ name. IsNext rules name (numbers name)) (lacking (automatic_names rules) own) (Ok given)
  pub counters_are : AreCounters rules (with_given given numbers) counters

-- none are given, for want of a number
abbrev pub IsRefused : Rules → (List ℕ → List ℤ) → List (List ℕ) → Fault → Type 0
IsRefused rules numbers own fault = AreNumbered (λ name. IsNext rules name (numbers name))
    (lacking (automatic_names rules) own) (Err fault)

-- the automatic fields of the set at a place that a record with fields of these names lacks
abbrev pub AreLacking : List Piece → Described → ℕ → List (List ℕ) → Result (List Numbered) Fault → Type 0
AreLacking pieces schema place own = AreNumbered (IsAutomatic pieces schema place)
    (lacking (automatic_of schema place) own)

-- a new record of this type gets no automatic field, or those of the set at a place
abbrev pub GivesNone : Described → Option (List ℕ) → Bool → Type 0
GivesNone schema record_type auto = (pieces : List Piece) (own : List (List ℕ))
    → AreAutomatic pieces schema record_type auto own (Ok [])

abbrev pub GivesAt : Described → Option (List ℕ) → Bool → ℕ → Type 0
GivesAt schema record_type auto place = (place < length schema.sets)
    × ((pieces : List Piece) (own : List (List ℕ)) (answer : Result (List Numbered) Fault)
    → AreLacking pieces schema place own answer → AreAutomatic pieces schema record_type auto own answer)

-- some are filled, after others
pub record AddsFilled (answer : Result (List (List Numbered)) Fault → Type 0)
    (old new : List (List Numbered)) : Type 0 where
  pub own : List (List Numbered)
  pub are : answer (Ok own)
  pub joined : new ≡ old ++ own

-- the same of records as they are kept
abbrev pub FillsMore : (Result (List (List Numbered)) Fault → Type 0) → List FilledRecord → List FilledRecord → Type 0
FillsMore answer old new = AddsFilled answer (filled_of old) (filled_of new)

-- all records of a text are filled so
abbrev pub AreAllFilled : List Piece → Described → Result (List (List Numbered)) Fault → Type 0
AreAllFilled pieces schema answer = (records : List (Range ℕ)) × AreRecords pieces records
    × AreFilledOf pieces records schema answer
