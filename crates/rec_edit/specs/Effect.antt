-- What an edit means for the records of a text, whatever stands between them.
use Rattle.std.specs.Prelude.{◌≡◌, ◌&&◌, ℕ, List, [], ◌∷◌, ◌++◌, map, take, drop, reverse, flat_map, filter_map}
use Rattle.std.specs.Prelude.{find, is_some, slice_get, zip, Option, Some, None, Ok, if◌then◌else◌}
use Rattle.std.specs.List.{AllZip, enumerate_from}
use Rattle.std.specs.Option.{option_map_or}
use Rattle.std.specs.declared.ops.Range.{Range}
use Rattle.rec_text.specs.Elements.{Piece, AreElementsOf}
use Rattle.rec_text.specs.Records.{AreRecords, elements_in, is_field_piece}
use Rattle.rec_sex.specs.declared.lists.field_list.Item.{Item}
use Rattle.rec_check.specs.declared.set.Set_.{Set_}
use Rattle.rec_check.specs.Automatic.{automatic_names}
use Rattle.rec_check.specs.Descriptors.{rec_name, holds_index}
pub use Rattle.rec_check.specs.Descriptors.{type_after}
use Rattle.rec_check.specs.Schemas.{Described}
use Rattle.rec_check.specs.Sets.{is_of_type}
use Rattle.rec_check.specs.Violations.{names_of}
use Rattle.rec_select.specs.Selection.{IsSelection}
use Rattle.rec_edit.specs.declared.request.Action.{Action}
use Rattle.rec_edit.specs.Task.{Pair, Wanted, Task, insert, replace, delete, comment_out, set, auto_fill}
use Rattle.rec_edit.specs.Script.{closed}
use Rattle.rec_edit.specs.Blocks.{is_selected}
use Rattle.rec_edit.specs.Rules.{canonical, fields_of, added, becomes_if, is_picked}
use Rattle.rec_edit.specs.Insertions.{Numbered, numbered_fields}
use Rattle.rec_edit.specs.Wording.{AreItemsFor, IsNewRecord}
use Rattle.rec_edit.specs.Automatic.{AreAutomatic, lacking}

-- ---- the records of a text

-- a record's own elements, and the type of the set in which it stands; a descriptor's is its own
pub record TypedRecord : Type 0 where
  pub record_type : Option (List ℕ)
  pub own : List Piece

abbrev pub typed_records : Option (List ℕ) → List (List Piece) → List TypedRecord
typed_records record_type [] = []
typed_records record_type (own ∷ records) = record { record_type = type_after record_type own; own = own }
    ∷ typed_records (type_after record_type own) records

-- a newline that the last one lacks is added
abbrev pub AreTypedRecords : List Piece → List TypedRecord → Type 0
AreTypedRecords pieces all_typed = (records : List (Range ℕ)) × AreRecords pieces records
    × (all_typed ≡ typed_records None (map (λ own_range. map closed (elements_in pieces own_range)) records))

-- ---- what becomes of records

-- from the first field on
abbrev pub from_field : List Piece → List Piece
from_field [] = []
from_field (piece ∷ pieces) = if is_field_piece piece then piece ∷ pieces else from_field pieces

-- from the first to the last field
abbrev pub between_fields : List Piece → List Piece
between_fields pieces = reverse (from_field (reverse (from_field pieces)))

-- elements as a record; they are none without a field
abbrev pub typed_record : Option (List ℕ) → List Piece → Option TypedRecord
typed_record record_type own = elim (between_fields own) [
  | [] ↦ None
  | piece ∷ pieces ↦ Some (record { record_type = record_type; own = piece ∷ pieces })
]

-- each record of these indexes is replaced by what is made of it, and is left out where that has no field
abbrev pub remade : List ℕ → (List Piece → List Piece) → List TypedRecord → List TypedRecord
remade selected made all_typed = filter_map
    (λ (i, typed). if is_selected selected i then typed_record typed.record_type (made typed.own) else Some typed)
    (enumerate_from 0 all_typed)

-- a record with its picked fields edited, and with those that are added
abbrev pub with_fields : Action → List Item → List Piece → List Piece
with_fields action items own =
    flat_map (λ (i, piece). becomes_if (is_picked items own i) action piece) (enumerate_from 0 own)
    ++ added action items own

-- records stand before the one of this index
abbrev pub put_at : ℕ → List TypedRecord → List TypedRecord → List TypedRecord
put_at place new all_typed = take place all_typed ++ (new ++ drop place all_typed)

-- the last record of its set; after a new descriptor where no set has the type
abbrev pub with_new : List Set_ → Option (List ℕ) → List Piece → List TypedRecord → List TypedRecord
with_new sets None own all_typed = option_map_or
    (λ s. put_at s.members.end (record { record_type = None; own = own } ∷ []) all_typed) (slice_get sets 0) all_typed
with_new sets (Some record_type) own all_typed = option_map_or
    (λ s. put_at s.members.end (record { record_type = Some record_type; own = own } ∷ []) all_typed)
    (find (is_of_type record_type) sets)
    (all_typed ++ record { record_type = Some record_type; own = canonical rec_name record_type ∷ [] }
    ∷ record { record_type = Some record_type; own = own } ∷ [])

-- ---- automatic filling

-- the automatic names of the typed set of which the record of this index is a member; a descriptor, and a record of no
-- type, have none
abbrev pub automatic_at : Described → ℕ → List (List ℕ)
automatic_at schema i = option_map_or (λ (s, rules). automatic_names rules)
    (find (λ (s, rules). is_some s.kind && holds_index i s.members) (zip schema.sets schema.rules)) []

-- first in the record stands a field for each of these names that it lacks, in their order; it stays as it is in all
-- else
pub record IsFilledUp (automatic : List (List ℕ)) (typed filled : TypedRecord) : Type 0 where
  pub given : List Numbered
  pub names : map (λ one. one.name) given ≡ lacking automatic (names_of typed.own)
  pub is : filled ≡ record typed { own = numbered_fields given ++ typed.own }

-- ---- the effect

-- these records are selected
abbrev pub AreIndexesOf : List Piece → Described → Wanted → List ℕ → Type 0
AreIndexesOf pieces schema wanted selected =
    IsSelection pieces schema.sets wanted.record_type wanted.filter (Ok selected)

-- the records before an edit that isn't refused, and then those after it
abbrev pub AreRecordsAfter : List Piece → Described → Task → List TypedRecord → List TypedRecord → Type 0
AreRecordsAfter pieces schema (insert record_type fresh auto) before after =
    (pairs : List Pair) × (automatic : List Numbered) × IsNewRecord record_type fresh (Ok pairs)
    × AreAutomatic pieces schema record_type auto (map (λ pair. pair.name) pairs) (Ok automatic)
    × (after ≡ with_new schema.sets record_type (numbered_fields automatic ++ fields_of pairs) before)
AreRecordsAfter pieces schema (replace wanted fresh) before after =
    (selected : List ℕ) × (pairs : List Pair) × AreIndexesOf pieces schema wanted selected
    × IsNewRecord None fresh (Ok pairs) × (after ≡ remade selected (λ own. fields_of pairs) before)
AreRecordsAfter pieces schema (delete wanted) before after =
    (selected : List ℕ) × AreIndexesOf pieces schema wanted selected
    × (after ≡ remade selected (λ own. []) before)
AreRecordsAfter pieces schema (comment_out wanted) before after =
    (selected : List ℕ) × AreIndexesOf pieces schema wanted selected
    × (after ≡ remade selected (λ own. []) before)
AreRecordsAfter pieces schema (set wanted list action) before after =
    (selected : List ℕ) × (items : List Item) × AreIndexesOf pieces schema wanted selected
    × AreItemsFor action list (Ok items) × (after ≡ remade selected (with_fields action items) before)
AreRecordsAfter pieces schema auto_fill before after =
    AllZip (λ (i, typed) filled. IsFilledUp (automatic_at schema i) typed filled) (enumerate_from 0 before) after

-- the records of the two texts
pub record HasEffect (pieces : List Piece) (schema : Described) (task : Task) (text : List ℕ) : Type 0 where
  pub before : List TypedRecord
  pub are_before : AreTypedRecords pieces before
  pub edited : List Piece
  pub are_edited : AreElementsOf edited text
  pub after : List TypedRecord
  pub are_after : AreTypedRecords edited after
  pub leads : AreRecordsAfter pieces schema task before after
