-- What the texts of an edit mean, before any record is looked at: its list of fields, its new record, its names and
-- values.
use Rattle.std.specs.Prelude.{◌≡◌, ℕ, ◌==◌, List, [], ◌∷◌, ◌++◌, map, filter, position, Option, option_to_list, Result}
use Rattle.std.specs.Prelude.{Ok, Err, if◌then◌else◌}
use Rattle.std.specs.List.{list_all}
use Rattle.std.specs.Option.{option_map_or}
use Rattle.std.specs.declared.ops.Range.{Range}
use Rattle.rec_text.specs.declared.fault.Fault.{Fault}
use Rattle.rec_text.specs.declared.fault.Fault.TheVariants.{BadFieldList, BadName, BadValue, BadRecord}
use Rattle.rec_text.specs.Ascii.{space, left_bracket}
use Rattle.rec_text.specs.Canonical.{is_plain_name, is_foldable}
use Rattle.rec_text.specs.Elements.{Piece, AreElementsOf, name_of}
use Rattle.rec_text.specs.Records.{AreRecords, elements_in, is_field_piece}
use Rattle.rec_text.specs.Steps.{Then}
use Rattle.rec_text.specs.Values.{value_of}
use Rattle.rec_sex.specs.declared.lists.field_list.Item.{Item}
use Rattle.rec_sex.specs.Lists.{IsFieldList}
use Rattle.rec_edit.specs.declared.request.Action.{Action}
use Rattle.rec_edit.specs.declared.request.Action.TheVariants.{Set, Add, SetAdd, Rename}
use Rattle.rec_edit.specs.Task.{Pair, NewRecord, of_pairs, of_text}

-- ---- names and values that recu writes

-- x, if all names can be written, and all values; a bad name comes before any bad value
abbrev pub if_writable : {X : Type 0} → List (List ℕ) → List (List ℕ) → X → Result X Fault
if_writable names values x =
    if list_all is_plain_name names
    then (if list_all (is_foldable space) values then Ok x else Err BadValue)
    else Err BadName

-- ---- the list of fields of a set

-- a field that is added has no number among the occurrences
abbrev pub unnumbered : Action → List ℕ → List Item → Result (List Item) Fault
unnumbered (Add value) list items =
    option_map_or (λ place. Err (BadFieldList place)) (position (λ b. b == left_bracket) list) (Ok items)
unnumbered _ list items = Ok items

abbrev pub names_of_action : Action → List (List ℕ)
names_of_action (Rename name) = name ∷ []
names_of_action _ = []

abbrev pub values_of_action : Action → List (List ℕ)
values_of_action (Set value) = value ∷ []
values_of_action (Add value) = value ∷ []
values_of_action (SetAdd value) = value ∷ []
values_of_action _ = []

-- the items, where their names and that of the action can be written, and its value
abbrev pub written_items : Action → List Item → Result (List Item) Fault
written_items action items =
    if_writable (map (λ item. item.name) items ++ names_of_action action) (values_of_action action) items

-- the items that an action works on
abbrev pub AreItemsFor : Action → List ℕ → Result (List Item) Fault → Type 0
AreItemsFor action list =
    Then (IsFieldList list) (λ items.
    Then (λ answer. answer ≡ unnumbered action list items) (λ _ answer.
    answer ≡ written_items action items))

-- ---- the new record

-- the name and the value of a field
abbrev pub pair_of : Piece → Pair
pair_of field = record { name = name_of field; value = value_of field }

-- the names and values of a record's fields
abbrev pub pairs_of : List Piece → List Pair
pairs_of own = map pair_of (filter is_field_piece own)

-- a text that holds one record
abbrev pub IsRecordText : List ℕ → Result (List Pair) Fault → Type 0
IsRecordText text (Ok pairs) = (pieces : List Piece) × (own_range : Range ℕ) × AreElementsOf pieces text
    × AreRecords pieces (own_range ∷ [])
    × (pairs ≡ pairs_of (elements_in pieces own_range))
IsRecordText text (Err BadRecord) = (pieces : List Piece) (own_range : Range ℕ) → AreElementsOf pieces text
    → AreRecords pieces (own_range ∷ []) → ⊥
IsRecordText text (Err _) = ⊥

-- names and values that are given one by one: at least one
abbrev pub some_pairs : List Pair → Result (List Pair) Fault
some_pairs [] = Err BadRecord
some_pairs (pair ∷ pairs) = Ok (pair ∷ pairs)

abbrev pub ArePairs : NewRecord → Result (List Pair) Fault → Type 0
ArePairs (of_pairs given) answer = answer ≡ some_pairs given
ArePairs (of_text bytes) answer = IsRecordText bytes answer

abbrev pub names_in : List Pair → List (List ℕ)
names_in pairs = map (λ pair. pair.name) pairs

-- the names and values, where the names can be written, the type among them, and the values
abbrev pub written_pairs : Option (List ℕ) → List Pair → Result (List Pair) Fault
written_pairs record_type pairs =
    if_writable (option_to_list record_type ++ names_in pairs) (map (λ pair. pair.value) pairs) pairs

-- the names and values of a new record, of this type where one is given
abbrev pub IsNewRecord : Option (List ℕ) → NewRecord → Result (List Pair) Fault → Type 0
IsNewRecord record_type fresh =
    Then (ArePairs fresh) (λ pairs answer.
    answer ≡ written_pairs record_type pairs)
