-- Edits of small texts: the edited texts, and what they mean for the records. Each example computes.
use Rattle.std.proofs.Common.{ℕ, ◌+◌, ◌==◌, Bool, true, ◌&&◌, List, [], ◌∷◌, length, take, drop, Option, Some, None, if◌then◌else◌, ◌≡◌, false, inl, inr, map, Ok, Err, refl, ap, arith, lit≤}
use Rattle.std.specs.List.{list_all}
use Rattle.std.specs.Option.{option_map_or}
use Rattle.std.specs.Str.{bytes_eq}
use Rattle.std.specs.declared.ops.Range.{Range}
use Rattle.std.specs.Prelude.{codes}
use Rattle.rec_text.specs.declared.element.Kind.{Kind}
use Rattle.rec_text.specs.declared.element.Kind.TheVariants.{Blank, Comment, Field}
use Rattle.rec_text.specs.Bytes.{begins_name, ends_newline}
use Rattle.rec_text.specs.Elements.{Piece, text_of, is_element, colon_of}
use Rattle.rec_text.specs.Records.{AreRecords, is_full_at, is_field_at, elements_in}
use Rattle.rec_text.specs.proving.Scan.{line_len, body_len}
use Rattle.rec_text.specs.proving.Scanned.{runs_to, all_narrowed, range, runs_from, narrowed_from}
use Rattle.rec_check.specs.declared.set.Set_.{Set_}
use Rattle.rec_check.specs.Descriptors.{types_of}
use Rattle.rec_journal.specs.declared.patch.Hunk.{Hunk}
use Rattle.rec_sex.specs.declared.lists.field_list.Item.{Item}
use Rattle.rec_edit.specs.Task.{Pair, of_pairs, of_text}
use Rattle.rec_edit.specs.Script.{Part, old_pieces, new_pieces, edited_text, closed}
use Rattle.rec_edit.specs.Outcome.{put_in, EditScript, allowed, made_of}
use Rattle.rec_edit.specs.Insertions.{insertion_for}
use Rattle.rec_text.specs.declared.fault.Fault.TheVariants.{BadFieldList, NoSelection, BadName, BadValue, BadRecord}
use Rattle.rec_sex.specs.Lists.{AreItems}
use Rattle.rec_select.specs.Selection.{all, at_places, with_text, with_value}
use Rattle.rec_edit.specs.declared.request.Action.TheVariants.{Set, Add, SetAdd, Rename, Delete, Comment as CommentFields}
use Rattle.rec_edit.specs.Wording.{AreItemsFor, IsNewRecord}
use Rattle.rec_edit.specs.declared.request.Action.{Action}
use Rattle.rec_edit.specs.Blocks.{Block, is_selected}
use Rattle.rec_edit.specs.Rules.{fields_of, deleted as is_deleted, commented as is_commented, replaced as is_replaced, edited}
use Rattle.rec_edit.specs.Effect.{TypedRecord, typed_records, remade, with_fields, with_new}
use Rattle.rec_text.proofs.lemmas.records.RunLemmas.{AreRuns-runs_to}
use Rattle.rec_text.proofs.lemmas.records.RecordLemmas.{AreRecords-all_narrowed}
use Rattle.rec_check.proofs.lemmas.SetLemmas.{set_of}

-- ---- a reader that computes, for the examples: the elements, records and record sets of a text, and what a step makes of it

-- ---- elements

-- the kind of the first element, by its first byte
abbrev pub first_kind : List ℕ → Kind
first_kind [] = Blank
first_kind (b ∷ bs) = if b == 35 then Comment else if begins_name b then Field else Blank

-- how long it is
abbrev pub first_len : List ℕ → ℕ
first_len text = elim (first_kind text) [
  | Blank ↦ line_len text
  | Comment ↦ line_len text
  | Field ↦ option_map_or (λ c. c + 1 + body_len 58 (drop (c + 1) text)) (colon_of text) 0
]

-- at most as many elements as the first list has bytes
abbrev pub elements_from : List ℕ → List ℕ → List Piece
elements_from [] text = []
elements_from (_ ∷ more) [] = []
elements_from (_ ∷ more) (b ∷ bs) =
    record { kind = first_kind (b ∷ bs); bytes = take (first_len (b ∷ bs)) (b ∷ bs) } ∷ elements_from more (drop (first_len (b ∷ bs)) (b ∷ bs))

abbrev pub elements : List ℕ → List Piece
elements text = elements_from text text

abbrev pub lines_end : List Piece → Bool
lines_end [] = true
lines_end (piece ∷ []) = true
lines_end (piece ∷ next ∷ pieces) = ends_newline piece.bytes && lines_end (next ∷ pieces)

-- these are the elements of the text
abbrev pub are_elements : List Piece → List ℕ → Bool
are_elements pieces text = bytes_eq (text_of pieces) text && list_all (λ piece. is_element piece.kind piece.bytes) pieces && lines_end pieces

-- ---- records and sets

abbrev pub records_of : List Piece → List (Range ℕ)
records_of pieces = all_narrowed (is_field_at pieces) (runs_to (is_full_at pieces) (length pieces) 0)

pub AreRecords-records_of : (pieces : List Piece) → AreRecords pieces (records_of pieces)
AreRecords-records_of pieces = AreRecords-all_narrowed pieces (runs_to (is_full_at pieces) (length pieces) 0) (AreRuns-runs_to (is_full_at pieces) (length pieces))

-- the sets of records that name these types, the first of which has this index; one is begun
abbrev pub sets_from : ℕ → Option (List ℕ) → Option ℕ → ℕ → List (Option (List ℕ)) → List Set_
sets_from i record_type head start [] = set_of record_type head start i ∷ []
sets_from i record_type head start (None ∷ types) = sets_from (i + 1) record_type head start types
sets_from i record_type head start (Some named ∷ types) = set_of record_type head start i ∷ sets_from (i + 1) (Some named) (Some i) (i + 1) types

abbrev pub sets_of : List Piece → List Set_
sets_of pieces = sets_from 0 None None 0 (types_of pieces (records_of pieces))

-- ---- what a step makes of a text

-- the step that makes this of the records of these indexes
abbrev pub over : (Block → List Part) → List ℕ → List ℕ → EditScript
over made indexes text = made_of (Some (length indexes)) (is_selected indexes) (λ k. made) (elements text) (records_of (elements text))

-- the text after it and how many records it changes; and its old and new elements are those of the two texts
abbrev pub Shown : Type 0
Shown = Bool × List ℕ × ℕ

abbrev pub shown : List ℕ → EditScript → Shown
shown text edit = (are_elements (old_pieces edit.script) text && are_elements (new_pieces edit.script) (edited_text edit.script), edited_text edit.script, edit.changed)

abbrev pub expected : List ℕ → ℕ → Shown
expected text changed = (true, text, changed)

abbrev pub hunk : ℕ → List ℕ → List ℕ → Hunk
hunk at old new = record { at = at; old = old; new = new }

abbrev pub pair : List ℕ → List ℕ → Pair
pair name value = record { name = name; value = value }

-- all occurrences of a field, and one
abbrev pub every : List ℕ → Item
every name = record { name = name; occurrences = None }

abbrev pub nth : List ℕ → ℕ → Item
nth name i = record { name = name; occurrences = Some (record { first = i; last = i }) }

-- ---- the texts of an edit at examples: each computes, or has its witness

-- ---- the list of fields

list_of_numbered : AreItems (codes "%a[0]") (nth (codes "%a") 0 ∷ [])
list_of_numbered = (codes "[0]", refl, refl, (codes "0", refl, inl ((record { some = λ none. omega (arith, ap length none); all = refl; ended = refl }, refl, lit≤ tt), refl, refl)))

list_of_special : AreItems (codes "%rec") (every (codes "%rec") ∷ [])
list_of_special = ([], refl, refl, refl)

list_of_plain : AreItems (codes "A") (every (codes "A") ∷ [])
list_of_plain = ([], refl, refl, refl)

-- a number among the occurrences comes before a bad name, and that before a bad value
number_first : AreItemsFor (Add (codes "x\\")) (codes "%a[0]") (Err (BadFieldList 2))
number_first = inr (nth (codes "%a") 0 ∷ [], list_of_numbered, inl (BadFieldList 2, refl, refl))

name_before_value : AreItemsFor (Add (codes "x\\")) (codes "%rec") (Err BadName)
name_before_value = inr (every (codes "%rec") ∷ [], list_of_special, inr (every (codes "%rec") ∷ [], refl, refl))

value_last : AreItemsFor (Add (codes "a\\\nb")) (codes "A") (Err BadValue)
value_last = inr (every (codes "A") ∷ [], list_of_plain, inr (every (codes "A") ∷ [], refl, refl))

-- only a field that is added has no number
number_of_set_or_added : AreItemsFor (SetAdd (codes "x")) (codes "%a[0]") (Err BadName)
number_of_set_or_added = inr (nth (codes "%a") 0 ∷ [], list_of_numbered, inr (nth (codes "%a") 0 ∷ [], refl, refl))

good_value : AreItemsFor (Set (codes "\\ \nb")) (codes "A") (Ok (every (codes "A") ∷ []))
good_value = inr (every (codes "A") ∷ [], list_of_plain, inr (every (codes "A") ∷ [], refl, refl))

-- the new name is tested too, and a name that is deleted
bad_new_name : AreItemsFor (Rename (codes "%b")) (codes "A") (Err BadName)
bad_new_name = inr (every (codes "A") ∷ [], list_of_plain, inr (every (codes "A") ∷ [], refl, refl))

deleted_name : AreItemsFor Delete (codes "%rec") (Err BadName)
deleted_name = inr (every (codes "%rec") ∷ [], list_of_special, inr (every (codes "%rec") ∷ [], refl, refl))

good_rename : AreItemsFor (Rename (codes "B_1")) (codes "A") (Ok (every (codes "A") ∷ []))
good_rename = inr (every (codes "A") ∷ [], list_of_plain, inr (every (codes "A") ∷ [], refl, refl))

-- ---- the new record

no_field : IsNewRecord (Some (codes "1P")) (of_pairs []) (Err BadRecord)
no_field = inl (BadRecord, refl, refl)

bad_type : IsNewRecord (Some (codes "1P")) (of_pairs (pair (codes "A") (codes "x") ∷ [])) (Err BadName)
bad_type = inr (pair (codes "A") (codes "x") ∷ [], refl, refl)

-- any name comes before any value
all_names_first : IsNewRecord None (of_pairs (pair (codes "A") (codes "x\\") ∷ pair (codes "1A") (codes "x") ∷ [])) (Err BadName)
all_names_first = inr (pair (codes "A") (codes "x\\") ∷ pair (codes "1A") (codes "x") ∷ [], refl, refl)

bad_value : IsNewRecord None (of_pairs (pair (codes "A") (codes "x\\") ∷ [])) (Err BadValue)
bad_value = inr (pair (codes "A") (codes "x\\") ∷ [], refl, refl)

-- comments and blank lines are dropped, and values are read
abbrev given : List ℕ
given = codes "# c\n\nA: 1\n# d\nB:\tx\\\ny\n+ z"

abbrev given_pairs : List Pair
given_pairs = pair (codes "A") (codes "1") ∷ pair (codes "B") (codes "xy\nz") ∷ []

record_in_text : IsNewRecord None (of_text given) (Ok given_pairs)
unfolding runs_from narrowed_from
record_in_text = inr (
  given_pairs,
  (
    elements given,
    range 2 5,
    record { joined = refl; well_formed = (refl, (refl, (refl, (refl, (refl, tt))))); lines_end = (refl, (refl, (refl, (refl, tt)))) },
    AreRecords-records_of (elements given),
    refl,
  ),
  refl,
)

-- a value in a text may have a line that ends in a backslash
abbrev backslashed : List ℕ
backslashed = codes "B: x\\\\\n\n"

backslash_in_text : IsNewRecord None (of_text backslashed) (Err BadValue)
unfolding runs_from narrowed_from
backslash_in_text = inr (
  pair (codes "B") (codes "x\\") ∷ [],
  (elements backslashed, range 0 1, record { joined = refl; well_formed = (refl, tt); lines_end = tt }, AreRecords-records_of (elements backslashed), refl),
  refl,
)

-- a descriptor is a record
abbrev descriptor : List ℕ
descriptor = codes "%rec: Q\n"

descriptor_in_text : IsNewRecord None (of_text descriptor) (Err BadName)
unfolding runs_from narrowed_from
descriptor_in_text = inr (
  pair (codes "%rec") (codes "Q") ∷ [],
  (elements descriptor, range 0 1, record { joined = refl; well_formed = (refl, tt); lines_end = tt }, AreRecords-records_of (elements descriptor), refl),
  refl,
)

-- ---- all records of a set

forced_or_not : map (allowed all) (false ∷ true ∷ []) ≡ Err NoSelection ∷ Ok tt ∷ []
forced_or_not = refl

-- a selection takes some, though it may be all of them
some_records : map (λ wanted. allowed wanted false) (at_places [] ∷ with_text [] ∷ with_value (record { name = []; value = [] }) ∷ []) ≡ Ok tt ∷ Ok tt ∷ Ok tt ∷ []
some_records = refl

-- ---- what edits mean for the records, at small texts: the records that are meant are those of the edited text. Each example computes

abbrev all_typed : List ℕ → List TypedRecord
all_typed text = typed_records None (map (λ own_range. map closed (elements_in (elements text) own_range)) (records_of (elements text)))

-- comments, two types, joined and plus lines, and no last newline
abbrev untidy : List ℕ
untidy = codes "# h\nA: 1\n# c\nB: x\\\ny\n# t\n\n%rec: P\n\nA: 1\nA:2\n\n \nB:\n+ z\n# c\nA: 3"

deleted : all_typed (edited_text (over is_deleted (0 ∷ 3 ∷ []) untidy).script) ≡ remade (0 ∷ 3 ∷ []) (λ own. []) (all_typed untidy)
unfolding runs_from narrowed_from
deleted = refl

commented_out : all_typed (edited_text (over is_commented (0 ∷ 3 ∷ []) untidy).script) ≡ remade (0 ∷ 3 ∷ []) (λ own. []) (all_typed untidy)
unfolding runs_from narrowed_from
commented_out = refl

abbrev fresh : List Piece
fresh = fields_of (pair (codes "C") (codes "a\nb") ∷ pair (codes "D") [] ∷ [])

replaced : all_typed (edited_text (over (is_replaced fresh) (0 ∷ 3 ∷ []) untidy).script) ≡ remade (0 ∷ 3 ∷ []) (λ own. fresh) (all_typed untidy)
unfolding runs_from narrowed_from
replaced = refl

-- ---- fields

abbrev IsMeant : Action → List Item → List ℕ → Type 0
IsMeant action items indexes = all_typed (edited_text (over (edited action items) indexes untidy).script) ≡ remade indexes (with_fields action items) (all_typed untidy)

set_fields : IsMeant (Set (codes "9")) (every (codes "A") ∷ every (codes "B") ∷ []) (0 ∷ 2 ∷ 3 ∷ [])
unfolding runs_from narrowed_from
set_fields = refl

added_fields : IsMeant (Add (codes "9")) (every (codes "A") ∷ every (codes "C") ∷ []) (0 ∷ 2 ∷ 3 ∷ [])
unfolding runs_from narrowed_from
added_fields = refl

set_or_added_fields : IsMeant (SetAdd (codes "9")) (nth (codes "A") 1 ∷ every (codes "C") ∷ []) (0 ∷ 2 ∷ 3 ∷ [])
unfolding runs_from narrowed_from
set_or_added_fields = refl

renamed_fields : IsMeant (Rename (codes "Longer")) (every (codes "B") ∷ nth (codes "A") 0 ∷ []) (0 ∷ 2 ∷ 3 ∷ [])
unfolding runs_from narrowed_from
renamed_fields = refl

-- a record begins or ends with a comment no more, and one without a field is none
deleted_fields : IsMeant Delete (every (codes "A") ∷ []) (0 ∷ 2 ∷ 3 ∷ [])
unfolding runs_from narrowed_from
deleted_fields = refl

commented_fields : IsMeant CommentFields (every (codes "A") ∷ []) (0 ∷ 2 ∷ 3 ∷ [])
unfolding runs_from narrowed_from
commented_fields = refl

-- ---- a new record

abbrev IsInserted : Option (List ℕ) → List ℕ → Type 0
IsInserted record_type text = all_typed (edited_text (put_in (insertion_for (elements text) (records_of (elements text)) (sets_of (elements text)) record_type fresh) (elements text)).script)
    ≡ with_new (sets_of (elements text)) record_type fresh (all_typed text)

untyped : IsInserted None untidy
unfolding runs_from narrowed_from
untyped = refl

of_a_type : IsInserted (Some (codes "P")) untidy
unfolding runs_from narrowed_from
of_a_type = refl

of_new_type : IsInserted (Some (codes "Q")) untidy
unfolding runs_from narrowed_from
of_new_type = refl

first : IsInserted None []
unfolding runs_from narrowed_from
first = refl

before_descriptors : IsInserted None (codes "# c\n%rec: P\n\n%rec: Q")
unfolding runs_from narrowed_from
before_descriptors = refl

in_the_middle : IsInserted (Some (codes "P")) (codes "# c\n%rec: P\n\n%rec: Q")
unfolding runs_from narrowed_from
in_the_middle = refl
