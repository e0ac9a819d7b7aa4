-- The records that a selection takes: a set, and a filter of its members.
use Rattle.std.specs.Prelude.{◌≡◌, ◌↔◌, ℕ, ◌-◌, ◌<◌, ◌≤◌, Bool, true, List, [], ◌∷◌, ◌++◌, Any, AllPairs, Contains}
use Rattle.std.specs.Prelude.{find, nat_lt, Option, Some, None, Result, Ok, Err, MatchResult, if◌then◌else◌}
use Rattle.std.specs.declared.ops.Range.{Range}
use Rattle.rec_text.specs.declared.fault.Fault.{Fault}
use Rattle.rec_text.specs.declared.fault.Fault.TheVariants.{TypeNeeded, NoSuchType}
use Rattle.rec_text.specs.Elements.{Piece, has_name}
use Rattle.rec_text.specs.Records.{AreRecords, is_field_piece}
use Rattle.rec_text.specs.Values.{value_of}
use Rattle.rec_sex.specs.declared.lists.index_list.Span.{Span}
use Rattle.rec_sex.specs.Expressions.{term_of}
use Rattle.rec_sex.specs.Grammar.{Term}
use Rattle.rec_sex.specs.IndexList.{has}
use Rattle.rec_sex.specs.Meaning.{Selects}
use Rattle.rec_check.specs.declared.schema.Schema.{Schema}
use Rattle.rec_check.specs.declared.set.Set_.{Set_}
pub use Rattle.rec_text.specs.Records.{record_at}
use Rattle.rec_check.specs.Sets.{is_of_type}
use Rattle.rec_check.specs.Stored.{described}
use Rattle.rec_select.specs.declared.field_value.FieldValue.{FieldValue}
use Rattle.rec_select.specs.declared.selection.By.{By}
use Rattle.rec_select.specs.declared.selection.By.TheVariants.{All, Expr, Index, Quick, Where}
use Rattle.rec_select.specs.declared.selection.Selection.{Selection}

-- ---- the set

-- where the untyped set has no record: the only typed set; where there is none the untyped one, and where there are
-- several a type is needed
abbrev pub only_set : Set_ → List Set_ → Result Set_ Fault
only_set untyped [] = Ok untyped
only_set untyped (s ∷ []) = Ok s
only_set untyped (s ∷ t ∷ sets) = Err TypeNeeded

abbrev pub has_members : Set_ → Bool
has_members s = nat_lt s.members.start s.members.end

-- without a type: the untyped set where it has a record, or else as above; the untyped set is the first
abbrev pub set_without_type : List Set_ → Result Set_ Fault
set_without_type [] = Err TypeNeeded
set_without_type (untyped ∷ typed) = if has_members untyped then Ok untyped else only_set untyped typed

-- the set of a type
abbrev pub set_of_type : List ℕ → List Set_ → Result Set_ Fault
set_of_type record_type sets = elim (find (is_of_type record_type) sets) [ None ↦ Err NoSuchType | Some s ↦ Ok s ]

-- the set that is selected from, or why there is none
abbrev pub set_for : Option (List ℕ) → List Set_ → Result Set_ Fault
set_for None sets = set_without_type sets
set_for (Some record_type) sets = set_of_type record_type sets

-- this is what a call answers: what it lends has the value, or it refuses so
abbrev pub Answers : {X Y : Type 0} → (X → Y) → Result X Fault → Result Y Fault → Type 0
Answers value result answer = MatchResult result (λ x. answer ≡ Ok (value x)) (λ fault. answer ≡ Err fault)

-- ---- the filter

-- which members are selected: all; those that an expression selects; those at some places of the set, from 0; those
-- with a value that holds a text; those with a field of some name that has exactly some value
pub data Filter : Type 0 where
  all : Filter
  by_expression : Term → Filter
  at_places : List Span → Filter
  with_text : List ℕ → Filter
  with_value : FieldValue → Filter

abbrev pub filter_of : By → Filter
filter_of All = all
filter_of (Expr e) = by_expression (term_of e)
filter_of (Index list) = at_places list
filter_of (Quick text) = with_text text
filter_of (Where wanted) = with_value wanted

-- the text stands somewhere in the value
abbrev pub Holds : List ℕ → List ℕ → Type 0
Holds value text = (prefix following : List ℕ) × (value ≡ prefix ++ (text ++ following))

-- the element is a field of the name, and its value is the one that is wanted
abbrev pub HasValue : FieldValue → Piece → Type 0
HasValue wanted piece = (has_name wanted.name piece ≡ true) × (value_of piece ≡ wanted.value)

-- the member with these elements, at this place of its set, is selected
abbrev pub Passes : Filter → List Piece → ℕ → Type 0
Passes all pieces place = Unit {0}
Passes (by_expression term) pieces place = Selects term pieces
Passes (at_places spans) pieces place = has spans place ≡ true
Passes (with_text text) pieces place = Any (λ piece. (is_field_piece piece ≡ true) × Holds (value_of piece) text) pieces
Passes (with_value wanted) pieces place = Any (HasValue wanted) pieces

-- ---- the selection

-- the members of a set that pass a filter, by their indexes among all records, in order
pub record AreSelected (pieces : List Piece) (s : Set_) (wanted : Filter) (selected : List ℕ) : Type 0 where
  pub records : List (Range ℕ)
  pub are : AreRecords pieces records
  pub ascending : AllPairs (λ a b. a < b) selected
  pub members : (i : ℕ) → Contains selected i
      ↔ ((s.members.start ≤ i) × (i < s.members.end) × Passes wanted (record_at pieces records i) (i - s.members.start))

-- the one answer to a selection, memory aside: the records, or why there is no set to select from
abbrev pub IsSelection : List Piece → List Set_ → Option (List ℕ) → Filter → Result (List ℕ) Fault → Type 0
IsSelection pieces sets record_type wanted (Ok selected) =
    (s : Set_) × (set_for record_type sets ≡ Ok s) × AreSelected pieces s wanted selected
IsSelection pieces sets record_type wanted (Err fault) = set_for record_type sets ≡ Err fault

-- the same of a selection from a text with its schema
abbrev pub IsChoice : List Piece → Schema → Selection → Result (List ℕ) Fault → Type 0
IsChoice pieces schema selection = IsSelection pieces (described schema).sets selection.kind (filter_of selection.by)

-- a selection has one answer
abbrev pub OneSelection : Type 0
OneSelection =
    (pieces : List Piece) (sets : List Set_) (record_type : Option (List ℕ)) (wanted : Filter)
    (one other : Result (List ℕ) Fault)
    → IsSelection pieces sets record_type wanted one → IsSelection pieces sets record_type wanted other → one ≡ other
