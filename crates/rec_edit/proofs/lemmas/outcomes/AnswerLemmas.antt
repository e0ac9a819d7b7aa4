-- What holds of each step of an edit, and the refusals that an edit has at all.
use Rattle.std.proofs.Common.{◌≡◌, inl, inr, Result, Ok, Err, sym, ap, subst, ◌≢◌, List, [], ◌==◌, ℕ, position, Option, Some, None, ◌∷◌, length, ℤ, Bool, true, false, cond, ◌++◌, map, find}
use Rattle.std.proofs.Common.{option_to_list}
use Rattle.std.specs.Option.{option_map_or}
use Rattle.std.specs.declared.ops.Range.{Range}
use Rattle.std.proofs.lemmas.Bool.{cond_both}
use Rattle.std.specs.List.{AllByRecursion, list_all}
use Rattle.rec_text.specs.declared.fault.Fault.{Fault}
use Rattle.rec_text.specs.declared.fault.Fault.TheVariants.{BadPattern, OutOfMemory, BadFieldList, BadDescriptor, Unsupported, NoSuchType, BadName, BadValue, BadRecord, AutoImpossible}
use Rattle.rec_text.specs.Faults.{IsMemoryOr, UnlessMemory}
use Rattle.rec_text.specs.Steps.{Then}
use Rattle.rec_text.specs.Elements.{Piece, AreElementsOf, text_of}
use Rattle.rec_check.specs.Schemas.{Described, IsSchema}
use Rattle.rec_edit.specs.Task.{Task, Pair, Wanted, NewRecord, of_pairs, of_text, insert, replace, delete, comment_out, set, auto_fill}
use Rattle.rec_edit.specs.Script.{Part, old_pieces, new_pieces, edited_text}
use Rattle.rec_edit.specs.Blocks.{Block, is_selected}
use Rattle.rec_edit.specs.Outcome.{put_in, IsMade, made_of, allowed, AreChosen, AreRemovable, IsPutIn, EditScript, IsEditScript, none_of, IsSoundUnlessForced, IsEditOf, IsEditRefusal}
use Rattle.rec_edit.proofs.lemmas.scripts.ChangeLemmas.{IsSome}
use Rattle.rec_edit.specs.proving.Changes.{hunks_of}
use Rattle.rec_edit.specs.Effect.{HasEffect}
use Rattle.rec_sex.specs.declared.lists.field_list.Item.{Item}
use Rattle.rec_edit.specs.declared.request.Action.TheVariants.{Add}
use Rattle.rec_edit.specs.Wording.{unnumbered, IsRecordText, if_writable, names_of_action, values_of_action, AreItemsFor, some_pairs, ArePairs, IsNewRecord}
use Rattle.rec_text.specs.Reading.{IsReading}
use Rattle.rec_text.specs.Records.{AreRecords, elements_in}
use Rattle.rec_edit.specs.proving.Causes.{cause_of}
use Rattle.rec_text.specs.declared.violations.Violation.{Violation}
use Rattle.rec_text.specs.Canonical.{is_plain_name, is_foldable}
use Rattle.rec_sex.specs.Lists.{IsFieldList}
use Rattle.rec_check.specs.declared.set.Set_.{Set_}
use Rattle.rec_check.specs.Automatic.{automatic_names, automatic_of, readings, IsNext, IsAutomatic}
use Rattle.rec_check.specs.Rules.{Rules}
use Rattle.rec_check.specs.Sets.{is_of_type}
use Rattle.rec_check.specs.Violations.{AreViolationsOf, members, names_of}
use Rattle.rec_select.specs.Selection.{Filter, all, by_expression, at_places, with_text, with_value, has_members, only_set, set_for, IsSelection}
use Rattle.rec_edit.specs.declared.request.Action.{Action}
use Rattle.rec_edit.specs.Insertions.{insertion_for, Numbered, numbered_fields}
use Rattle.rec_edit.specs.Rules.{fields_of, deleted, commented, replaced, edited}
use Rattle.rec_edit.specs.Automatic.{lacking, AreNumbered, AreAutomatic, numbers_in, AreFilled, AreFilledSet, AreFilledSets}
use Rattle.rec_text.proofs.lemmas.records.RecordLemmas.{OneListOfRecords-holds}
use Rattle.rec_text.proofs.lemmas.reading.ReadingLemmas.{one_reading}
use Rattle.rec_check.proofs.lemmas.laws.SameLemmas.{one_schema}
use Rattle.rec_text.proofs.lemmas.FaultLemmas.{memory_or_weaker, no_both, same_value}

-- ---- answers aside from memory

pub unless_memory-weaker : {X : Type 0} (result : Result X Fault) (P Q : Result X Fault → Type 0) → ((answer : Result X Fault) → P answer → Q answer)
    → UnlessMemory result P → UnlessMemory result Q
unless_memory-weaker (Ok x) P Q weaker holds = weaker (Ok x) holds
unless_memory-weaker (Err fault) P Q weaker holds = memory_or_weaker fault (P (Err fault)) (Q (Err fault)) (weaker (Err fault)) holds

-- ---- what holds of each step of an edit

-- The old elements of its script are those of the text, and no part is empty; the new ones are those of the edited text,
-- whose descriptors are sound; where that text is the old one there is no hunk; and it has its effect on the records.
pub record IsFaithful (pieces : List Piece) (schema : Described) (task : Task) (edit : EditScript) : Type 0 where
  pub old : old_pieces edit.script ≡ pieces
  pub some : AllByRecursion IsSome edit.script
  pub read : AreElementsOf (new_pieces edit.script) (edited_text edit.script)
  pub unchanged : edited_text edit.script ≡ text_of pieces → hunks_of edit.script ≡ []
  pub sound : (same : Described) × IsSchema (new_pieces edit.script) (Ok same)
  pub effect : HasEffect pieces schema task (edited_text edit.script)

-- ---- the place of the first subscript in a list

-- the items of a list, or the place of its first subscript
abbrev fault_or : List Item → Option ℕ → Result (List Item) Fault
fault_or items place = option_map_or (λ at. Err (BadFieldList at)) place (Ok items)

pub unnumbered-some : (value list : List ℕ) (items : List Item) (at : ℕ) → position (λ b. b == 91) list ≡ Some at → unnumbered (Add value) list items ≡ Err (BadFieldList at)
unnumbered-some value list items at found = ap (fault_or items) found

pub unnumbered-none : (value list : List ℕ) (items : List Item) → position (λ b. b == 91) list ≡ None → unnumbered (Add value) list items ≡ Ok items
unnumbered-none value list items none = ap (fault_or items) none

-- ---- the text of a new record has one reading, and one list of records

-- a text that isn't read holds no record
pub unread_is_refused : (text : List ℕ) (fault : Fault) → ((other : Result (List Piece) Fault) → IsReading text other → IsMemoryOr fault (Err fault ≡ other))
    → IsMemoryOr (cause_of fault) (IsRecordText text (Err (cause_of fault)))
unread_is_refused text OutOfMemory only = tt
unread_is_refused text fault only = λ pieces own_range are records. no_both pieces fault (sym (only (Ok pieces) are))

-- a text whose records aren't one record
pub other_records_are_refused : (text : List ℕ) (pieces : List Piece) (records : List (Range ℕ)) → AreElementsOf pieces text → AreRecords pieces records → length records ≢ 1
    → (others : List Piece) (own_range : Range ℕ) → AreElementsOf others text → AreRecords others (own_range ∷ []) → ⊥
other_records_are_refused text pieces records are are_records other others own_range are_too one =
    let same : others ≡ pieces = same_value others pieces (one_reading text (Ok others) (Ok pieces) are_too are) in
    let P : List Piece → Type 0 = λ ps. AreRecords ps (own_range ∷ []) in
    other (ap length (OneListOfRecords-holds.records pieces records (own_range ∷ []) are_records (subst P same one)))

-- ---- the refusals that an edit has at all

-- an answer, or one of these refusals
abbrev pub MayBe : {A : Type 0} → Result A Fault → Type 0
MayBe (Ok a) = Unit {0}
MayBe (Err fault) = IsEditRefusal fault

-- a step has these refusals alone
abbrev pub RefusesSo : {A : Type 0} → (Result A Fault → Type 0) → Type 0
RefusesSo {A} edit = (answer : Result A Fault) → edit answer → MayBe answer

pub RefusesSo-same : {A : Type 0} (outcome : Result A Fault) → MayBe outcome → RefusesSo (λ answer. answer ≡ outcome)
RefusesSo-same outcome may answer is = subst MayBe (sym is) may

pub RefusesSo-Then : {A B : Type 0} (first : Result A Fault → Type 0) (next : A → Result B Fault → Type 0) → RefusesSo first → ((a : A) → RefusesSo (next a)) → RefusesSo (Then first next)
RefusesSo-Then {B = B} first next first_so next_so answer (inl (fault, is, e)) = subst (λ r. MayBe {A = B} r) (sym e) (first_so (Err fault) is)
RefusesSo-Then first next first_so next_so answer (inr (a, is, h)) = next_so a answer h

-- ---- the items

place_or_items : (place : Option ℕ) (items : List Item) → MayBe (option_map_or (λ at. Err (BadFieldList at)) place (Ok items))
place_or_items None items = tt
place_or_items (Some at) items = tt

MayBe-unnumbered : (action : Action) (list : List ℕ) (items : List Item) → MayBe (unnumbered action list items)
MayBe-unnumbered (Add value) list items = place_or_items (position (λ b. b == 91) list) items
MayBe-unnumbered _ list items = tt

MayBe-if_writable : {X : Type 0} (names values : List (List ℕ)) (x : X) → MayBe (if_writable names values x)
MayBe-if_writable names values x =
    cond_both (list_all is_plain_name names) (cond (list_all (is_foldable 32) values) (Ok x) (Err BadValue)) (Err BadName) MayBe
    (λ _. cond_both (list_all (is_foldable 32) values) (Ok x) (Err BadValue) MayBe (λ _. tt) (λ _. tt)) (λ _. tt)

RefusesSo-list : (text : List ℕ) → RefusesSo (IsFieldList text)
RefusesSo-list text (Ok items) is = tt
RefusesSo-list text (Err (BadFieldList place)) is = tt
RefusesSo-list text (Err _) is = absurd is

RefusesSo-items : (action : Action) (list : List ℕ) → RefusesSo (AreItemsFor action list)
RefusesSo-items action list =
    RefusesSo-Then (IsFieldList list) _ (RefusesSo-list list) (λ items.
    RefusesSo-Then (λ answer. answer ≡ unnumbered action list items) _ (RefusesSo-same _ (MayBe-unnumbered action list items)) (λ _.
    RefusesSo-same _ (MayBe-if_writable (map (λ item. item.name) items ++ names_of_action action) (values_of_action action) items)))

-- ---- the records

MayBe-only_set : (untyped : Set_) (sets : List Set_) → MayBe (only_set untyped sets)
MayBe-only_set untyped [] = tt
MayBe-only_set untyped (s ∷ []) = tt
MayBe-only_set untyped (s ∷ t ∷ sets) = tt

-- the set that is found
abbrev found_set : Option Set_ → Result Set_ Fault
found_set found = elim found [ None ↦ Err NoSuchType | Some s ↦ Ok s ]

MayBe-found_set : (found : Option Set_) → MayBe (found_set found)
MayBe-found_set None = tt
MayBe-found_set (Some s) = tt

MayBe-set_for : (record_type : Option (List ℕ)) (sets : List Set_) → MayBe (set_for record_type sets)
MayBe-set_for None [] = tt
MayBe-set_for None (untyped ∷ typed) = cond_both (has_members untyped) (Ok untyped) (only_set untyped typed) MayBe (λ _. tt) (λ _. MayBe-only_set untyped typed)
MayBe-set_for (Some record_type) sets = MayBe-found_set (find (is_of_type record_type) sets)

RefusesSo-selection : (pieces : List Piece) (sets : List Set_) (wanted : Wanted) → RefusesSo (IsSelection pieces sets wanted.record_type wanted.filter)
RefusesSo-selection pieces sets wanted (Ok selected) is = tt
RefusesSo-selection pieces sets wanted (Err fault) is = subst MayBe is (MayBe-set_for wanted.record_type sets)

RefusesSo-of_records : {A : Type 0} (pieces : List Piece) (made : List (Range ℕ) → A)
    → RefusesSo {A = A} (λ answer. (records : List (Range ℕ)) × AreRecords pieces records × (answer ≡ Ok (made records)))
RefusesSo-of_records pieces made answer (records, are, e) = subst MayBe (sym e) tt

RefusesSo-chosen : (pieces : List Piece) (sets : List Set_) (wanted : Wanted) → RefusesSo (AreChosen pieces sets wanted)
RefusesSo-chosen pieces sets wanted = RefusesSo-selection pieces sets wanted

MayBe-allowed : (wanted : Filter) (force : Bool) → MayBe (allowed wanted force)
MayBe-allowed all true = tt
MayBe-allowed all false = tt
MayBe-allowed (by_expression term) force = tt
MayBe-allowed (at_places spans) force = tt
MayBe-allowed (with_text text) force = tt
MayBe-allowed (with_value wanted) force = tt

RefusesSo-removable : (pieces : List Piece) (sets : List Set_) (wanted : Wanted) (force : Bool) → RefusesSo (AreRemovable pieces sets wanted force)
RefusesSo-removable pieces sets wanted force =
    RefusesSo-Then (AreChosen pieces sets wanted) _ (RefusesSo-chosen pieces sets wanted) (λ chosen.
    RefusesSo-Then (λ answer. answer ≡ allowed wanted.filter force) _ (RefusesSo-same _ (MayBe-allowed wanted.filter force)) (λ _. RefusesSo-same _ tt))

-- ---- the new record

MayBe-some_pairs : (pairs : List Pair) → MayBe (some_pairs pairs)
MayBe-some_pairs [] = tt
MayBe-some_pairs (pair ∷ pairs) = tt

RefusesSo-record_text : (text : List ℕ) → RefusesSo (IsRecordText text)
RefusesSo-record_text text (Ok pairs) is = tt
RefusesSo-record_text text (Err BadRecord) is = tt
RefusesSo-record_text text (Err _) is = absurd is

RefusesSo-pairs : (fresh : NewRecord) → RefusesSo (ArePairs fresh)
RefusesSo-pairs (of_pairs given) = RefusesSo-same _ (MayBe-some_pairs given)
RefusesSo-pairs (of_text text) = RefusesSo-record_text text

RefusesSo-new : (record_type : Option (List ℕ)) (fresh : NewRecord) → RefusesSo (IsNewRecord record_type fresh)
RefusesSo-new record_type fresh =
    RefusesSo-Then (ArePairs fresh) _ (RefusesSo-pairs fresh) (λ pairs.
    RefusesSo-same _ (MayBe-if_writable (option_to_list record_type ++ map (λ pair. pair.name) pairs) (map (λ pair. pair.value) pairs) pairs))

-- ---- automatic fields

RefusesSo-next : (rules : Rules) (name : List ℕ) (numbers : List ℤ) → RefusesSo (IsNext rules name numbers)
RefusesSo-next rules name numbers (Ok z) is = tt
RefusesSo-next rules name numbers (Err AutoImpossible) is = tt
RefusesSo-next rules name numbers (Err _) is = absurd is

RefusesSo-numbered : (next : List ℕ → Result ℤ Fault → Type 0) → ((name : List ℕ) → RefusesSo (next name)) → (names : List (List ℕ)) → RefusesSo (AreNumbered next names)
RefusesSo-numbered next next_so [] = RefusesSo-same _ tt
RefusesSo-numbered next next_so (name ∷ names) =
    RefusesSo-Then (next name) _ (next_so name) (λ number. RefusesSo-Then (AreNumbered next names) _ (RefusesSo-numbered next next_so names) (λ given. RefusesSo-same _ tt))

module _ (pieces : List Piece) where
  -- the automatic fields of the set at a place, where there is one
  RefusesSo-numbered_at : (schema : Described) (names : List (List ℕ)) (found : Option ℕ)
      → RefusesSo {A = List Numbered} (λ answer. elim found [ None ↦ answer ≡ Ok [] | Some place ↦ AreNumbered (IsAutomatic pieces schema place) (lacking (automatic_of schema place) names) answer ])
  RefusesSo-numbered_at schema names None = RefusesSo-same _ tt
  RefusesSo-numbered_at schema names (Some place) =
      RefusesSo-numbered (IsAutomatic pieces schema place) (λ name answer is. RefusesSo-next is.rules name (readings pieces (members is.records is.s) name) answer is.next) _

  RefusesSo-automatic : (schema : Described) (record_type : Option (List ℕ)) (auto : Bool) (names : List (List ℕ)) → RefusesSo (AreAutomatic pieces schema record_type auto names)
  RefusesSo-automatic schema (Some record_type) true names = RefusesSo-numbered_at schema names (position (is_of_type record_type) schema.sets)
  RefusesSo-automatic schema (Some record_type) false names = RefusesSo-same _ tt
  RefusesSo-automatic schema None auto names = RefusesSo-same _ tt

  RefusesSo-filled : (rules : Rules) (numbers : List ℕ → List ℤ) (records : List (Range ℕ)) → RefusesSo (AreFilled pieces rules numbers records)
  RefusesSo-filled rules numbers [] = RefusesSo-same _ tt
  RefusesSo-filled rules numbers (own_range ∷ records) =
      RefusesSo-Then (AreNumbered (λ name. IsNext rules name (numbers name)) (lacking (automatic_names rules) (names_of (elements_in pieces own_range)))) _
      (RefusesSo-numbered (λ name. IsNext rules name (numbers name)) (λ name. RefusesSo-next rules name (numbers name)) _) (λ given.
      RefusesSo-Then (AreFilled pieces rules (λ name. numbers_in given name ++ numbers name) records) _ (RefusesSo-filled rules (λ name. numbers_in given name ++ numbers name) records)
      (λ filled. RefusesSo-same _ tt))

  RefusesSo-filled_sets : (records : List (Range ℕ)) (sets : List Set_) (rules : List Rules) → RefusesSo (AreFilledSets pieces records sets rules)
  RefusesSo-filled_sets records [] [] = RefusesSo-same _ tt
  RefusesSo-filled_sets records (s ∷ sets) (own ∷ rules) =
      RefusesSo-Then (AreFilledSet pieces records s own) _
      (RefusesSo-Then (AreFilled pieces own (readings pieces (members records s)) (members records s)) _
      (RefusesSo-filled own (readings pieces (members records s)) (members records s)) (λ given. RefusesSo-same _ tt)) (λ filled.
      RefusesSo-Then (AreFilledSets pieces records sets rules) _ (RefusesSo-filled_sets records sets rules) (λ more. RefusesSo-same _ tt))
  RefusesSo-filled_sets records [] (own ∷ rules) = λ answer is. absurd is
  RefusesSo-filled_sets records (s ∷ sets) [] = λ answer is. absurd is

-- ---- one edit

RefusesSo-made : (pieces : List Piece) (made : Block → List Part) (selected : List ℕ) → RefusesSo (IsMade pieces made selected)
RefusesSo-made pieces made selected = RefusesSo-of_records pieces (made_of (Some (length selected)) (is_selected selected) (λ k. made) pieces)

RefusesSo-put : (pieces : List Piece) (sets : List Set_) (record_type : Option (List ℕ)) (fields : List Piece) → RefusesSo (IsPutIn pieces sets record_type fields)
RefusesSo-put pieces sets record_type fields = RefusesSo-of_records pieces (λ records. put_in (insertion_for pieces records sets record_type fields) pieces)

RefusesSo-step : (pieces : List Piece) (schema : Described) (force : Bool) (task : Task) → RefusesSo (IsEditScript pieces schema force task)
RefusesSo-step pieces schema force (insert record_type fresh auto) =
    RefusesSo-Then (IsNewRecord record_type fresh) _ (RefusesSo-new record_type fresh) (λ pairs.
    RefusesSo-Then (AreAutomatic pieces schema record_type auto (map (λ pair. pair.name) pairs)) _ (RefusesSo-automatic pieces schema record_type auto (map (λ pair. pair.name) pairs)) (λ automatic.
    RefusesSo-put pieces schema.sets record_type (numbered_fields automatic ++ fields_of pairs)))
RefusesSo-step pieces schema force (replace wanted fresh) =
    RefusesSo-Then (IsNewRecord None fresh) _ (RefusesSo-new None fresh) (λ pairs.
    RefusesSo-Then (AreChosen pieces schema.sets wanted) _ (RefusesSo-chosen pieces schema.sets wanted) (λ selected. RefusesSo-made pieces (replaced (fields_of pairs)) selected))
RefusesSo-step pieces schema force (delete wanted) =
    RefusesSo-Then (AreRemovable pieces schema.sets wanted force) _ (RefusesSo-removable pieces schema.sets wanted force) (RefusesSo-made pieces deleted)
RefusesSo-step pieces schema force (comment_out wanted) =
    RefusesSo-Then (AreRemovable pieces schema.sets wanted force) _ (RefusesSo-removable pieces schema.sets wanted force) (RefusesSo-made pieces commented)
RefusesSo-step pieces schema force (set wanted list action) =
    RefusesSo-Then (AreItemsFor action list) _ (RefusesSo-items action list) (λ items.
    RefusesSo-Then (AreChosen pieces schema.sets wanted) _ (RefusesSo-chosen pieces schema.sets wanted) (RefusesSo-made pieces (edited action items)))
RefusesSo-step pieces schema force auto_fill = λ answer (records, are, is).
    RefusesSo-Then (AreFilledSets pieces records schema.sets schema.rules) _ (RefusesSo-filled_sets pieces records schema.sets schema.rules)
    (λ given. RefusesSo-same _ tt) answer is

-- ---- the edited text

MayBe-none_of : (found : List Violation) → MayBe (none_of found)
MayBe-none_of [] = tt
MayBe-none_of (violation ∷ violations) = tt

-- where the descriptors are sound, only a pattern is refused
pub schema_refusal : (pieces : List Piece) (same : Described) → IsSchema pieces (Ok same) → (fault : Fault) → IsSchema pieces (Err fault) → IsEditRefusal fault
schema_refusal pieces same is BadPattern is_too = tt
schema_refusal pieces same is (BadDescriptor line) is_too = absurd (one_schema pieces (Ok same) (Err (BadDescriptor line)) is is_too (λ e. cc) (λ e. cc))
schema_refusal pieces same is (Unsupported line) is_too = absurd (one_schema pieces (Ok same) (Err (Unsupported line)) is is_too (λ e. cc) (λ e. cc))
schema_refusal pieces same is _ is_too = absurd is_too

module _ (text : List ℕ) (new : List Piece) (same : Described) (read : AreElementsOf new text) (is : IsSchema new (Ok same)) where
  RefusesSo-violations : RefusesSo (AreViolationsOf text)
  RefusesSo-violations (Ok found) there = tt
  RefusesSo-violations (Err fault) (inl faulty) = absurd (no_both new fault (one_reading text (Ok new) (Err fault) read faulty))
  RefusesSo-violations (Err fault) (inr (pieces, read_too, refused)) =
      schema_refusal new same is fault (subst (λ ps. IsSchema ps (Err fault)) (same_value pieces new (one_reading text (Ok pieces) (Ok new) read_too read)) refused)

  pub RefusesSo-sound : (force : Bool) → RefusesSo (IsSoundUnlessForced force text)
  RefusesSo-sound true = RefusesSo-same (Ok tt) tt
  RefusesSo-sound false = RefusesSo-Then (AreViolationsOf text) _ RefusesSo-violations (λ found. RefusesSo-same _ (MayBe-none_of found))

-- ---- the outcome

pub RefusesSo-edit : (pieces : List Piece) (schema : Described) (force : Bool) (task : Task) → RefusesSo (IsEditOf pieces schema force task)
RefusesSo-edit pieces schema force task =
    RefusesSo-Then (IsEditScript pieces schema force task) _ (RefusesSo-step pieces schema force task) (λ edit answer (edited, by, e). subst MayBe (sym e) tt)
