-- What an edit makes of a text are the elements of the edited text; and its outcome.
use Rattle.std.proofs.Common.{◌≡◌, ◌∙◌, ℕ, Bool, true, false, cond, ◌==◌, List, [], ◌∷◌, ◌++◌, length, map, Some, Result, Ok, Err, refl, sym, ap, ap₂, subst, arith, ℤ, position, Option}
use Rattle.std.proofs.Common.{None}
use Rattle.std.specs.List.{AllByRecursion, list_all, AllZip}
use Rattle.std.specs.Prelude.{option_to_list}
use Rattle.std.specs.declared.ops.Range.{Range}
use Rattle.std.proofs.lemmas.Bool.{and_parts, ne_eqb}
use Rattle.rec_text.specs.declared.fault.Fault.{Fault}
use Rattle.rec_text.specs.declared.fault.Fault.TheVariants.{BadName, BadValue, BadRecord, Integrity}
use Rattle.rec_text.specs.Canonical.{is_plain_name, is_foldable}
use Rattle.rec_text.specs.Elements.{Piece, AreElementsOf}
use Rattle.rec_text.specs.Records.{elements_in, AreRecords}
use Rattle.rec_text.specs.Steps.{Then}
use Rattle.rec_sex.specs.declared.lists.field_list.Item.{Item}
use Rattle.rec_sex.specs.Lists.{IsFieldList}
use Rattle.rec_check.specs.Schemas.{Described, AreSameSchemas}
use Rattle.rec_edit.specs.declared.request.Action.{Action}
use Rattle.rec_edit.specs.Task.{Task, insert, replace, delete, comment_out, set, auto_fill, Wanted, NewRecord, of_pairs, of_text}
use Rattle.rec_edit.specs.Script.{Part}
use Rattle.rec_edit.specs.Blocks.{Block, is_selected}
use Rattle.rec_edit.specs.Outcome.{put_in, IsMade, made_of, EditScript, AreChosen, AreRemovable, IsPutIn, IsEditScript, none_of, IsSoundUnlessForced, IsEditedBy, IsEditOf}
use Rattle.rec_edit.specs.Rules.{deleted, commented, replaced, edited, fields_of}
use Rattle.rec_edit.specs.Wording.{if_writable, unnumbered, names_of_action, values_of_action, AreItemsFor, pairs_of, IsRecordText, ArePairs, IsNewRecord}
use Rattle.rec_text.specs.declared.violations.Violation.{Violation}
use Rattle.rec_check.specs.declared.set.Set_.{Set_}
use Rattle.rec_check.specs.Automatic.{automatic_names, automatic_of, readings, IsNext, IsAutomatic}
use Rattle.rec_check.specs.Rules.{Rules, AreSameRules}
use Rattle.rec_check.specs.Sets.{is_of_type}
use Rattle.rec_check.specs.Violations.{AreViolationsOf, members, names_of}
use Rattle.rec_check.specs.Words.{distinct}
use Rattle.rec_edit.specs.declared.outcome.Patched.{Patched}
use Rattle.rec_edit.specs.Insertions.{insertion_for, fields_at, filled, Numbered, numbered_fields}
use Rattle.rec_edit.specs.Automatic.{lacking, AreNumbered, AreAutomatic, numbers_in, AreFilled, AreFilledSet, AreFilledSets}
use Rattle.rec_text.proofs.lemmas.reading.ReadingLemmas.{one_reading}
use Rattle.rec_journal.specs.declared.patch.Hunk.{Hunk}
use Rattle.rec_edit.proofs.lemmas.scripts.RunLemmas.{one_list_of_changes}
use Rattle.rec_edit.proofs.lemmas.layouts.NeatLemmas.{HasPlainName}
use Rattle.rec_text.proofs.lemmas.records.RecordLemmas.{OneListOfRecords-holds}
use Rattle.rec_sex.proofs.lemmas.lists.FieldListReading.{one_field_list}
use Rattle.rec_check.proofs.lemmas.laws.CheckLemmas.{one_check}
use Rattle.rec_check.proofs.lemmas.automatic.NextLemmas.{is_counter-same, one_next, automatic_of-same, one_automatic}
use Rattle.rec_select.proofs.lemmas.selection.SelectionLemmas.{one_selection}
use Rattle.rec_text.proofs.lemmas.StepLemmas.{AreOne, HasOne, HasOneBut, HasOneBut-of, HasOne-same, AreOne-Then, HasOne-Then, HasOneBut-Then, Then-ok}

-- ---- what an edit has made of its texts

names_split : (items : List Item) (more : List (List ℕ)) → list_all is_plain_name (map (λ item. item.name) items ++ more) ≡ true
    → AllByRecursion HasPlainName items × (list_all is_plain_name more ≡ true)
names_split [] more all = (tt, all)
names_split (item ∷ items) more all =
    let parts = and_parts (is_plain_name item.name) (list_all is_plain_name (map (λ i. i.name) items ++ more)) all in
    let rest = names_split items more parts.1 in
    ((parts.0, rest.0), rest.1)

-- what can be written
pub record IsWritten {X : Type 0} (names values : List (List ℕ)) (given got : X) : Type 0 where
  pub names_are : list_all is_plain_name names ≡ true
  pub values_are : list_all (is_foldable 32) values ≡ true
  pub same : got ≡ given

pub written_by : {X : Type 0} (names values : List (List ℕ)) (given got : X) (n v : Bool) → list_all is_plain_name names ≡ n → list_all (is_foldable 32) values ≡ v
    → Ok got ≡ cond n (cond v (Ok given) (Err BadValue)) (Err BadName) → IsWritten names values given got
written_by names values given got true true names_are values_are e = record { names_are = names_are; values_are = values_are; same = cc }
written_by names values given got true false names_are values_are e = absurd (cc)
written_by names values given got false v names_are values_are e = absurd (cc)

-- the items of an edit, with names and values that can be written
pub record AreWritten (action : Action) (items : List Item) : Type 0 where
  pub plain : AllByRecursion HasPlainName items
  pub names : list_all is_plain_name (names_of_action action) ≡ true
  pub values : list_all (is_foldable 32) (values_of_action action) ≡ true

pub AreItemsFor-written : (action : Action) (list : List ℕ) (items : List Item) → AreItemsFor action list (Ok items) → AreWritten action items
AreItemsFor-written action list items are =
    let listed = Then-ok (IsFieldList list)
    (λ given. Then (λ answer. answer ≡ unnumbered action list given) (λ _ answer. answer ≡ if_writable (map (λ item. item.name) given ++ names_of_action action) (values_of_action action) given))
    items are in
    let given = listed.0 in
    let numbered = Then-ok (λ answer. answer ≡ unnumbered action list given)
    (λ _ answer. answer ≡ if_writable (map (λ item. item.name) given ++ names_of_action action) (values_of_action action) given) items listed.2 in
    let is = written_by (map (λ item. item.name) given ++ names_of_action action) (values_of_action action) given items _ _ refl refl numbered.2 in
    let split = names_split given (names_of_action action) is.names_are in
    record { plain = subst (AllByRecursion HasPlainName) (sym is.same) split.0; names = split.1; values = is.values_are }

-- two lists of elements of one text are equal
pub one_list_of_elements : (text : List ℕ) (some other : List Piece) → AreElementsOf some text → AreElementsOf other text → some ≡ other
one_list_of_elements text some other are_some are_other = let same = one_reading text (Ok some) (Ok other) are_some are_other in cc

-- ---- the outcome of an edit

-- ---- violations

pub none_of-some : (found given : List Violation) (empty : Bool) → given ≡ found → empty ≡ (length found == 0) → empty ≡ false → Err (Integrity given) ≡ none_of found
none_of-some [] given empty same is some = absurd (let e : false ≡ true = sym some ∙ is in cc)
none_of-some (one ∷ more) given empty same is some = ap (λ v. Err (Integrity v)) same

pub none_of-none : (found : List Violation) (empty : Bool) → empty ≡ (length found == 0) → empty ≡ true → Ok tt ≡ none_of found
none_of-none [] empty is none = refl
none_of-none (one ∷ more) empty is none = absurd (let e : false ≡ true = sym (ne_eqb (length (one ∷ more)) 0 (λ same. omega arith)) ∙ sym is ∙ none in cc)

-- ---- one outcome

HasOne-items : (action : Action) (list : List ℕ) → HasOne (AreItemsFor action list)
HasOne-items action list =
    HasOne-Then _ _ (λ one other is is_too. one_field_list list one is other is_too) (λ items _. HasOne-Then _ _ (HasOne-same _) (λ _ _. HasOne-same _))

-- what is made of the records
HasOne-of_records : {A : Type 0} (pieces : List Piece) (made : List (Range ℕ) → A)
    → HasOne {A = A} (λ answer. (records : List (Range ℕ)) × AreRecords pieces records × (answer ≡ Ok (made records)))
HasOne-of_records pieces made one other (records, are, e) (others, are_too, k) =
    e ∙ ap (λ rs. Ok (made rs)) (OneListOfRecords-holds.records pieces records others are are_too) ∙ sym k

HasOne-chosen : (pieces : List Piece) (sets : List Set_) (wanted : Wanted) → HasOne (AreChosen pieces sets wanted)
HasOne-chosen pieces sets wanted = one_selection pieces sets wanted.record_type wanted.filter

HasOne-made : (pieces : List Piece) (made : Block → List Part) (selected : List ℕ) → HasOne (IsMade pieces made selected)
HasOne-made pieces made selected = HasOne-of_records pieces (made_of (Some (length selected)) (is_selected selected) (λ k. made) pieces)

HasOne-removable : (pieces : List Piece) (sets : List Set_) (wanted : Wanted) (force : Bool) → HasOne (AreRemovable pieces sets wanted force)
HasOne-removable pieces sets wanted force =
    HasOne-Then _ _ (HasOne-chosen pieces sets wanted) (λ chosen _. HasOne-Then _ _ (HasOne-same _) (λ _ _. HasOne-same _))

-- ---- a new record that is put in

HasOne-put : (pieces : List Piece) (sets : List Set_) (record_type : Option (List ℕ)) (fields : List Piece) → HasOne (IsPutIn pieces sets record_type fields)
HasOne-put pieces sets record_type fields = HasOne-of_records pieces (λ records. put_in (insertion_for pieces records sets record_type fields) pieces)

-- ---- the new record

HasOne-record_text : (text : List ℕ) → HasOne (IsRecordText text)
HasOne-record_text text (Ok pairs) (Ok others) (pieces, own_range, read, are, e) (more, second, read_too, are_too, k) =
    let same : pieces ≡ more = one_list_of_elements text pieces more read read_too in
    let records : own_range ∷ [] ≡ second ∷ [] =
    OneListOfRecords-holds.records more (own_range ∷ []) (second ∷ []) (subst (λ ps. AreRecords ps (own_range ∷ [])) same are) are_too in
    let one_record : own_range ≡ second = cc in
    ap Ok (e ∙ ap (λ ps. pairs_of (elements_in ps own_range)) same ∙ ap (λ r. pairs_of (elements_in more r)) one_record ∙ sym k)
HasOne-record_text text (Ok pairs) (Err BadRecord) (pieces, own_range, read, are, e) none = absurd (none pieces own_range read are)
HasOne-record_text text (Err BadRecord) (Ok pairs) none (pieces, own_range, read, are, e) = absurd (none pieces own_range read are)
HasOne-record_text text (Err BadRecord) (Err BadRecord) none none_too = refl
HasOne-record_text text (Ok pairs) (Err fault) is is_too = absurd is_too
HasOne-record_text text (Err BadRecord) (Err fault) is is_too = absurd is_too
HasOne-record_text text (Err fault) other is is_too = absurd is

HasOne-pairs : (fresh : NewRecord) → HasOne (ArePairs fresh)
HasOne-pairs (of_pairs given) = HasOne-same _
HasOne-pairs (of_text text) = HasOne-record_text text

HasOne-new : (record_type : Option (List ℕ)) (fresh : NewRecord) → HasOne (IsNewRecord record_type fresh)
HasOne-new record_type fresh = HasOne-Then _ _ (HasOne-pairs fresh) (λ pairs _. HasOne-same _)

-- ---- automatic fields, of two schemas of one text

AreOne-numbered : (next alike : List ℕ → Result ℤ Fault → Type 0) → ((name : List ℕ) → AreOne (next name) (alike name)) → (names : List (List ℕ))
    → AreOne (AreNumbered next names) (AreNumbered alike names)
AreOne-numbered next alike next_one [] = HasOne-same _
AreOne-numbered next alike next_one (name ∷ names) =
    AreOne-Then _ _ _ _ (next_one name) (λ number _. AreOne-Then _ _ _ _ (AreOne-numbered next alike next_one names) (λ given _. HasOne-same _))

-- the automatic fields of the set at a place, where there is one
abbrev numbered_at : List Piece → Described → List (List ℕ) → Option ℕ → Result (List Numbered) Fault → Type 0
numbered_at pieces schema names found answer = elim found [
  | None ↦ answer ≡ Ok []
  | Some place ↦ AreNumbered (IsAutomatic pieces schema place) (lacking (automatic_of schema place) names) answer
]

module _ (pieces : List Piece) (schema same : Described) (alike : AreSameSchemas (Ok schema) (Ok same)) where
  AreOne-numbered_at : (names : List (List ℕ)) (found : Option ℕ) → AreOne (numbered_at pieces schema names found) (numbered_at pieces same names found)
  AreOne-numbered_at names None = HasOne-same _
  AreOne-numbered_at names (Some place) =
      subst (λ automatic. AreOne (AreNumbered (IsAutomatic pieces schema place) (lacking (automatic_of schema place) names)) (AreNumbered (IsAutomatic pieces same place) (lacking automatic names)))
      (automatic_of-same schema same place alike.1)
      (AreOne-numbered (IsAutomatic pieces schema place) (IsAutomatic pieces same place) (λ name one other. one_automatic pieces schema same place name one other alike) _)

  AreOne-automatic : (record_type : Option (List ℕ)) (auto : Bool) (names : List (List ℕ))
      → AreOne (AreAutomatic pieces schema record_type auto names) (AreAutomatic pieces same record_type auto names)
  AreOne-automatic (Some record_type) true names =
      subst (λ sets. AreOne (numbered_at pieces schema names (position (is_of_type record_type) schema.sets)) (numbered_at pieces same names (position (is_of_type record_type) sets))) alike.0
      (AreOne-numbered_at names (position (is_of_type record_type) schema.sets))
  AreOne-automatic (Some record_type) false names = HasOne-same _
  AreOne-automatic None auto names = HasOne-same _

module _ (pieces : List Piece) where
  AreOne-filled : (rules other : Rules) → AreSameRules rules other → (numbers : List ℕ → List ℤ) (records : List (Range ℕ))
      → AreOne (AreFilled pieces rules numbers records) (AreFilled pieces other numbers records)
  AreOne-filled rules other alike numbers [] = HasOne-same _
  AreOne-filled rules other alike numbers (own_range ∷ records) =
      let names : List (List ℕ) = names_of (elements_in pieces own_range) in
      let next : List ℕ → Result ℤ Fault → Type 0 = λ name. IsNext rules name (numbers name) in
      let next_too : List ℕ → Result ℤ Fault → Type 0 = λ name. IsNext other name (numbers name) in
      let first : AreOne (AreNumbered next (lacking (automatic_names rules) names)) (AreNumbered next_too (lacking (automatic_names other) names)) =
      subst (λ automatic. AreOne (AreNumbered next (lacking (automatic_names rules) names)) (AreNumbered next_too (lacking (distinct automatic) names))) alike.automatic
      (AreOne-numbered next next_too (λ name one second. one_next rules other name (numbers name) one second (is_counter-same rules other name alike)) _) in
      AreOne-Then _ _ _ _ first (λ given _. AreOne-Then _ _ _ _ (AreOne-filled rules other alike (λ name. numbers_in given name ++ numbers name) records) (λ filled _. HasOne-same _))

  AreOne-filled_set : (records : List (Range ℕ)) (s : Set_) (rules other : Rules) → AreSameRules rules other → AreOne (AreFilledSet pieces records s rules) (AreFilledSet pieces records s other)
  AreOne-filled_set records s rules other alike =
      let heads : List (List Numbered) = map (λ _. []) (option_to_list s.head) in
      let headed : List (List Numbered) → Result (List (List Numbered)) Fault → Type 0 = λ filled answer. answer ≡ Ok (heads ++ filled) in
      AreOne-Then _ _ headed headed (AreOne-filled rules other alike (readings pieces (members records s)) (members records s)) (λ filled _. HasOne-same (Ok (heads ++ filled)))

  AreOne-filled_sets : (records : List (Range ℕ)) (sets : List Set_) (rules others : List Rules) → AllZip AreSameRules rules others
      → AreOne (AreFilledSets pieces records sets rules) (AreFilledSets pieces records sets others)
  AreOne-filled_sets records [] [] [] alike = HasOne-same _
  AreOne-filled_sets records (s ∷ sets) (a ∷ rules) (b ∷ others) alike =
      AreOne-Then _ _ _ _ (AreOne-filled_set records s a b alike.0) (λ own _.
      AreOne-Then _ _ _ _ (AreOne-filled_sets records sets rules others alike.1) (λ filled _. HasOne-same _))
  AreOne-filled_sets records sets [] (b ∷ others) alike = absurd alike
  AreOne-filled_sets records sets (a ∷ rules) [] alike = absurd alike
  AreOne-filled_sets records (s ∷ sets) [] [] alike = λ one other is is_too. absurd is
  AreOne-filled_sets records [] (a ∷ rules) (b ∷ others) alike = λ one other is is_too. absurd is

  -- what is made of the automatic fields
  abbrev are_filled : List Set_ → List Rules → List (Range ℕ) → Result EditScript Fault → Type 0
  are_filled sets rules records = Then (AreFilledSets pieces records sets rules) (λ given answer. answer ≡ Ok (made_of None (λ k. true) (λ k. filled (fields_at given k)) pieces records))

  AreOne-auto_fill : (sets : List Set_) (rules others : List Rules) → AllZip AreSameRules rules others
      → AreOne (λ answer. (records : List (Range ℕ)) × AreRecords pieces records × are_filled sets rules records answer)
      (λ answer. (records : List (Range ℕ)) × AreRecords pieces records × are_filled sets others records answer)
  AreOne-auto_fill sets rules others alike one other (records, are, is) (more, are_too, is_too) =
      let same : more ≡ records = OneListOfRecords-holds.records pieces more records are_too are in
      let made : List (List Numbered) → EditScript = λ given. made_of None (λ k. true) (λ k. filled (fields_at given k)) pieces records in
      let is_made : List (List Numbered) → Result EditScript Fault → Type 0 = λ given answer. answer ≡ Ok (made given) in
      AreOne-Then _ _ is_made is_made (AreOne-filled_sets records sets rules others alike) (λ given _. HasOne-same (Ok (made given))) one other is
      (subst (λ rs. are_filled sets others rs other) same is_too)

-- ---- one edit

-- of these sets, with these rules
abbrev ruled : List Set_ → List Rules → Described
ruled sets rules = record { sets = sets; rules = rules }

AreOne-edit_script : (pieces : List Piece) (sets : List Set_) (rules others : List Rules) (force : Bool) (task : Task) → AllZip AreSameRules rules others
    → AreOne (IsEditScript pieces (ruled sets rules) force task) (IsEditScript pieces (ruled sets others) force task)
AreOne-edit_script pieces sets rules others force (insert record_type fresh auto) alike =
    AreOne-Then _ _ _ _ (HasOne-new record_type fresh) (λ pairs _.
    AreOne-Then _ _ _ _ (AreOne-automatic pieces (ruled sets rules) (ruled sets others) (refl, alike) record_type auto (map (λ pair. pair.name) pairs)) (λ automatic _.
    HasOne-put pieces sets record_type (numbered_fields automatic ++ fields_of pairs)))
AreOne-edit_script pieces sets rules others force (replace wanted fresh) alike =
    HasOne-Then _ _ (HasOne-new None fresh) (λ pairs _. HasOne-Then _ _ (HasOne-chosen pieces sets wanted) (λ selected _. HasOne-made pieces (replaced (fields_of pairs)) selected))
AreOne-edit_script pieces sets rules others force (delete wanted) alike = HasOne-Then _ _ (HasOne-removable pieces sets wanted force) (λ selected _. HasOne-made pieces deleted selected)
AreOne-edit_script pieces sets rules others force (comment_out wanted) alike = HasOne-Then _ _ (HasOne-removable pieces sets wanted force) (λ selected _. HasOne-made pieces commented selected)
AreOne-edit_script pieces sets rules others force (set wanted list action) alike =
    HasOne-Then _ _ (HasOne-items action list) (λ items _. HasOne-Then _ _ (HasOne-chosen pieces sets wanted) (λ selected _. HasOne-made pieces (edited action items) selected))
AreOne-edit_script pieces sets rules others force auto_fill alike = AreOne-auto_fill pieces sets rules others alike

AreOne-step : (pieces : List Piece) (schema same : Described) (force : Bool) (task : Task) → AreSameSchemas (Ok schema) (Ok same)
    → AreOne (IsEditScript pieces schema force task) (IsEditScript pieces same force task)
AreOne-step pieces schema same force task (sets, rules) =
    subst (λ ss. AreOne (IsEditScript pieces schema force task) (IsEditScript pieces (ruled ss same.rules) force task)) sets
    (AreOne-edit_script pieces schema.sets schema.rules same.rules force task rules)

pub HasOneBut-sound : (force : Bool) (text : List ℕ) → HasOneBut (IsSoundUnlessForced force text)
HasOneBut-sound true text = HasOneBut-of _ (HasOne-same _)
HasOneBut-sound false text = HasOneBut-Then (AreViolationsOf text) _ (one_check text) (λ found _. HasOneBut-of _ (HasOne-same _))

-- ---- what an edit comes to

pub same_edited : (edit : EditScript) (one other : Patched) → IsEditedBy edit one → IsEditedBy edit other → one ≡ other
same_edited edit one other by too =
    let made : List Hunk → List ℕ → ℕ → Option ℕ → Patched = λ patch text changed chosen. record { patch = patch; text = text; changed = changed; chosen = chosen } in
    ap (λ patch. made patch one.text one.changed one.chosen) (one_list_of_changes edit.script one.patch other.patch by.patch too.patch)
    ∙ ap₂ (λ text changed. made other.patch text changed one.chosen) (by.text ∙ sym too.text) (by.changed ∙ sym too.changed)
    ∙ ap (made other.patch other.text other.changed) (by.chosen ∙ sym too.chosen)

HasOne-edited : (edit : EditScript) → HasOne (λ answer. (edited : Patched) × IsEditedBy edit edited × (answer ≡ Ok edited))
HasOne-edited edit one other (a, by, e) (b, by_too, k) = e ∙ ap Ok (same_edited edit a b by by_too) ∙ sym k

pub AreOne-edit : (pieces : List Piece) (schema same : Described) (force : Bool) (task : Task) → AreSameSchemas (Ok schema) (Ok same)
    → AreOne (IsEditOf pieces schema force task) (IsEditOf pieces same force task)
AreOne-edit pieces schema same force task alike = AreOne-Then _ _ _ _ (AreOne-step pieces schema same force task alike) (λ edit _. HasOne-edited edit)
