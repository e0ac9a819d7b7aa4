-- A text without a descriptor breaks no rule, and an edit that puts none in leaves it so.
use Rattle.std.proofs.Common.{Bool, List, Ok, ◌≡◌, ◌∙◌, ℕ, zero, suc, ◌+◌, ◌-◌, true, false, ◌==◌, [], ◌∷◌, ◌++◌, Option, Some, None, length, map, take, drop, refl, ap, sym, subst, arith}
use Rattle.std.proofs.Common.{◌&&◌, not, inr}
use Rattle.std.specs.Prelude.{filter_map, flat_map, replicate, is_some, slice_get, if◌then◌else◌, filter}
use Rattle.std.specs.List.{AllByRecursion, AllZip, list_any, enumerate_from, cons_option}
use Rattle.std.specs.Option.{option_map_or}
use Rattle.std.specs.declared.ops.Range.{Range}
use Rattle.std.proofs.lemmas.List.{take-append-drop}
use Rattle.rec_text.specs.Elements.{Piece, AreElementsOf, text_of, IsElement, name_of}
use Rattle.rec_check.specs.Schemas.{Described, IsSchema, IsDescribed, IsRuled}
use Rattle.rec_edit.specs.Task.{Task, insert, replace, delete, comment_out, set, auto_fill}
use Rattle.rec_edit.specs.Outcome.{EditScript, IsEditScript, PutsNoDescriptorIn, IsSound}
use Rattle.rec_text.specs.Records.{elements_in, is_field_piece, record_at}
use Rattle.rec_check.specs.declared.set.Set_.{Set_}
use Rattle.rec_check.specs.Descriptors.{type_of, types_of}
use Rattle.rec_check.specs.Sets.{AreSets, IsUntypedFirst, named_in, AreFrom}
use Rattle.rec_edit.specs.Script.{closed, new_pieces, edited_text}
use Rattle.rec_edit.specs.Effect.{AreTypedRecords, TypedRecord, IsFilledUp, AreRecordsAfter, automatic_at, between_fields, typed_records, typed_record, type_after, put_at, remade}
use Rattle.rec_edit.specs.Effect.{with_fields}
use Rattle.rec_edit.specs.Insertions.{numbered_fields}
use Rattle.rec_edit.specs.Rules.{fields_of}
use Rattle.rec_text.specs.declared.violations.Rule.TheVariants.{Allowed, Fit}
use Rattle.rec_text.specs.declared.violations.Violation.{Violation}
use Rattle.rec_check.specs.Rules.{Rules, no_rules, AreRules, field_type}
use Rattle.rec_check.specs.Violations.{violation, names_of, is_allowed, allowed_violations, misfits, type_violations, line_at, members, AreOfRecord, AreOfRecords, AreOfSet, AreOfSets}
use Rattle.rec_check.specs.Violations.{AreViolations}
use Rattle.rec_check.specs.Words.{distinct}
use Rattle.rec_edit.proofs.lemmas.automatic.AutoFillLemmas.{faithful_auto_fill}
use Rattle.rec_edit.proofs.lemmas.outcomes.EffectLemmas.{elements_part, type_of-closed}
use Rattle.rec_edit.proofs.lemmas.outcomes.AnswerLemmas.{IsFaithful}
use Rattle.rec_edit.proofs.lemmas.insertions.InsertLemmas.{faithful_insert}
use Rattle.rec_edit.proofs.lemmas.outcomes.OutcomeLemmas.{one_list_of_elements}
use Rattle.rec_edit.proofs.lemmas.blocks.FaithfulLemmas.{faithful_delete, faithful_comment_out, faithful_replace, faithful_set}
use Rattle.rec_text.proofs.lemmas.ListLemmas.{AllByRecursion-prefix, AllByRecursion-following, AllByRecursion-append}
use Rattle.rec_text.proofs.lemmas.records.RecordLemmas.{OneListOfRecords-holds}
use Rattle.rec_edit.proofs.lemmas.records.TypedRecordLemmas.{type_after-none}
use Rattle.rec_check.proofs.lemmas.checks.UnresolvedLemmas.{head_violations-none}

-- ---- each step of an edit is faithful, whatever its kind

pub faithful : (pieces : List Piece) (schema : Described) (force : Bool) (task : Task) → AreElementsOf pieces (text_of pieces) → IsSchema pieces (Ok schema)
    → (edit : EditScript) → IsEditScript pieces schema force task (Ok edit) → IsFaithful pieces schema task edit
faithful pieces schema force (insert record_type fresh auto) elements is_schema edit is = faithful_insert pieces schema force record_type fresh auto edit elements is_schema is
faithful pieces schema force (replace wanted fresh) elements is_schema edit is = faithful_replace pieces schema elements is_schema force wanted fresh edit is
faithful pieces schema force (delete wanted) elements is_schema edit is = faithful_delete pieces schema elements is_schema force wanted edit is
faithful pieces schema force (comment_out wanted) elements is_schema edit is = faithful_comment_out pieces schema elements is_schema force wanted edit is
faithful pieces schema force (set wanted list action) elements is_schema edit is = faithful_set pieces schema elements is_schema force wanted list action edit is
faithful pieces schema force auto_fill elements is_schema edit is = faithful_auto_fill pieces schema force edit elements is_schema is

-- ---- records of no type: they are all of those of a text with one set, and an edit that puts no descriptor in leaves none else

-- a type, where one is named
abbrev Named : Type 0
Named = Option (List ℕ)

-- ---- the types that a text names, and its sets

-- none of these is a type
abbrev pub AreNone : List Named → Type 0
AreNone types = AllByRecursion (λ named. named ≡ None) types

members_name_none : (n : ℕ) → AreNone (replicate n None)
members_name_none zero = tt
members_name_none (suc n) = (refl, members_name_none n)

untyped_names_none : (record_type : Named) (n : ℕ) → record_type ≡ None → AreNone ((elim record_type as (λ k. List Named) [ None ↦ [] | Some named ↦ Some named ∷ [] ]) ++ replicate n None)
untyped_names_none None n none = members_name_none n
untyped_names_none (Some named) n none = absurd (cc)

-- one set has no descriptor
pub one_set_names_none : (types : List Named) (sets : List Set_) → AreSets types sets → length sets ≡ 1 → AreNone types
one_set_names_none types [] are one = absurd are.untyped_first
one_set_names_none types (s ∷ t ∷ sets) are one = let no : ⊥ = omega (arith, one) in absurd no
one_set_names_none types (s ∷ []) are one =
    subst AreNone are.joined
    (AllByRecursion-append (λ named. named ≡ None) (named_in s) [] (untyped_names_none s.kind (s.members.end - s.members.start) are.untyped_first.0) tt)

typed_names_some : (record_type : Named) (n : ℕ) (more : List Named) → is_some record_type ≡ true
    → AreNone (((elim record_type as (λ k. List Named) [ None ↦ [] | Some named ↦ Some named ∷ [] ]) ++ replicate n None) ++ more) → ⊥
typed_names_some None n more typed none = cc
typed_names_some (Some named) n more typed none = let first : ◌≡◌ {A = Named} (Some named) None = none.0 in cc

-- where no type is named there is one set
none_named_in_one : (types : List Named) (sets : List Set_) → IsUntypedFirst sets → flat_map named_in sets ≡ types → AreNone types → length sets ≡ 1
none_named_in_one types [] untyped joined none = absurd untyped
none_named_in_one types (s ∷ []) untyped joined none = refl
none_named_in_one types (s ∷ t ∷ sets) untyped joined none =
    absurd (typed_names_some t.kind (t.members.end - t.members.start) (flat_map named_in sets) untyped.1.0
    (AllByRecursion-following (λ named. named ≡ None) (named_in s) (flat_map named_in (t ∷ sets)) (subst AreNone (sym joined) none)))

pub none_named_is_one_set : (types : List Named) (sets : List Set_) → AreSets types sets → AreNone types → length sets ≡ 1
none_named_is_one_set types sets are none = none_named_in_one types sets are.untyped_first are.joined none

-- ---- the typed records of a text

-- none of these stands in the set of a type
abbrev pub AreUntyped : List TypedRecord → Type 0
AreUntyped all_typed = AllByRecursion (λ typed. typed.record_type ≡ None) all_typed

module _ (pieces : List Piece) (all : AllByRecursion IsElement pieces) where
  own_type : (r : Range ℕ) → type_of (map closed (elements_in pieces r)) ≡ type_of (elements_in pieces r)
  own_type r = type_of-closed (elements_in pieces r) (elements_part pieces r all)

  untyped_from : (record_type : Named) (records : List (Range ℕ)) → record_type ≡ None → AreNone (types_of pieces records)
      → AreUntyped (typed_records record_type (map (λ r. map closed (elements_in pieces r)) records))
  untyped_from record_type [] is none = tt
  untyped_from record_type (r ∷ records) is none =
      let next : type_after record_type (map closed (elements_in pieces r)) ≡ None = type_after-none record_type (map closed (elements_in pieces r)) (own_type r ∙ none.0) ∙ is in
      (next, untyped_from (type_after record_type (map closed (elements_in pieces r))) records next none.1)

  after_none : (record_type own : Named) → elim own as (λ x. Named) [ None ↦ record_type | Some named ↦ Some named ] ≡ None → own ≡ None
  after_none record_type None none = refl
  after_none record_type (Some named) none = none

  named_from : (record_type : Named) (records : List (Range ℕ)) → AreUntyped (typed_records record_type (map (λ r. map closed (elements_in pieces r)) records)) → AreNone (types_of pieces records)
  named_from record_type [] untyped = tt
  named_from record_type (r ∷ records) untyped = (
    sym (own_type r) ∙ after_none record_type (type_of (map closed (elements_in pieces r))) untyped.0,
    named_from (type_after record_type (map closed (elements_in pieces r))) records untyped.1,
  )

  -- a text with one set
  pub one_set_is_untyped : (schema : Described) (all_typed : List TypedRecord) → IsDescribed pieces schema → AreTypedRecords pieces all_typed → length schema.sets ≡ 1 → AreUntyped all_typed
  one_set_is_untyped schema all_typed is (records, are, same) one =
      let none : AreNone (types_of pieces is.records) = one_set_names_none (types_of pieces is.records) schema.sets is.sets one in
      let there : is.records ≡ records = OneListOfRecords-holds.records pieces is.records records is.are are in
      subst AreUntyped (sym same) (untyped_from None records refl (subst (λ rs. AreNone (types_of pieces rs)) there none))

  pub untyped_is_one_set : (schema : Described) (all_typed : List TypedRecord) → IsDescribed pieces schema → AreTypedRecords pieces all_typed → AreUntyped all_typed → length schema.sets ≡ 1
  untyped_is_one_set schema all_typed is (records, are, same) untyped =
      let there : records ≡ is.records = OneListOfRecords-holds.records pieces records is.records are is.are in
      none_named_is_one_set (types_of pieces is.records) schema.sets is.sets
      (subst (λ rs. AreNone (types_of pieces rs)) there (named_from None records (subst AreUntyped same untyped)))

-- ---- what an edit makes of them

-- what is left of a record stands where it stood
typed_record-untyped : (record_type : Named) (own : List Piece) (all_typed : List TypedRecord) → record_type ≡ None → AreUntyped all_typed
    → AreUntyped (cons_option (elim own as (λ x. Option TypedRecord) [ [] ↦ None | piece ∷ pieces ↦ Some (record { record_type = record_type; own = piece ∷ pieces }) ]) all_typed)
typed_record-untyped record_type [] all_typed none untyped = untyped
typed_record-untyped record_type (piece ∷ pieces) all_typed none untyped = (none, untyped)

given_untyped : (taken : Bool) (made : List Piece) (typed : TypedRecord) (all_typed : List TypedRecord) → typed.record_type ≡ None → AreUntyped all_typed
    → AreUntyped (cons_option (if taken then typed_record typed.record_type made else Some typed) all_typed)
given_untyped true made typed all_typed none untyped = typed_record-untyped typed.record_type (between_fields made) all_typed none untyped
given_untyped false made typed all_typed none untyped = (none, untyped)

remade_from : (selected : List ℕ) (made : List Piece → List Piece) (i : ℕ) (all_typed : List TypedRecord) → AreUntyped all_typed
    → AreUntyped (filter_map (λ (i, typed). if list_any (λ k. k == i) selected then typed_record typed.record_type (made typed.own) else Some typed) (enumerate_from i all_typed))
remade_from selected made i [] untyped = tt
remade_from selected made i (typed ∷ all_typed) untyped =
    given_untyped (list_any (λ k. k == i) selected) (made typed.own) typed _ untyped.0 (remade_from selected made (i + 1) all_typed untyped.1)

remade_untyped : (selected : List ℕ) (made : List Piece → List Piece) (before after : List TypedRecord) → after ≡ remade selected made before → AreUntyped before → AreUntyped after
remade_untyped selected made before after same untyped = subst AreUntyped (sym same) (remade_from selected made 0 before untyped)

put_at_untyped : (place : ℕ) (own : List Piece) (all_typed : List TypedRecord) → AreUntyped all_typed → AreUntyped (put_at place (record { record_type = None; own = own } ∷ []) all_typed)
put_at_untyped place own all_typed untyped =
    let parts : AreUntyped (take place all_typed ++ drop place all_typed) = subst AreUntyped (sym (take-append-drop place all_typed)) untyped in
    AllByRecursion-append (λ typed. typed.record_type ≡ None) (take place all_typed) (record { record_type = None; own = own } ∷ drop place all_typed)
    (AllByRecursion-prefix (λ typed. typed.record_type ≡ None) (take place all_typed) (drop place all_typed) parts)
    (refl, AllByRecursion-following (λ typed. typed.record_type ≡ None) (take place all_typed) (drop place all_typed) parts)

put_in_set_untyped : (found : Option Set_) (own : List Piece) (all_typed : List TypedRecord) → AreUntyped all_typed
    → AreUntyped (option_map_or (λ s. put_at s.members.end (record { record_type = None; own = own } ∷ []) all_typed) found all_typed)
put_in_set_untyped None own all_typed untyped = untyped
put_in_set_untyped (Some s) own all_typed untyped = put_at_untyped s.members.end own all_typed untyped

filled_untyped : (automatic : ℕ → List (List ℕ)) (i : ℕ) (before after : List TypedRecord)
    → AllZip (λ (i, typed) filled. IsFilledUp (automatic i) typed filled) (enumerate_from i before) after → AreUntyped before → AreUntyped after
filled_untyped automatic i [] [] filled untyped = tt
filled_untyped automatic i [] (after ∷ afters) filled untyped = absurd filled
filled_untyped automatic i (before ∷ befores) [] filled untyped = absurd filled
filled_untyped automatic i (before ∷ befores) (after ∷ afters) filled untyped =
    (ap (λ (typed : TypedRecord). typed.record_type) filled.0.is ∙ untyped.0, filled_untyped automatic (i + 1) befores afters filled.1 untyped.1)

-- records of no type stay such, and a new one is one of them
pub leads_untyped : (pieces : List Piece) (schema : Described) (task : Task) (before after : List TypedRecord) → PutsNoDescriptorIn task → AreRecordsAfter pieces schema task before after
    → AreUntyped before → AreUntyped after
leads_untyped pieces schema (insert None fresh auto) before after puts (pairs, automatic, is_new, are_automatic, same) untyped =
    subst AreUntyped (sym same) (put_in_set_untyped (slice_get schema.sets 0) (numbered_fields automatic ++ fields_of pairs) before untyped)
leads_untyped pieces schema (insert (Some record_type) fresh auto) before after puts leads untyped = absurd (cc)
leads_untyped pieces schema (replace wanted fresh) before after puts (selected, pairs, are, is_new, same) untyped = remade_untyped selected (λ own. fields_of pairs) before after same untyped
leads_untyped pieces schema (delete wanted) before after puts (selected, are, same) untyped = remade_untyped selected (λ own. []) before after same untyped
leads_untyped pieces schema (comment_out wanted) before after puts (selected, are, same) untyped = remade_untyped selected (λ own. []) before after same untyped
leads_untyped pieces schema (set wanted list action) before after puts (selected, items, are, are_items, same) untyped = remade_untyped selected (with_fields action items) before after same untyped
leads_untyped pieces schema auto_fill before after puts leads untyped = filled_untyped (automatic_at schema) 0 before after leads untyped

-- ---- a text without a descriptor breaks no rule, and an edit that puts none in leaves it so

-- ---- a record

all_allowed : (names : List (List ℕ)) → filter (λ name. not (is_allowed no_rules name)) names ≡ []
all_allowed [] = refl
all_allowed (name ∷ names) = all_allowed names

no_type : (field : Bool) → (field && false) ≡ false
no_type true = refl
no_type false = refl

all_fit : (told : ℕ → Piece → Violation) (fields : List (ℕ × Piece))
    → filter_map (λ (i, piece). if misfits (field_type no_rules) piece then Some (told i piece) else None) fields ≡ []
all_fit told [] = refl
all_fit told (field ∷ fields) = rw (no_type (is_field_piece field.1)) (all_fit told fields)

no_violation : (pieces : List Piece) (earlier : List (List Piece)) (own_range : Range ℕ) → AreOfRecord pieces no_rules earlier own_range []
no_violation pieces earlier own_range =
    let fields : List Piece = elements_in pieces own_range in
    let line : ℕ = line_at pieces own_range.start in
    let types : List Violation = type_violations pieces (field_type no_rules) own_range.start fields in
    let allowed : allowed_violations no_rules line fields ≡ [] = ap (map (violation line Allowed)) (all_allowed (distinct (names_of fields))) in
    let fit : types ≡ [] = all_fit (λ i piece. violation (line_at pieces i) Fit (name_of piece)) (enumerate_from own_range.start fields) in
    record { unselected = []; are = refl; joined = sym (ap (λ x. x ++ (types ++ [])) allowed ∙ ap (λ x. x ++ []) fit) }

-- ---- a set without rules

no_violations : (pieces : List Piece) (earlier : List (List Piece)) (records : List (Range ℕ)) → AreOfRecords pieces no_rules earlier records []
no_violations pieces earlier [] = refl
no_violations pieces earlier (own_range ∷ records) = ([], [], no_violation pieces earlier own_range, no_violations pieces (earlier ++ elements_in pieces own_range ∷ []) records, refl)

-- which no descriptor begins
none_of_set : (pieces : List Piece) (records : List (Range ℕ)) (s : Set_) → s.head ≡ None → AreOfSet pieces records s no_rules []
none_of_set pieces records s headless =
    ([], no_violations pieces [] (members records s), sym (ap (λ found. found ++ []) (head_violations-none pieces records no_rules s headless refl)))

-- ---- a text without a descriptor

no_head : (record_type : Option (List ℕ)) (head : Option ℕ) (start at : ℕ) → record_type ≡ None
    → elim record_type as (λ k. Type 0) [ None ↦ (head ≡ None) × (start ≡ at) | Some k ↦ (head ≡ Some at) × (start ≡ at + 1) ] → head ≡ None
no_head None head start at none begins = begins.0
no_head (Some record_type) head start at none begins = let no : ⊥ = cc in absurd no

bare_rules : (pieces : List Piece) (records : List (Range ℕ)) (rules : Rules) (head : Option ℕ) → head ≡ None
    → elim head as (λ h. Type 0) [ None ↦ rules ≡ no_rules | Some at ↦ AreRules (record_at pieces records at) rules ] → rules ≡ no_rules
bare_rules pieces records rules None none ruled = ruled
bare_rules pieces records rules (Some at) none ruled = let no : ⊥ = cc in absurd no

none_of_sets : (pieces : List Piece) (records : List (Range ℕ)) (sets : List Set_) (rules : List Rules) → length sets ≡ 1 → IsUntypedFirst sets → AreFrom 0 sets
    → AllZip (IsRuled pieces records) sets rules → AreOfSets pieces records sets rules []
none_of_sets pieces records [] rules one untyped from ruled = absurd untyped
none_of_sets pieces records (s ∷ t ∷ sets) rules one untyped from ruled = let no : ⊥ = omega (arith, one) in absurd no
none_of_sets pieces records (s ∷ []) [] one untyped from ruled = absurd ruled
none_of_sets pieces records (s ∷ []) (a ∷ b ∷ rules) one untyped from ruled = absurd ruled.1
none_of_sets pieces records (s ∷ []) (a ∷ []) one untyped from ruled =
    let headless : s.head ≡ None = no_head s.kind s.head s.members.start 0 untyped.0 from.0.1 in
    let bare : a ≡ no_rules = bare_rules pieces records a s.head headless ruled.0 in
    let own : AreOfSet pieces records s a [] = subst (λ rules. AreOfSet pieces records s rules []) (sym bare) (none_of_set pieces records s headless) in
    ([], [], own, refl, refl)

pub unruled_text_breaks_none : (pieces : List Piece) (schema : Described) → IsSchema pieces (Ok schema) → length schema.sets ≡ 1 → AreViolations pieces schema []
unruled_text_breaks_none pieces schema is one =
    (is.records, is.are, none_of_sets pieces is.records schema.sets schema.rules one is.sets.untyped_first is.sets.places is.rules)

-- ---- an edit

pub unruled_edit_is_sound : (pieces : List Piece) (schema : Described) (force : Bool) (task : Task) (edit : EditScript) → AreElementsOf pieces (text_of pieces) → PutsNoDescriptorIn task
    → IsSchema pieces (Ok schema) → length schema.sets ≡ 1 → IsEditScript pieces schema force task (Ok edit) → IsSound (edited_text edit.script) (Ok tt)
unruled_edit_is_sound pieces schema force task edit elements puts is one found =
    let made = faithful pieces schema force task elements is edit found in
    let effect = made.effect in
    let same : Described = made.sound.0 in
    let new : List Piece = new_pieces edit.script in
    let edited : effect.edited ≡ new = one_list_of_elements (edited_text edit.script) effect.edited new effect.are_edited made.read in
    let after : AreTypedRecords new effect.after = subst (λ ps. AreTypedRecords ps effect.after) edited effect.are_after in
    let untyped : AreUntyped effect.after =
    leads_untyped pieces schema task effect.before effect.after puts effect.leads (one_set_is_untyped pieces elements.well_formed schema effect.before is effect.are_before one) in
    let still_one : length same.sets ≡ 1 = untyped_is_one_set new made.read.well_formed same effect.after made.sound.1 after untyped in
    inr ([], (new, same, made.read, made.sound.1, unruled_text_breaks_none new same made.sound.1 still_one), refl)
