-- The schema of a text, as it is read record by record.
use Rattle.std.proofs.Common.{◌≡◌, ◌∙◌, ℕ, ◌+◌, ◌-◌, ◌<◌, ◌≤◌, Bool, true, false, List, [], ◌∷◌, ◌++◌, length, take, drop, Option, Some, None, Err, refl, ap, sym, subst, arith}
use Rattle.std.proofs.lemmas.Bool.{false≢true}
use Rattle.std.proofs.lemmas.List.{append_assoc, append-nil, length-append, length-map, length_push, map-append}
use Rattle.std.proofs.lemmas.Option.{slice_get-map}
use Rattle.std.specs.List.{All, AllZip, slice_get}
use Rattle.std.specs.Option.{is_some, option_map}
use Rattle.std.specs.declared.ops.Range.{Range}
use Rattle.rec_text.specs.declared.element.Element.{Element}
use Rattle.rec_text.specs.declared.fault.Fault.{Fault}
use Rattle.rec_text.specs.declared.fault.Fault.TheVariants.{OutOfMemory, BadDescriptor, Unsupported, BadPattern}
use Rattle.rec_text.specs.Elements.{Piece, text_of}
use Rattle.rec_text.specs.Faults.{IsMemoryOr}
use Rattle.rec_text.specs.Places.{piece_of, pieces_of, AreFrom}
use Rattle.rec_text.specs.Reading.{line_after}
use Rattle.rec_text.specs.Records.{IsRecord, AreRecords, LiesIn, elements_in, record_at}
use Rattle.rec_text.proofs.lemmas.ListLemmas.{AllByRecursion-following}
use Rattle.rec_text.proofs.lemmas.records.RangeLemmas.{LiesIn-nil}
use Rattle.rec_text.proofs.lemmas.records.RecordLemmas.{length-records}
use Rattle.rec_check.specs.declared.set.Set_.{Set_}
use Rattle.rec_check.specs.Descriptors.{Flaw, bad, unsupported, type_of, types_of}
use Rattle.rec_check.specs.proving.Flaws.{ElementIsRead, FieldIsRead, field_flaw}
use Rattle.rec_check.specs.proving.Reading.{AddsRecord, AddsRecordAs, HasFieldFlaw, DescriptorMayBeRefused, IsRefusedRecord, untyped}
use Rattle.rec_check.specs.Rules.{Rules, AreRules}
use Rattle.rec_check.specs.Schemas.{Described, IsDescribed, IsRuled, IsSchema, HasFlaw, SchemaMayBeRefused}
use Rattle.rec_check.specs.Sets.{AreSets}
use Rattle.rec_check.specs.proving.Steps.{record_types, with_member, with_record}
use Rattle.rec_check.proofs.lemmas.descriptors.DescriptorLemmas.{AllZip-push, each_built}
use Rattle.rec_check.proofs.lemmas.descriptors.FlawLemmas.{read-following, read-outside}
use Rattle.rec_check.proofs.lemmas.descriptors.PlaceLemmas.{own_are, own_within, text_before}
use Rattle.rec_check.proofs.lemmas.descriptors.StandsLemmas.{read-stands, HasFlaw-own, SchemaMayBeRefused-own}
use Rattle.rec_check.proofs.lemmas.SetLemmas.{set_of, AreSets-none, AreSets-with_record, record_types-AreSets, types_among}

-- ---- the rules of sets

pub IsRuled-longer : (pieces : List Piece) (records : List (Range ℕ)) (index : ℕ) (sets : List Set_) (rules : List Rules) → AllZip (IsRuled pieces records) sets rules
    → AllZip (IsRuled pieces records) (with_member sets index) rules
IsRuled-longer pieces records index [] rules all = all
IsRuled-longer pieces records index (s ∷ []) [] all = absurd all
IsRuled-longer pieces records index (s ∷ []) (own ∷ rules) all = all
IsRuled-longer pieces records index (s ∷ next ∷ sets) [] all = absurd all
IsRuled-longer pieces records index (s ∷ next ∷ sets) (own ∷ rules) all = (all.0, IsRuled-longer pieces records index (next ∷ sets) rules all.1)

pub record_at-following : (pieces : List Piece) (done : List (Range ℕ)) (fields : Range ℕ) (rest : List (Range ℕ)) → record_at pieces (done ++ fields ∷ rest) (length done) ≡ elements_in pieces fields
record_at-following pieces [] fields rest = refl
record_at-following pieces (r ∷ done) fields rest = record_at-following pieces done fields rest

pub none_there : {X : Type 0} (o : Option X) → is_some o ≡ false → o ≡ None
none_there None none = refl
none_there (Some x) none = absurd (false≢true (sym none))

-- ---- record by record

-- what is known when some records are read, and these are left
pub record IsSchemaUpTo (pieces : List Piece) (count : ℕ) (rest : List (Range ℕ)) (described : Described) : Type 0 where
  pub done : List (Range ℕ)
  pub are : AreRecords pieces (done ++ rest)
  pub counted : count ≡ length done
  pub read : (i : ℕ) → (LiesIn rest i → ⊥) → ElementIsRead pieces (done ++ rest) i
  pub sets_are : AreSets (types_of pieces done) described.sets
  pub rules_are : AllZip (IsRuled pieces (done ++ rest)) described.sets described.rules

pub schema_none : (pieces : List Piece) (records : List (Range ℕ)) → AreRecords pieces records → IsSchemaUpTo pieces 0 records untyped
schema_none pieces records are = record {
  done = [];
  are = are;
  counted = refl;
  read = λ i outside. read-outside pieces records i outside;
  sets_are = AreSets-none;
  rules_are = (refl, tt);
}

pub schema_first : (pieces : List Piece) (records rest : List (Range ℕ)) (count : ℕ) (described : Described) → AreRecords pieces records → count ≡ 0 → rest ≡ records → described ≡ untyped
    → IsSchemaUpTo pieces count rest described
schema_first pieces records rest count described are zeroth all alone =
    let P : ℕ → Type 0 = λ n. IsSchemaUpTo pieces n rest described in
    let Q : List (Range ℕ) → Type 0 = λ r. IsSchemaUpTo pieces 0 r described in
    let R : Described → Type 0 = λ d. IsSchemaUpTo pieces 0 records d in
    subst P (sym zeroth) (subst Q (sym all) (subst R (sym alone) (schema_none pieces records are)))

pub countable : (pieces : List Piece) (count : ℕ) (rest : List (Range ℕ)) (described : Described) (top : ℕ) → IsSchemaUpTo pieces count rest described → length pieces < top → count + length rest < top
countable pieces count rest described top so_far short =
    omega (arith, so_far.counted, length-append so_far.done rest, length-records pieces 0 (so_far.done ++ rest) (omega arith) so_far.are.each so_far.are.ascending)

module _ (pieces : List Piece) (count : ℕ) (left : List (Range ℕ)) (old : Described) (fields : Range ℕ) (rest : List (Range ℕ)) (first : left ≡ fields ∷ rest)
    (so_far : IsSchemaUpTo pieces count left old) where
  pub here : IsSchemaUpTo pieces count (fields ∷ rest) old
  here = subst (λ r. IsSchemaUpTo pieces count r old) first so_far

  pub record_within : (fields.start ≤ fields.end) × (fields.end ≤ length pieces)
  record_within =
      let own = (AllByRecursion-following (IsRecord pieces) here.done (fields ∷ rest) here.are.each).0 in
      (omega (arith, own.some), omega (arith, own.high, own.is_paragraph.within))

  record_types-before : record_types old.sets ≡ types_among (types_of pieces here.done)
  record_types-before = record_types-AreSets (types_of pieces here.done) old.sets here.sets_are

  parts : (here.done ++ fields ∷ []) ++ rest ≡ here.done ++ fields ∷ rest
  parts = append_assoc here.done (fields ∷ []) rest

  -- the schema with the record, whose elements name this type
  pub grown : (index next : ℕ) (new : Described) → index ≡ count → next ≡ count + 1
      → (is_some (type_of (elements_in pieces fields)) ≡ true → (k : ℕ) → FieldIsRead (record_types old.sets) (elements_in pieces fields) k)
      → new.sets ≡ with_record old.sets index (type_of (elements_in pieces fields)) → AllZip (IsRuled pieces (here.done ++ fields ∷ rest)) new.sets new.rules → IsSchemaUpTo pieces next rest new
  grown index next new here_is then read sets_grow rules_are =
      let record_type : Option (List ℕ) = type_of (elements_in pieces fields) in
      let types_are : types_of pieces here.done ++ record_type ∷ [] ≡ types_of pieces (here.done ++ fields ∷ []) = sym (map-append (λ r. type_of (elements_in pieces r)) here.done (fields ∷ [])) in
      let sets_are : AreSets (types_of pieces here.done ++ record_type ∷ []) (with_record old.sets index record_type) =
      AreSets-with_record (types_of pieces here.done) old.sets index record_type (here_is ∙ here.counted ∙ sym (length-map here.done (λ r. type_of (elements_in pieces r)))) here.sets_are in
      let P : List (Range ℕ) → Type 0 = AreRecords pieces in
      let Q : List (Option (List ℕ)) → Type 0 = λ ts. AreSets ts new.sets in
      let R : List Set_ → Type 0 = AreSets (types_of pieces here.done ++ record_type ∷ []) in
      let S : List (Range ℕ) → Type 0 = λ rs. AllZip (IsRuled pieces rs) new.sets new.rules in
      record {
        done = here.done ++ fields ∷ [];
        are = subst P (sym parts) here.are;
        counted = then ∙ ap (λ n. n + 1) here.counted ∙ sym (length_push here.done fields);
        read = λ i outside. subst (λ rs. ElementIsRead pieces rs i) (sym parts)
            (read-following pieces here.done fields rest here.are here.read (λ is k. subst (λ ts. FieldIsRead ts (elements_in pieces fields) k) record_types-before (read is k)) i outside);
        sets_are = subst Q types_are (subst R (sym sets_grow) sets_are);
        rules_are = subst S (sym parts) rules_are;
      }

  -- the rules of the sets that are there stay, and those of a descriptor stand after them
  pub rules_grow : (index : ℕ) (new : Described) (asked : Rules) (record_type : Option (List ℕ)) → index ≡ count → is_some record_type ≡ true → AreRules (elements_in pieces fields) asked
      → new.sets ≡ with_record old.sets index record_type → new.rules ≡ old.rules ++ asked ∷ [] → AllZip (IsRuled pieces (here.done ++ fields ∷ rest)) new.sets new.rules
  rules_grow index new asked None here_is typed told sets_grow rules_are = absurd (false≢true typed)
  rules_grow index new asked (Some record_type) here_is typed told sets_grow rules_are =
      let own : record_at pieces (here.done ++ fields ∷ rest) index ≡ elements_in pieces fields =
      ap (record_at pieces (here.done ++ fields ∷ rest)) (here_is ∙ here.counted) ∙ record_at-following pieces here.done fields rest in
      let ruled : AreRules (record_at pieces (here.done ++ fields ∷ rest) index) asked = subst (λ fs. AreRules fs asked) (sym own) told in
      let P : List Set_ → Type 0 = λ sets. AllZip (IsRuled pieces (here.done ++ fields ∷ rest)) sets new.rules in
      let Q : List Rules → Type 0 = λ rules. AllZip (IsRuled pieces (here.done ++ fields ∷ rest)) (with_record old.sets index (Some record_type)) rules in
      subst P (sym sets_grow) (subst Q (sym rules_are) (AllZip-push (IsRuled pieces (here.done ++ fields ∷ rest)) old.sets old.rules
      (set_of (Some record_type) (Some index) (index + 1) (index + 1)) asked here.rules_are ruled))

  more_as : (index next : ℕ) (new : Described) (descriptor : Bool) → index ≡ count → next ≡ count + 1 → is_some (type_of (elements_in pieces fields)) ≡ descriptor
      → AddsRecordAs descriptor (record_types old.sets) (elements_in pieces fields) index old new → IsSchemaUpTo pieces next rest new
  more_as index next new false here_is then type_is told =
      let P : List Set_ → Type 0 = λ sets. AllZip (IsRuled pieces (here.done ++ fields ∷ rest)) sets new.rules in
      let Q : List Rules → Type 0 = λ rules. AllZip (IsRuled pieces (here.done ++ fields ∷ rest)) (with_member old.sets index) rules in
      grown index next new here_is then (λ is. absurd (false≢true (sym type_is ∙ is)))
      (told.0 ∙ ap (with_record old.sets index) (sym (none_there (type_of (elements_in pieces fields)) type_is)))
      (subst P (sym told.0) (subst Q (sym told.1) (IsRuled-longer pieces (here.done ++ fields ∷ rest) index old.sets old.rules here.rules_are)))
  more_as index next new true here_is then type_is (said, are_said, sets_grow, rules_are) =
      let sets_are : new.sets ≡ with_record old.sets index (type_of (elements_in pieces fields)) = sets_grow ∙ ap (with_record old.sets index) are_said.record_type in
      grown index next new here_is then (λ is k. record { sound = are_said.sound k; built = each_built (elements_in pieces fields) said.rules are_said.rules k })
      sets_are (rules_grow index new said.rules (type_of (elements_in pieces fields)) here_is type_is are_said.rules sets_are rules_are)

  -- the record's elements are taken from all elements
  module _ (elements : List Element) (elements_are : pieces_of elements ≡ pieces) (named : List (List ℕ)) (named_is : record_types old.sets ≡ named) where
    abbrev own : List Element
    own = take (fields.end - fields.start) (drop fields.start elements)

    own_is : pieces_of own ≡ elements_in pieces fields
    own_is = own_are pieces elements elements_are fields record_within.0

    pub schema_more : (index next : ℕ) (new : Described) → index ≡ count → next ≡ count + 1 → AddsRecord named (pieces_of own) index old new → IsSchemaUpTo pieces next rest new
    schema_more index next new here_is then told =
        more_as index next new (is_some (type_of (elements_in pieces fields))) here_is then refl
        (subst (λ ts. AddsRecord ts (elements_in pieces fields) index old new) (sym named_is) (subst (λ fs. AddsRecord named fs index old new) own_is told))

    module _ (places : AreFrom 0 elements) where
      pub fields_within : All (λ field. field.at ≤ length (text_of pieces)) own
      fields_within = own_within pieces elements elements_are fields record_within.0 places

      descriptor_is : is_some (type_of (pieces_of own)) ≡ true → is_some (type_of (elements_in pieces fields)) ≡ true
      descriptor_is descriptor = ap (λ fs. is_some (type_of fs)) (sym own_is) ∙ descriptor

      field_is_read : (k : ℕ) → FieldIsRead named (pieces_of own) k → FieldIsRead (types_among (types_of pieces here.done)) (elements_in pieces fields) k
      field_is_read k read = subst (λ ts. FieldIsRead ts (elements_in pieces fields) k) (sym named_is ∙ record_types-before) (subst (λ fs. FieldIsRead named fs k) own_is read)

      field_flaw-is : (k : ℕ) → field_flaw (types_among (types_of pieces here.done)) (elements_in pieces fields) k ≡ field_flaw named (pieces_of own) k
      field_flaw-is k = ap (λ ts. field_flaw ts (elements_in pieces fields) k) (sym record_types-before ∙ named_is) ∙ ap (λ fs. field_flaw named fs k) (sym own_is)

      schema_flaw : (flaw : Flaw) (line : ℕ) → is_some (type_of (pieces_of own)) ≡ true → HasFieldFlaw (text_of pieces) named own flaw line → HasFlaw pieces flaw line
      schema_flaw flaw line descriptor has =
          let stands : slice_get (elements_in pieces fields) has.at ≡ Some (piece_of has.field) =
          ap (λ fs. slice_get fs has.at) (sym own_is) ∙ slice_get-map piece_of own has.at ∙ ap (option_map piece_of) has.stands in
          HasFlaw-own pieces here.done fields rest here.are here.read (descriptor_is descriptor) has.at (piece_of has.field) stands (λ k less. field_is_read k (has.first k less)) flaw line
          (field_flaw-is has.at ∙ has.met) (has.number ∙ ap line_after (text_before pieces elements elements_are fields record_within.0 places has.at has.field has.stands))

      schema_refused : is_some (type_of (pieces_of own)) ≡ true → DescriptorMayBeRefused named (pieces_of own) → SchemaMayBeRefused pieces
      schema_refused descriptor has =
          SchemaMayBeRefused-own pieces here.done fields rest here.are here.read (descriptor_is descriptor) has.at has.field (ap (λ fs. slice_get fs has.at) (sym own_is) ∙ has.stands)
          (λ k less. field_is_read k (has.first k less)) (field_flaw-is has.at ∙ has.sound) has.refused

      pub schema_fault : (fault : Fault) → IsMemoryOr fault (IsRefusedRecord (text_of pieces) named own fault) → IsMemoryOr fault (IsSchema pieces (Err fault))
      schema_fault OutOfMemory has = tt
      schema_fault (BadDescriptor line) has = schema_flaw bad line has.0 has.1
      schema_fault (Unsupported line) has = schema_flaw unsupported line has.0 has.1
      schema_fault BadPattern has = schema_refused has.0 has.1
      schema_fault fault has = absurd has.1

pub schema_all : (pieces : List Piece) (count : ℕ) (rest : List (Range ℕ)) (described : Described) → rest ≡ [] → IsSchemaUpTo pieces count rest described → IsDescribed pieces described
schema_all pieces count rest described none so_far =
    let end : IsSchemaUpTo pieces count [] described = subst (λ r. IsSchemaUpTo pieces count r described) none so_far in
    record {
      records = end.done ++ [];
      are = end.are;
      sound = λ i element stands. (read-stands pieces (end.done ++ []) i element end.are stands (end.read i (LiesIn-nil i))).sound;
      sets = subst (λ rs. AreSets (types_of pieces rs) described.sets) (sym (append-nil end.done)) end.sets_are;
      rules = end.rules_are;
    }
