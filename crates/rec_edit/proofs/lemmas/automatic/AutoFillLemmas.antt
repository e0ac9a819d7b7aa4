-- What the filling of all records makes of a text: the records stay, with automatic fields before those that lack them.
use Rattle.std.proofs.Common.{◌≡◌, ◌∙◌, ◌⊎◌, ℕ, suc, ◌+◌, ◌<◌, Bool, true, false, List, [], ◌∷◌, ◌++◌, length, map, filter, Option, Some, None, refl, ap, ap₂, sym, subst, inl, inr, arith}
use Rattle.std.proofs.Common.{zero, Ok}
use Rattle.std.specs.Prelude.{is_some, slice_get, if◌then◌else◌}
use Rattle.std.specs.List.{AllByRecursion, AllZip, enumerate_from, list_any}
use Rattle.std.specs.declared.ops.Range.{Range}
use Rattle.std.proofs.lemmas.Bool.{cases_Bool, false≢true, or_from, or_parts}
use Rattle.std.proofs.lemmas.List.{append_assoc, map-append}
use Rattle.std.specs.Fmt.{signed_decimal}
use Rattle.rec_text.specs.declared.element.Kind.{Kind}
use Rattle.rec_text.specs.declared.element.Kind.TheVariants.{Blank, Comment, Field}
use Rattle.rec_text.specs.Elements.{Piece, IsElement, AreElementsOf, text_of, has_name}
use Rattle.rec_text.specs.Records.{AreRecords, elements_in, is_blank_piece, is_field_piece}
use Rattle.rec_check.specs.Descriptors.{type_of, rec_name}
use Rattle.rec_check.specs.Violations.{names_of}
use Rattle.rec_edit.specs.Automatic.{lacking, AreFilledSets}
use Rattle.rec_edit.specs.Effect.{TypedRecord, IsFilledUp, typed_records, type_after, HasEffect, automatic_at}
use Rattle.rec_edit.specs.Script.{closed, new_pieces, edited_text, old_pieces, Part, settled}
use Rattle.rec_edit.specs.Insertions.{Numbered, numbered_fields, fields_at, filled}
use Rattle.rec_check.specs.Schemas.{Described, IsSchema}
use Rattle.rec_check.specs.Soundness.{descriptors, says}
use Rattle.rec_edit.specs.Task.{auto_fill, Pair}
use Rattle.rec_edit.specs.Outcome.{EditScript, IsEditScript, made_of}
use Rattle.rec_edit.proofs.lemmas.scripts.ChangeLemmas.{IsSome}
use Rattle.rec_edit.specs.Rules.{canonical, fields_of}
use Rattle.rec_text.proofs.lemmas.ListLemmas.{AllByRecursion-append, AllByRecursion-prefix}
use Rattle.rec_edit.proofs.lemmas.records.ClosedLemmas.{named-closed}
use Rattle.rec_edit.proofs.lemmas.scripts.WellFormedLemmas.{name_of-closed}
use Rattle.rec_edit.proofs.lemmas.outcomes.EffectLemmas.{closed_owns, elements_part, type_of-closed, said, said-records}
use Rattle.rec_edit.proofs.lemmas.automatic.FilledLemmas.{given_at, names-given, ArePlain, fields-given_at, plain_or_none, sets_plain}
use Rattle.rec_edit.proofs.lemmas.records.FitLemmas.{closed-own, list_any-closed, Cut-AreRecords, IsOwn, between_fields-own, with_own-some, records_there, append_fails}
use Rattle.rec_edit.proofs.lemmas.scripts.LaidLemmas.{closed-blank, closed-field}
use Rattle.rec_edit.proofs.lemmas.records.TypedRecordLemmas.{closes, kept as kept_up_to, with_own}
use Rattle.rec_check.proofs.lemmas.laws.SameDescriptorLemmas.{same_descriptors as schemas_of_same}
use Rattle.rec_edit.proofs.lemmas.outcomes.AnswerLemmas.{IsFaithful}
use Rattle.rec_edit.specs.declared.draft.Draft.{Draft}
use Rattle.rec_edit.specs.Blocks.{Block, kept, put, lead_of, blocks_of, parts_from, script_of}
use Rattle.rec_edit.specs.proving.Drafts.{AreKept, LeadsOn}
use Rattle.rec_edit.specs.proving.Laying.{TakesAll}
use Rattle.rec_text.proofs.lemmas.FaultLemmas.{same_value}
use Rattle.rec_edit.proofs.lemmas.scripts.EqualLemmas.{Grows}
use Rattle.rec_edit.proofs.lemmas.scripts.WellFormedLemmas.{AreWhole}
use Rattle.rec_edit.proofs.lemmas.scripts.ScriptLemmas.{old_pieces-settled}
use Rattle.rec_edit.proofs.lemmas.layouts.NewFieldLemmas.{CanBeWritten}
use Rattle.rec_edit.proofs.lemmas.insertions.NewRecordLemmas.{automatic_are_fields, number_is_foldable}
use Rattle.rec_edit.proofs.lemmas.blocks.BlockLemmas.{AreKept-kept, LeadsOn-append, old_pieces-kept, settled-put}
use Rattle.rec_edit.proofs.lemmas.blocks.LayingLemmas.{old_pieces-script, ranges_of_records}
use Rattle.rec_edit.proofs.lemmas.blocks.SettingLemmas.{old_pieces-put}
use Rattle.rec_edit.proofs.lemmas.blocks.TurnLemmas.{all, IsFine, AreCut, AreCut-blocks, Turns, all_parts_from, fine_kept, new_pieces-kept, owns_after, turned_from, turned_is_read}
use Rattle.rec_edit.proofs.lemmas.blocks.KindLemmas.{IsWritten, fields_written, fine_put, new_pieces-put}
use Rattle.rec_edit.proofs.lemmas.blocks.QuietLemmas.{grows_kept, grown_quiet}
use Rattle.rec_edit.proofs.lemmas.blocks.FaithfulLemmas.{grows_put, some-kept, some-put, some-settled, unchanged_by}

-- ---- fields that are put first in a record

pub Turns-filled : (new : List Piece) → IsWritten new
    → Turns (filled new) (λ block. record { own = new ++ map closed block.own; gap = map closed block.gap }) (λ own. new ++ own)
Turns-filled new written = record {
  fine = λ block whole. AllByRecursion-append IsFine (put new) (kept (block.own ++ block.gap)) (fine_put new written.lines) (fine_kept (block.own ++ block.gap) whole);
  new = λ block whole.
      new_pieces-put new (kept (block.own ++ block.gap)) ∙ ap (λ l. new ++ l) (new_pieces-kept (block.own ++ block.gap) ∙ map-append closed block.own block.gap)
      ∙ sym (append_assoc new (map closed block.own) (map closed block.gap));
  own = λ block whole. refl;
  full = λ block own. append_fails is_blank_piece new (map closed block.own) written.full (list_any-closed is_blank_piece closed-blank block.own ∙ own.full);
  gap = λ block none. list_any-closed is_field_piece closed-field block.gap ∙ none;
  apart = λ block. inr (λ blank. list_any-closed is_blank_piece closed-blank block.gap ∙ blank);
  still = λ block whole none.
      append_fails (has_name rec_name) new (map closed block.own) written.other (named-closed block.own (AllByRecursion-prefix IsElement block.own block.gap whole) ∙ none);
}

pub TakesAll-filled : (new : ℕ → List Piece) → TakesAll (λ k. filled (new k))
TakesAll-filled new k block = old_pieces-put (new k) (kept (block.own ++ block.gap)) ∙ old_pieces-kept (block.own ++ block.gap)

-- fields are put in before the record
pub filled_laid : (own gap new : List Piece) (draft middle last : Draft) (kept_text : List ℕ) → AreWhole (own ++ gap) → kept_text ≡ text_of (own ++ gap)
    → LeadsOn draft (put new) middle → ((parts : List Part) → AreKept parts → kept_text ≡ text_of (old_pieces parts) → LeadsOn middle parts last)
    → LeadsOn draft (settled (filled new (record { own = own; gap = gap }))) last
filled_laid own gap new draft middle last kept_text whole kept_is one keep =
    subst (λ l. LeadsOn draft l last) (sym (settled-put new (kept (own ++ gap))))
    (LeadsOn-append draft middle last (put new) (settled (kept (own ++ gap))) one
    (keep (settled (kept (own ++ gap))) (AreKept-kept (own ++ gap) whole) (kept_is ∙ ap text_of (sym (old_pieces-kept (own ++ gap)) ∙ sym (old_pieces-settled (kept (own ++ gap)))))))

-- ---- automatic fields

-- as fields of a new record
abbrev pairs_for : List Numbered → List Pair
pairs_for given = map (λ one. record { name = one.name; value = signed_decimal one.number }) given

fields_for_pairs : (given : List Numbered) → fields_of (pairs_for given) ≡ numbered_fields given
fields_for_pairs [] = refl
fields_for_pairs (one ∷ given) = ap (λ l. canonical one.name (signed_decimal one.number) ∷ l) (fields_for_pairs given)

can_be_written : (given : List Numbered) → ArePlain given → AllByRecursion CanBeWritten (pairs_for given)
can_be_written [] plain = tt
can_be_written (one ∷ given) plain = (record { plain = plain.0; foldable = number_is_foldable one.number }, can_be_written given plain.1)

fields_at_written : (filled : List (List Numbered)) (k : ℕ) → AllByRecursion ArePlain filled → IsWritten (fields_at filled k)
fields_at_written [] k plain = fields_written [] tt
fields_at_written (given ∷ filled) zero plain = subst IsWritten (fields_for_pairs given) (fields_written (pairs_for given) (can_be_written given plain.0))
fields_at_written (given ∷ filled) (suc k) plain = fields_at_written filled k plain.1

field_no_blank : (kind : Kind) (bytes : List ℕ) → is_field_piece (record { kind = kind; bytes = bytes }) ≡ true → is_blank_piece (record { kind = kind; bytes = bytes }) ≡ false
field_no_blank Blank bytes field = absurd (false≢true field)
field_no_blank Comment bytes field = refl
field_no_blank Field bytes field = refl

abbrev AreFields : List Piece → Type 0
AreFields pieces = AllByRecursion (λ piece. is_field_piece piece ≡ true) pieces

kept-before : (piece : Piece) (pieces : List Piece) → 0 < length pieces → kept_up_to piece pieces ≡ piece ∷ pieces
kept-before piece [] some = absurd (omega arith)
kept-before piece (next ∷ pieces) some = refl

IsOwn-following : (prefix own : List Piece) → AreFields prefix → IsOwn own → IsOwn (prefix ++ own)
IsOwn-following [] own fields is = is
IsOwn-following (piece ∷ prefix) own fields is =
    let more = IsOwn-following prefix own fields.1 is in
    let field = fields.0 in
    record {
      some = omega arith;
      first = rw field refl;
      last = ap (kept_up_to piece) more.last ∙ kept-before piece (prefix ++ own) more.some;
      full = or_from (is_blank_piece piece) (list_any is_blank_piece (prefix ++ own)) (field_no_blank piece.kind piece.bytes field) more.full;
    }

fields_are_fields : (given : List Numbered) → AreFields (numbered_fields given)
fields_are_fields [] = tt
fields_are_fields (one ∷ given) = (refl, fields_are_fields given)

type_of-following : (prefix own : List Piece) → list_any (has_name rec_name) prefix ≡ false → type_of (prefix ++ own) ≡ type_of own
type_of-following [] own none = refl
type_of-following (piece ∷ prefix) own none =
    let parts = or_parts (has_name rec_name piece) (list_any (has_name rec_name) prefix) none in
    let other = parts.0 in
    rw other (type_of-following prefix own parts.1)

names_of-closed : (own : List Piece) → AllByRecursion IsElement own → names_of (map closed own) ≡ names_of own
names_of-closed [] all = refl
names_of-closed (piece ∷ own) all = elim (cases_Bool (is_field_piece piece)) [
  | inl field ↦ rw (closed-field piece) (rw field (ap₂ (λ name names. name ∷ names) (name_of-closed piece all.0) (names_of-closed own all.1)))
  | inr other ↦ rw (closed-field piece) (rw other (names_of-closed own all.1))
]

-- ---- what becomes of the records

-- what each of these records is given, the first of which has this index
module _ (pieces : List Piece) (whole : AllByRecursion IsElement pieces) (filled : List (List Numbered)) (plain : AllByRecursion ArePlain filled) (automatic : ℕ → List (List ℕ)) where
  abbrev own_at : ℕ → Range ℕ → List Piece
  own_at k r = fields_at filled k ++ map closed (elements_in pieces r)

  abbrev filled_owns : ℕ → List (Range ℕ) → List (List Piece)
  filled_owns i [] = []
  filled_owns i (r ∷ records) = own_at i r ∷ filled_owns (i + 1) records

  -- by their names; a descriptor is given none
  record IsGivenTo (k : ℕ) (r : Range ℕ) : Type 0 where
    names : map (λ one. one.name) (given_at filled k) ≡ lacking (automatic k) (names_of (elements_in pieces r))
    untyped : (fields_at filled k ≡ []) ⊎ (type_of (elements_in pieces r) ≡ None)

  abbrev AreGivenTo : ℕ → List (Range ℕ) → Type 0
  AreGivenTo i [] = Unit {0}
  AreGivenTo i (r ∷ records) = IsGivenTo i r × AreGivenTo (i + 1) records

  IsOwn-at : (k : ℕ) (r : Range ℕ) → IsOwn (elements_in pieces r) → IsOwn (own_at k r)
  IsOwn-at k r own =
      IsOwn-following (fields_at filled k) (map closed (elements_in pieces r)) (subst AreFields (sym (fields-given_at filled k)) (fields_are_fields (given_at filled k)))
      (closed-own (elements_in pieces r) own)

  closes-filled : (i : ℕ) (records : List (Range ℕ)) → AreCut (blocks_of pieces records) → closes (filled_owns i records) ≡ filled_owns i records
  closes-filled i [] cut = refl
  closes-filled i (r ∷ records) (own, none, shut, more) =
      let is : IsOwn (own_at i r) = IsOwn-at i r own in
      ap (λ made. with_own made (closes (filled_owns (i + 1) records))) (between_fields-own (own_at i r) is)
      ∙ with_own-some (own_at i r) (closes (filled_owns (i + 1) records)) is.some ∙ ap (λ owns. own_at i r ∷ owns) (closes-filled (i + 1) records more)

  same_type : (k : ℕ) (r : Range ℕ) → type_of (own_at k r) ≡ type_of (map closed (elements_in pieces r))
  same_type k r = type_of-following (fields_at filled k) (map closed (elements_in pieces r)) (fields_at_written filled k plain).other

  kind_is : (record_type : Option (List ℕ)) (k : ℕ) (r : Range ℕ) → type_after record_type (own_at k r) ≡ type_after record_type (map closed (elements_in pieces r))
  kind_is record_type k r = ap (λ o. elim o as (λ x. Option (List ℕ)) [ None ↦ record_type | Some named ↦ Some named ]) (same_type k r)

  filled_up : (record_type : Option (List ℕ)) (k : ℕ) (r : Range ℕ) → IsGivenTo k r
      → IsFilledUp (automatic k) (record { record_type = type_after record_type (map closed (elements_in pieces r)); own = map closed (elements_in pieces r) })
      (record { record_type = type_after record_type (own_at k r); own = own_at k r })
  filled_up record_type k r gives =
      let own : List Piece = map closed (elements_in pieces r) in
      let typed : Option (List ℕ) → List Piece → TypedRecord = λ t prefix. record { record_type = t; own = prefix ++ own } in
      record {
        given = given_at filled k;
        names = gives.names ∙ ap (lacking (automatic k)) (sym (names_of-closed (elements_in pieces r) (elements_part pieces r whole)));
        is = ap₂ typed (kind_is record_type k r) (fields-given_at filled k);
      }

  filled_typed_records : (record_type : Option (List ℕ)) (i : ℕ) (records : List (Range ℕ)) → AreGivenTo i records
      → AllZip (λ (i, typed) filled. IsFilledUp (automatic i) typed filled) (enumerate_from i (typed_records record_type (closed_owns pieces records)))
      (typed_records record_type (filled_owns i records))
  filled_typed_records record_type i [] gives = tt
  filled_typed_records record_type i (r ∷ records) gives =
      let own : List Piece = map closed (elements_in pieces r) in (
        filled_up record_type i r gives.0,
        subst (λ t. AllZip (λ (i, typed) filled. IsFilledUp (automatic i) typed filled) (enumerate_from (i + 1) (typed_records (type_after record_type own) (closed_owns pieces records)))
            (typed_records t (filled_owns (i + 1) records))) (sym (kind_is record_type i r))
            (filled_typed_records (type_after record_type own) (i + 1) records gives.1),
      )

  -- the descriptors stay
  abbrev with_type : List (List Piece) → List (List Piece)
  with_type owns = filter (λ own. is_some (type_of own)) owns

  with_type-no : (own : List Piece) (owns : List (List Piece)) → type_of own ≡ None → with_type (own ∷ owns) ≡ with_type owns
  with_type-no own owns none = ap (λ o. if is_some o then own ∷ with_type owns else with_type owns) none

  with_type-filled : (i : ℕ) (records : List (Range ℕ)) → AreGivenTo i records → with_type (filled_owns i records) ≡ with_type (closed_owns pieces records)
  with_type-filled i [] gives = refl
  with_type-filled i (r ∷ records) gives =
      let own : List Piece = map closed (elements_in pieces r) in
      let more = with_type-filled (i + 1) records gives.1 in
      elim gives.0.untyped [
        | inl nothing ↦
            ap (λ prefix. with_type ((prefix ++ own) ∷ filled_owns (i + 1) records)) nothing
            ∙ ap (λ owns. if is_some (type_of own) then own ∷ owns else owns) more
        | inr untyped ↦
            let none : type_of own ≡ None = type_of-closed (elements_in pieces r) (elements_part pieces r whole) ∙ untyped in
            with_type-no (own_at i r) (filled_owns (i + 1) records) (same_type i r ∙ none) ∙ more ∙ sym (with_type-no own (closed_owns pieces records) none)
      ]

-- ---- the edit

module _ (pieces : List Piece) (schema : Described) (elements : AreElementsOf pieces (text_of pieces)) (is : IsSchema pieces (Ok schema)) (records : List (Range ℕ)) (are : AreRecords pieces records)
    (given : List (List Numbered)) (found : AreFilledSets pieces records schema.sets schema.rules (Ok given)) where
  plain : AllByRecursion ArePlain given
  plain = sets_plain pieces records schema.sets schema.rules given (automatic_are_fields pieces schema is) found

  abbrev turn : ℕ → Block → Block
  turn k block = record { own = fields_at given k ++ map closed block.own; gap = map closed block.gap }

  abbrev remake : ℕ → List Piece → List Piece
  remake k own = fields_at given k ++ own

  turns : (k : ℕ) → Turns (filled (fields_at given k)) (turn k) (remake k)
  turns k = Turns-filled (fields_at given k) (fields_at_written given k plain)

  abbrev script : List Part
  script = script_of (λ k. true) (λ k. filled (fields_at given k)) pieces records

  old : old_pieces script ≡ pieces
  old = old_pieces-script pieces (λ k. true) (λ k. filled (fields_at given k)) (TakesAll-filled (fields_at given)) records elements (ranges_of_records pieces records are)

  read : AreElementsOf (new_pieces script) (edited_text script)
  read = turned_is_read (λ k. true) (λ k. filled (fields_at given k)) turn remake turns pieces records elements are

  names_or_none : (k : ℕ) (r : Range ℕ) → slice_get records k ≡ Some r → (fields_at given k ≡ []) ⊎ (type_of (elements_in pieces r) ≡ None)
  names_or_none k r at = elim (plain_or_none pieces schema records is are k r at) [
    | inl none ↦ inl (fields-given_at given k ∙ ap numbered_fields
        (no_names (given_at given k) (names-given pieces schema records given is are found k r at ∙ ap (λ a. lacking a (names_of (elements_in pieces r))) none)))
    | inr untyped ↦ inr untyped
  ]
    where
      no_names : (some : List Numbered) → map (λ one. one.name) some ≡ [] → some ≡ []
      no_names [] none = refl
      no_names (one ∷ some) none = absurd (cc)

  gives_from : (i : ℕ) (rest : List (Range ℕ)) → ((k : ℕ) (r : Range ℕ) → slice_get rest k ≡ Some r → slice_get records (i + k) ≡ Some r)
      → AreGivenTo pieces elements.well_formed given plain (automatic_at schema) i rest
  gives_from i [] there = tt
  gives_from i (r ∷ rest) there =
      let zeroth : i + 0 ≡ i = omega arith in
      let here : slice_get records i ≡ Some r = ap (slice_get records) (sym zeroth) ∙ there 0 r refl in (
        record { names = names-given pieces schema records given is are found i r here; untyped = names_or_none i r here },
        gives_from (i + 1) rest (λ k q at. let next : i + 1 + k ≡ i + suc k = omega arith in ap (slice_get records) next ∙ there (suc k) q at),
      )

  gives : AreGivenTo pieces elements.well_formed given plain (automatic_at schema) 0 records
  gives = gives_from 0 records (λ k r at. let zeroth : 0 + k ≡ k = omega arith in ap (slice_get records) zeroth ∙ at)

  owns_are : (i : ℕ) (rest : List (Range ℕ)) → map (λ block. block.own) (turned_from (λ k. true) (λ k. filled (fields_at given k)) turn remake turns i (blocks_of pieces rest))
      ≡ filled_owns pieces elements.well_formed given plain (automatic_at schema) i rest
  owns_are i [] = refl
  owns_are i (r ∷ rest) = ap (λ l. (fields_at given i ++ map closed (elements_in pieces r)) ∷ l) (owns_are (i + 1) rest)

  new_owns : (ranges : List (Range ℕ)) → AreRecords (new_pieces script) ranges
      → closed_owns (new_pieces script) ranges ≡ filled_owns pieces elements.well_formed given plain (automatic_at schema) 0 records
  new_owns ranges are_new =
      owns_after (λ k. true) (λ k. filled (fields_at given k)) turn remake turns pieces records elements are ranges are_new ∙ ap closes (owns_are 0 records)
      ∙ closes-filled pieces elements.well_formed given plain (automatic_at schema) 0 records (AreCut-blocks pieces false 0 records (Cut-AreRecords pieces records are))

  has_effect : HasEffect pieces schema auto_fill (edited_text script)
  has_effect =
      let there = records_there (new_pieces script) in
      record {
        before = typed_records None (closed_owns pieces records);
        are_before = (records, are, refl);
        edited = new_pieces script;
        are_edited = read;
        after = typed_records None (closed_owns (new_pieces script) there.0);
        are_after = (there.0, there.1, refl);
        leads = subst (λ owns. AllZip (λ (i, typed) filled. IsFilledUp (automatic_at schema i) typed filled) (enumerate_from 0 (typed_records None (closed_owns pieces records)))
            (typed_records None owns))
            (sym (new_owns there.0 there.1)) (filled_typed_records pieces elements.well_formed given plain (automatic_at schema) None 0 records gives);
      }

  -- the descriptors are the same
  is_sound : (same : Described) × IsSchema (new_pieces script) (Ok same)
  is_sound =
      let there = records_there (new_pieces script) in
      let same : descriptors pieces records ≡ descriptors (new_pieces script) there.0 =
      sym (said-records pieces records elements.well_formed) ∙ ap (map (map says)) (sym (with_type-filled pieces elements.well_formed given plain (automatic_at schema) 0 records gives))
      ∙ ap said (sym (new_owns there.0 there.1)) ∙ said-records (new_pieces script) there.0 read.well_formed in
      let answer = schemas_of_same pieces (new_pieces script) records there.0 schema are there.1 same is in
      (answer.0, answer.1)

  every : (blocks : List Block) → AllByRecursion (λ block. Unit {0}) blocks
  every [] = tt
  every (block ∷ blocks) = (tt, every blocks)

  all_filled : (P : Part → Type 0) → ((new : List Piece) → AllByRecursion P (put new)) → ((some : List Piece) → AllByRecursion P (kept some))
      → AllByRecursion P (kept (lead_of pieces records) ++ parts_from (λ k. true) (λ k. filled (fields_at given k)) 0 (blocks_of pieces records))
  all_filled P puts keeps =
      AllByRecursion-append P (kept (lead_of pieces records)) (parts_from (λ k. true) (λ k. filled (fields_at given k)) 0 (blocks_of pieces records)) (keeps (lead_of pieces records))
      (all_parts_from P (λ block. Unit {0}) (λ k. true) (λ k. filled (fields_at given k))
      (λ k block _. AllByRecursion-append P (put (fields_at given k)) (kept (block.own ++ block.gap)) (puts (fields_at given k)) (keeps (block.own ++ block.gap)))
      (λ block _. keeps (all block)) 0 (blocks_of pieces records) (every (blocks_of pieces records)))

  pub filling_is_faithful : IsFaithful pieces schema auto_fill (made_of None (λ k. true) (λ k. filled (fields_at given k)) pieces records)
  filling_is_faithful = record {
    old = old;
    some = some-settled (kept (lead_of pieces records) ++ parts_from (λ k. true) (λ k. filled (fields_at given k)) 0 (blocks_of pieces records)) (all_filled IsSome some-put some-kept);
    read = read;
    unchanged = unchanged_by pieces schema elements is script old read
        (grown_quiet (kept (lead_of pieces records) ++ parts_from (λ k. true) (λ k. filled (fields_at given k)) 0 (blocks_of pieces records)) (all_filled Grows grows_put grows_kept));
    sound = is_sound;
    effect = has_effect;
  }

-- the filling of all records is faithful
pub faithful_auto_fill : (pieces : List Piece) (schema : Described) (force : Bool) (edit : EditScript)
    → AreElementsOf pieces (text_of pieces) → IsSchema pieces (Ok schema) → IsEditScript pieces schema force auto_fill (Ok edit)
    → IsFaithful pieces schema auto_fill edit
faithful_auto_fill pieces schema force edit elements is (records, are, inl (fault, refused, e)) = absurd (cc)
faithful_auto_fill pieces schema force edit elements is (records, are, inr (given, found, same)) =
    subst (IsFaithful pieces schema auto_fill) (sym (same_value edit (made_of None (λ k. true) (λ k. filled (fields_at given k)) pieces records) same))
    (filling_is_faithful pieces schema elements is records are given found)
