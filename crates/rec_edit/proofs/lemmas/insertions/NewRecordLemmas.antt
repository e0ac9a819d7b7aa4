-- The fields of a new record, the automatic ones too: they can be written, and each record is one of its own.
use Rattle.std.proofs.Common.{◌≡◌, ℕ, zero, suc, ℤ, pos, negsuc, ◌+◌, ◌<◌, ◌≤◌, ◌/◌, ◌%◌, Bool, true, false, not, ◌==◌, List, [], ◌∷◌, ◌++◌, map, Option, Some, None, Result, Ok, refl, sym}
use Rattle.std.proofs.Common.{subst, inl, inr, arith, ◌∙◌, length, ap}
use Rattle.std.specs.Prelude.{codes, flat_map, nat_lt, position, slice_get, filter, option_to_list}
use Rattle.std.specs.List.{AllByRecursion, AllZip, cons_option, list_all, list_any}
use Rattle.std.specs.Str.{bytes_eq}
use Rattle.std.specs.Fmt.{digits, digits_onto, digit_glyph, decimal, signed_decimal}
use Rattle.std.specs.Option.{is_some}
use Rattle.std.proofs.lemmas.Option.{slice_get_cases}
use Rattle.std.proofs.lemmas.Bool.{cases_Bool, cond_both, false≢true, and_parts, and_from, or_cases, ne_eqb, ltb-false, or_from}
use Rattle.std.specs.declared.ops.Range.{Range}
use Rattle.std.proofs.lemmas.List.{length-append, length-map}
use Rattle.rec_text.specs.declared.fault.Fault.{Fault}
use Rattle.rec_text.specs.Bytes.{begins_name, continues_name, is_letter, is_among}
use Rattle.rec_text.specs.Canonical.{is_plain_name, is_field_name, is_foldable}
use Rattle.rec_text.specs.Elements.{Piece, name_of, has_name}
use Rattle.rec_text.specs.Records.{elements_in, is_blank_piece, is_field_piece}
use Rattle.rec_text.specs.Values.{value_of}
use Rattle.rec_sex.specs.Meaning.{values_of}
use Rattle.rec_check.specs.Automatic.{automatic_names, automatic_of, is_counter, may_count, IsAutomatic}
use Rattle.rec_check.specs.Descriptors.{bad_unless, type_of, rec_name}
use Rattle.rec_check.specs.Rules.{Rules, AreRules, field_type}
use Rattle.rec_check.specs.Schemas.{Described, IsSchema}
use Rattle.rec_check.specs.Sets.{is_of_type}
use Rattle.rec_check.specs.Words.{words, distinct}
use Rattle.rec_text.proofs.lemmas.FaultLemmas.{same_value}
use Rattle.rec_text.proofs.lemmas.StepLemmas.{Then-ok}
use Rattle.rec_edit.specs.Rules.{canonical, fields_of}
use Rattle.rec_edit.specs.Insertions.{Numbered, numbered_fields}
use Rattle.rec_edit.specs.Automatic.{AreNumbered, AreAutomatic, lacking}
use Rattle.rec_check.specs.Soundness.{says}
use Rattle.rec_edit.specs.Task.{Pair, NewRecord, of_pairs, of_text}
use Rattle.rec_edit.specs.Wording.{ArePairs, IsNewRecord, pairs_of, some_pairs, if_writable}
use Rattle.rec_edit.specs.Effect.{from_field}
use Rattle.rec_text.proofs.lemmas.ListLemmas.{AllByRecursion-weaker, AllByRecursion-slice_get, same_bytes, AllByRecursion-append}
use Rattle.rec_check.proofs.lemmas.descriptors.FlawLemmas.{own_flaw}
use Rattle.rec_check.proofs.lemmas.laws.SameDescriptorLemmas.{schema_apart}
use Rattle.rec_check.proofs.lemmas.laws.SoundLemmas.{AreSound, AreSound-heads, heads, new_type}
use Rattle.rec_edit.proofs.lemmas.scripts.LaidLemmas.{closed-neat}
use Rattle.rec_edit.proofs.lemmas.layouts.NeatLemmas.{AllByRecursion-filter, canonical_neat}
use Rattle.rec_edit.proofs.lemmas.scripts.WellFormedLemmas.{IsClosed, canonical_is_closed}
use Rattle.rec_text.proofs.lemmas.values.CanonicalLemmas.{is_field-field_of, value_of-field_of}
use Rattle.rec_text.proofs.lemmas.values.ValueLemmas.{passes_apart}
use Rattle.rec_edit.proofs.lemmas.records.TypedRecordLemmas.{type_of-none, kept-field, up_to_field, kept}
use Rattle.rec_edit.proofs.lemmas.layouts.NameLemmas.{plain_canonical}
use Rattle.rec_edit.proofs.lemmas.outcomes.OutcomeLemmas.{IsWritten, written_by}
use Rattle.rec_edit.proofs.lemmas.records.FitLemmas.{Cut, Cut-AreRecords, IsOwn}

-- ---- the automatic fields that an edit puts in: their names are plain, and their numbers can be written

-- ---- the names that a descriptor gives

-- a letter or `%`, and what a name goes on with
abbrev pub IsFieldName : List ℕ → Type 0
IsFieldName name = is_field_name name ≡ true

abbrev auto_name : List ℕ
auto_name = codes "%auto"

AllByRecursion-distinct : (P : List ℕ → Type 0) (names : List (List ℕ)) → AllByRecursion P names → AllByRecursion P (distinct names)
AllByRecursion-distinct P [] all = tt
AllByRecursion-distinct P (name ∷ names) all =
    (all.0, AllByRecursion-filter P (λ other. not (bytes_eq name other)) (distinct names) (AllByRecursion-distinct P names all.1))

all_field_names : (names : List (List ℕ)) → list_all is_field_name names ≡ true → AllByRecursion IsFieldName names
all_field_names [] all = tt
all_field_names (name ∷ names) all =
    let parts = and_parts (is_field_name name) (list_all is_field_name names) all in
    (parts.0, all_field_names names parts.1)

unless_sound : (sound : Bool) → bad_unless sound ≡ None → sound ≡ true
unless_sound true none = refl
unless_sound false none = absurd (cc)

-- no `%auto` field gives a word that is no name of a field
abbrev AreNames : List Piece → Type 0
AreNames own = (k : ℕ) (piece : Piece) → slice_get own k ≡ Some piece → bytes_eq (name_of piece) auto_name ≡ true → list_all is_field_name (words (value_of piece)) ≡ true

sound_names : (named : List (List ℕ)) (own : List Piece) → is_some (type_of own) ≡ true → ((k : ℕ) → own_flaw named own k ≡ None) → AreNames own
sound_names named own typed sound k piece at is =
    let name : name_of piece ≡ auto_name = same_bytes (name_of piece) auto_name is in
    unless_sound (list_all is_field_name (words (value_of piece))) (rw (typed, at, name) at (sound k))

names_of_values : (own : List Piece) → AreNames own → AllByRecursion IsFieldName (flat_map words (values_of auto_name own))
names_of_values [] are = tt
names_of_values (piece ∷ own) are =
    let more = names_of_values own (λ k field at is. are (suc k) field at is) in
    cond_both (bytes_eq (name_of piece) auto_name) (value_of piece ∷ values_of auto_name own) (values_of auto_name own) (λ values. AllByRecursion IsFieldName (flat_map words values))
    (λ is. AllByRecursion-append IsFieldName (words (value_of piece)) (flat_map words (values_of auto_name own)) (all_field_names (words (value_of piece)) (are 0 piece refl is)) more)
    (λ _. more)

-- ---- the automatic names of a schema

abbrev HaveNames : Rules → Type 0
HaveNames rules = AllByRecursion IsFieldName rules.automatic

heads_are_typed : (owns : List (List Piece)) → AllByRecursion (λ own. is_some (type_of own) ≡ true) (heads owns)
heads_are_typed [] = tt
heads_are_typed (own ∷ owns) =
    cond_both (is_some (type_of own)) (own ∷ heads owns) (heads owns) (AllByRecursion (λ own. is_some (type_of own) ≡ true)) (λ typed. (typed, heads_are_typed owns)) (λ _. heads_are_typed owns)

rules_give_names : (named : List (List ℕ)) (owns : List (List Piece)) (rules : List Rules) → AllByRecursion (λ own. is_some (type_of own) ≡ true) owns → AreSound named owns
    → AllZip AreRules owns rules
    → AllByRecursion HaveNames rules
rules_give_names named [] [] typed sound asked = tt
rules_give_names named [] (one ∷ rules) typed sound asked = absurd asked
rules_give_names named (own ∷ owns) [] typed sound asked = absurd asked
rules_give_names named (own ∷ owns) (one ∷ rules) typed sound asked = (
  subst (AllByRecursion IsFieldName) (sym asked.0.automatic) (names_of_values own (sound_names named own typed.0 sound.0)),
  rules_give_names (named ++ cons_option (type_of own) []) owns rules typed.1 sound.1 asked.1,
)

abbrev pub GivesFields : Rules → Type 0
GivesFields rules = AllByRecursion IsFieldName (automatic_names rules)

-- the automatic names of the sets are names of fields
pub automatic_are_fields : (pieces : List Piece) (schema : Described) → IsSchema pieces (Ok schema) → AllByRecursion GivesFields schema.rules
automatic_are_fields pieces schema is =
    let apart = schema_apart pieces is.records schema is.are is in
    let owns : List (List Piece) = map (elements_in pieces) is.records in
    let all : AllByRecursion HaveNames apart.rules = rules_give_names [] (heads owns) apart.rules (heads_are_typed owns) (AreSound-heads [] owns apart.sound) apart.asked in
    AllByRecursion-weaker HaveNames GivesFields (λ rules names. AllByRecursion-distinct IsFieldName rules.automatic names) schema.rules
    (subst (AllByRecursion HaveNames) (sym apart.given.rules_are) (tt, all))

-- a counter's name is plain
pub counter_is_plain : (rules : Rules) (name : List ℕ) → is_field_name name ≡ true → is_counter rules name ≡ true → is_plain_name name ≡ true
counter_is_plain rules [] named counts = absurd (false≢true named)
counter_is_plain rules (b ∷ bs) named counts = elim (cases_Bool (begins_name b)) [
  | inr other ↦ absurd (false≢true (rw other at named))
  | inl begins ↦
      let rest : list_all continues_name bs ≡ true = rw begins at named in
      let counter = and_parts (not (b == 37)) (may_count (field_type rules (b ∷ bs))) counts in
      elim (or_cases (is_letter b) (b == 37) begins) [
        | inl letter ↦ and_from (is_letter b) (list_all continues_name bs) letter rest
        | inr special ↦ absurd (false≢true (rw special at counter.0))
      ]
]

-- ---- numbers that are given

-- what holds of each name for which a number is given
pub numbered_all : (P Q : List ℕ → Type 0) (next : List ℕ → Result ℤ Fault → Type 0) → ((name : List ℕ) (number : ℤ) → P name → next name (Ok number) → Q name)
    → (names : List (List ℕ)) (given : List Numbered) → AllByRecursion P names → AreNumbered next names (Ok given) → AllByRecursion (λ one. Q one.name) given
numbered_all P Q next each [] given all are = subst (AllByRecursion (λ one. Q one.name)) (sym (same_value given [] are)) tt
numbered_all P Q next each (name ∷ names) given all (inl (fault, refused, e)) = absurd (cc)
numbered_all P Q next each (name ∷ names) given all (inr (number, found, inl (fault, refused, e))) = absurd (cc)
numbered_all P Q next each (name ∷ names) given all (inr (number, found, inr (more, are, same))) =
    subst (AllByRecursion (λ one. Q one.name)) (sym (same_value given (record { name = name; number = number } ∷ more) same))
    (each name number all.0 found, numbered_all P Q next each names more all.1 are)

-- ---- numbers as text

-- neither a newline nor a backslash
abbrev IsOrdinary : ℕ → Type 0
IsOrdinary b = ((b == 10) ≡ false) × ((b == 92) ≡ false)

ordinary_is_foldable : (before : ℕ) (bs : List ℕ) → (before == 92) ≡ false → AllByRecursion IsOrdinary bs → is_foldable before bs ≡ true
ordinary_is_foldable before [] other all = rw other refl
ordinary_is_foldable before (b ∷ bs) other all = rw (all.0.0) (ordinary_is_foldable b bs all.0.1 all.1)

glyph_is_ordinary : (d : ℕ) → d < 10 → IsOrdinary (digit_glyph false d)
glyph_is_ordinary d low =
    cond_both (nat_lt d 10) (48 + d) (87 + d) IsOrdinary (λ _. (ne_eqb (48 + d) 10 (λ e. omega arith), ne_eqb (48 + d) 92 (λ e. omega arith)))
    (λ high. absurd (let le : 10 ≤ d = ltb-false d 10 high in omega arith))

digits_are_ordinary : (k n : ℕ) (following : List ℕ) → AllByRecursion IsOrdinary following → AllByRecursion IsOrdinary (digits_onto k 10 false n following)
digits_are_ordinary zero n following all = all
digits_are_ordinary (suc k) n following all =
    let glyph : ℕ = digit_glyph false (n % 10) in
    let here : AllByRecursion IsOrdinary (glyph ∷ following) = (glyph_is_ordinary (n % 10) (omega arith), all) in
    cond_both (n / 10 == 0) (glyph ∷ following) (digits_onto k 10 false (n / 10) (glyph ∷ following)) (AllByRecursion IsOrdinary) (λ _. here)
    (λ _. digits_are_ordinary k (n / 10) (glyph ∷ following) here)

decimal_is_ordinary : (n : ℕ) → AllByRecursion IsOrdinary (decimal n)
unfolding digits
decimal_is_ordinary n = digits_are_ordinary 64 n [] tt

pub number_is_foldable : (number : ℤ) → is_foldable 32 (signed_decimal number) ≡ true
number_is_foldable (pos n) = ordinary_is_foldable 32 (decimal n) refl (decimal_is_ordinary n)
number_is_foldable (negsuc n) = ordinary_is_foldable 45 (decimal (suc n)) refl (decimal_is_ordinary (suc n))

-- ---- a new record

automatic_at : (schema : Described) (place : ℕ) → AllByRecursion GivesFields schema.rules → AllByRecursion IsFieldName (automatic_of schema place)
automatic_at schema place all = elim (slice_get_cases schema.rules place).1 [
  | inl (rules, within, at, same) ↦ rw at (AllByRecursion-slice_get GivesFields schema.rules place rules all at)
  | inr (past, at) ↦ rw at tt
]

-- the automatic fields of a new record have plain names
pub automatic_are_plain : (pieces : List Piece) (schema : Described) (record_type : Option (List ℕ)) (auto : Bool) (names : List (List ℕ)) (given : List Numbered) → IsSchema pieces (Ok schema)
    → AreAutomatic pieces schema record_type auto names (Ok given) → AllByRecursion (λ one. is_plain_name one.name ≡ true) given
automatic_are_plain pieces schema None auto names given is are = subst (AllByRecursion (λ one. is_plain_name one.name ≡ true)) (sym (same_value given [] are)) tt
automatic_are_plain pieces schema (Some record_type) false names given is are = subst (AllByRecursion (λ one. is_plain_name one.name ≡ true)) (sym (same_value given [] are)) tt
automatic_are_plain pieces schema (Some record_type) true names given is are = by_place (position (is_of_type record_type) schema.sets) are
  where
    by_place : (place : Option ℕ) → elim place as (λ _. Type 0) [
      | None ↦ ◌≡◌ {A = Result (List Numbered) Fault} (Ok given) (Ok [])
      | Some place ↦ AreNumbered (IsAutomatic pieces schema place) (lacking (automatic_of schema place) names) (Ok given)
    ] → AllByRecursion (λ one. is_plain_name one.name ≡ true) given
    by_place None none = subst (AllByRecursion (λ one. is_plain_name one.name ≡ true)) (sym (same_value given [] none)) tt
    by_place (Some place) numbered =
        let fields : AllByRecursion IsFieldName (automatic_of schema place) =
        automatic_at schema place (automatic_are_fields pieces schema is) in
        numbered_all IsFieldName (λ name. is_plain_name name ≡ true) (IsAutomatic pieces schema place) (λ name number named next. counter_is_plain next.rules name named next.next.0)
        (lacking (automatic_of schema place) names) given
        (AllByRecursion-filter IsFieldName (λ name. not (is_among names name)) (automatic_of schema place) fields) numbered

-- ---- the fields of a new record, and the descriptor of a new set: they can be written, and each is a record of its own

-- ---- fields that can be written

-- a canonical field, with a name and a value that can be written
pub record IsWritable (piece : Piece) : Type 0 where
  pub name : List ℕ
  pub value : List ℕ
  pub is : piece ≡ canonical name value
  pub plain : is_plain_name name ≡ true
  pub foldable : is_foldable 32 value ≡ true

writable_field : (piece : Piece) → IsWritable piece → is_field_piece piece ≡ true
writable_field piece can = ap is_field_piece can.is

pub writable_lines : (fields : List Piece) → AllByRecursion IsWritable fields → AllByRecursion IsClosed fields
writable_lines [] all = tt
writable_lines (piece ∷ fields) all = (subst IsClosed (sym all.0.is) (canonical_is_closed all.0.name all.0.value all.0.plain all.0.foldable), writable_lines fields all.1)

up_to_field-writable : (fields : List Piece) → AllByRecursion IsWritable fields → up_to_field fields ≡ fields
up_to_field-writable [] all = refl
up_to_field-writable (piece ∷ fields) all = ap (kept piece) (up_to_field-writable fields all.1) ∙ kept-field piece fields (writable_field piece all.0)

none_blank : (fields : List Piece) → AllByRecursion IsWritable fields → list_any is_blank_piece fields ≡ false
none_blank [] all = refl
none_blank (piece ∷ fields) all = or_from (is_blank_piece piece) (list_any is_blank_piece fields) (ap is_blank_piece all.0.is) (none_blank fields all.1)

from_field-writable : (fields : List Piece) → AllByRecursion IsWritable fields → from_field fields ≡ fields
from_field-writable [] all = refl
from_field-writable (piece ∷ fields) all = rw (writable_field piece all.0) refl

pub IsOwn-writable : (fields : List Piece) → 0 < length fields → AllByRecursion IsWritable fields → IsOwn fields
IsOwn-writable fields some all = record {
  some = some;
  first = from_field-writable fields all;
  last = up_to_field-writable fields all;
  full = none_blank fields all;
}

none_rec : (fields : List Piece) → AllByRecursion IsWritable fields → list_any (has_name rec_name) fields ≡ false
none_rec [] all = refl
none_rec (piece ∷ fields) all =
    or_from (has_name rec_name piece) (list_any (has_name rec_name) fields) (ap (has_name rec_name) all.0.is ∙ plain_canonical all.0.name all.0.value all.0.plain) (none_rec fields all.1)

-- they name no type
pub type_of-writable : (fields : List Piece) → AllByRecursion IsWritable fields → type_of fields ≡ None
type_of-writable fields all = type_of-none fields (none_rec fields all)

-- ---- the descriptor of a new set

abbrev pub descriptor : List ℕ → Piece
descriptor record_type = canonical rec_name record_type

foldable_from : (before : ℕ) (bs : List ℕ) → (before == 92) ≡ false → list_all continues_name bs ≡ true → is_foldable before bs ≡ true
foldable_from before [] apart all = rw apart refl
foldable_from before (b ∷ bs) apart all =
    let parts = and_parts (continues_name b) (list_all continues_name bs) all in
    rw (passes_apart continues_name b 10 parts.0 refl) (foldable_from b bs (passes_apart continues_name b 92 parts.0 refl) parts.1)

plain_foldable : (name : List ℕ) → is_plain_name name ≡ true → is_foldable 32 name ≡ true
plain_foldable [] plain = refl
plain_foldable (b ∷ bs) plain =
    let parts = and_parts (is_letter b) (list_all continues_name bs) plain in
    rw (passes_apart is_letter b 10 parts.0 refl) (foldable_from b bs (passes_apart is_letter b 92 parts.0 refl) parts.1)

-- after the colon it stands as after that of any other name
abbrev other_name : List ℕ
other_name = codes "r"

module _ (record_type : List ℕ) (plain : is_plain_name record_type ≡ true) where
  pub descriptor_is_line : IsClosed (descriptor record_type)
  descriptor_is_line = record {
    element = is_field-field_of other_name record_type refl (plain_foldable record_type plain);
    ends = closed-neat (descriptor record_type) (canonical_neat rec_name record_type);
  }

  pub descriptor_says : map says (descriptor record_type ∷ []) ≡ (rec_name, record_type) ∷ []
  descriptor_says = ap (λ value. (rec_name, value) ∷ []) (value_of-field_of other_name record_type refl (plain_foldable record_type plain))

  pub type_of-descriptor : type_of (descriptor record_type ∷ []) ≡ Some record_type
  type_of-descriptor = new_type record_type (descriptor record_type ∷ []) descriptor_says plain

pub IsOwn-descriptor : (record_type : List ℕ) → IsOwn (descriptor record_type ∷ [])
IsOwn-descriptor record_type = record { some = omega arith; first = refl; last = refl; full = refl }

-- ---- the fields of a new record

from_field-shorter : (pieces : List Piece) → length (from_field pieces) ≤ length pieces
from_field-shorter [] = omega arith
from_field-shorter (piece ∷ pieces) = elim (cases_Bool (is_field_piece piece)) [
  | inl field ↦ rw field (omega arith)
  | inr other ↦ rw other (omega (arith, from_field-shorter pieces))
]

-- a record has a field
some_field : (own : List Piece) → IsOwn own → 0 < length (filter is_field_piece own)
some_field [] is = is.some
some_field (piece ∷ own) is = elim (cases_Bool (is_field_piece piece)) [
  | inl field ↦ rw field (omega arith)
  | inr other ↦ absurd (let sizes : length (from_field own) ≡ suc (length own) = ap length (rw other at is.first) in omega (arith, sizes, from_field-shorter own))
]

abbrev pair_of : Piece → Pair
pair_of field = record { name = name_of field; value = value_of field }

length-pairs_of : (pieces : List Piece) (records : List (Range ℕ)) (r : Range ℕ) → Cut pieces false 0 (r ∷ records) → 0 < length (pairs_of (elements_in pieces r))
length-pairs_of pieces records r (low, some, within, none, between, own, more) = omega (arith, some_field (elements_in pieces r) own, length-map (filter is_field_piece (elements_in pieces r)) pair_of)

some_given : (given pairs : List Pair) → ◌≡◌ {A = Result (List Pair) Fault} (Ok pairs) (some_pairs given) → 0 < length pairs
some_given [] pairs is = absurd (cc)
some_given (pair ∷ given) pairs is = let same : pairs ≡ pair ∷ given = cc in subst (λ ps. 0 < length ps) (sym same) (omega arith)

pairs_there : (fresh : NewRecord) (pairs : List Pair) → ArePairs fresh (Ok pairs) → 0 < length pairs
pairs_there (of_pairs given) pairs are = some_given given pairs are
pairs_there (of_text bytes) pairs (pieces, r, elements, are, same) =
    subst (λ (ps : List Pair). 0 < length ps) (sym same) (length-pairs_of pieces [] r (Cut-AreRecords pieces (r ∷ []) are))

fields_of-writable : (pairs : List Pair) → list_all is_plain_name (map (λ pair. pair.name) pairs) ≡ true → list_all (is_foldable 32) (map (λ pair. pair.value) pairs) ≡ true
    → AllByRecursion IsWritable (fields_of pairs)
fields_of-writable [] names values = tt
fields_of-writable (pair ∷ pairs) names values =
    let name = and_parts (is_plain_name pair.name) (list_all is_plain_name (map (λ p. p.name) pairs)) names in
    let value = and_parts (is_foldable 32 pair.value) (list_all (is_foldable 32) (map (λ p. p.value) pairs)) values in
    (record { name = pair.name; value = pair.value; is = refl; plain = name.0; foldable = value.0 }, fields_of-writable pairs name.1 value.1)

numbered-writable : (given : List Numbered) → AllByRecursion (λ one. is_plain_name one.name ≡ true) given → AllByRecursion IsWritable (numbered_fields given)
numbered-writable [] plain = tt
numbered-writable (one ∷ given) plain = (
  record { name = one.name; value = signed_decimal one.number; is = refl; plain = plain.0; foldable = number_is_foldable one.number },
  numbered-writable given plain.1,
)

-- the type, if one is given, is a name
abbrev pub IsPlainType : Option (List ℕ) → Type 0
IsPlainType None = Unit {0}
IsPlainType (Some record_type) = is_plain_name record_type ≡ true

type_apart : (record_type : Option (List ℕ)) (names : List (List ℕ)) → list_all is_plain_name (option_to_list record_type ++ names) ≡ true
    → IsPlainType record_type × (list_all is_plain_name names ≡ true)
type_apart None names all = (tt, all)
type_apart (Some record_type) names all = and_parts (is_plain_name record_type) (list_all is_plain_name names) all

-- the new record's fields can be written, and there is one
pub record CanBePutIn (record_type : Option (List ℕ)) (fields : List Piece) : Type 0 where
  pub plain : IsPlainType record_type
  pub some : 0 < length fields
  pub writable : AllByRecursion IsWritable fields

pub new_record_has_fields : (record_type : Option (List ℕ)) (fresh : NewRecord) (pairs : List Pair) → IsNewRecord record_type fresh (Ok pairs) → 0 < length pairs
new_record_has_fields record_type fresh pairs new =
    let found = Then-ok (ArePairs fresh)
    (λ pairs answer. answer ≡ if_writable (option_to_list record_type ++ map (λ pair. pair.name) pairs) (map (λ pair. pair.value) pairs) pairs) pairs new in
    let given : List Pair = found.0 in
    let can : IsWritten (option_to_list record_type ++ map (λ pair. pair.name) given) (map (λ pair. pair.value) given) given pairs =
    written_by (option_to_list record_type ++ map (λ pair. pair.name) given) (map (λ pair. pair.value) given) given pairs _ _ refl refl found.2 in
    subst (λ (ps : List Pair). 0 < length ps) (sym can.same) (pairs_there fresh given found.1)

pub new_record_can_be_put_in : (pieces : List Piece) (schema : Described) (record_type : Option (List ℕ)) (fresh : NewRecord) (auto : Bool) (pairs : List Pair) (automatic : List Numbered)
    → IsSchema pieces (Ok schema)
    → IsNewRecord record_type fresh (Ok pairs) → AreAutomatic pieces schema record_type auto (map (λ pair. pair.name) pairs) (Ok automatic)
    → CanBePutIn record_type (numbered_fields automatic ++ fields_of pairs)
new_record_can_be_put_in pieces schema record_type fresh auto pairs automatic is new numbered =
    let found = Then-ok (ArePairs fresh)
    (λ pairs answer. answer ≡ if_writable (option_to_list record_type ++ map (λ pair. pair.name) pairs) (map (λ pair. pair.value) pairs) pairs) pairs new in
    let given : List Pair = found.0 in
    let can : IsWritten (option_to_list record_type ++ map (λ pair. pair.name) given) (map (λ pair. pair.value) given) given pairs =
    written_by (option_to_list record_type ++ map (λ pair. pair.name) given) (map (λ pair. pair.value) given) given pairs _ _ refl refl found.2 in
    let names = type_apart record_type (map (λ pair. pair.name) given) can.names_are in
    let own : AllByRecursion IsWritable (fields_of pairs) = subst (λ ps. AllByRecursion IsWritable (fields_of ps)) (sym can.same) (fields_of-writable given names.1 can.values_are) in
    let count : 0 < length pairs = new_record_has_fields record_type fresh pairs new in
    record {
      plain = names.0;
      some = omega (arith, count, length-append (numbered_fields automatic) (fields_of pairs), length-map pairs (λ pair. canonical pair.name pair.value));
      writable = AllByRecursion-append IsWritable (numbered_fields automatic) (fields_of pairs)
          (numbered-writable automatic (automatic_are_plain pieces schema record_type auto (map (λ pair. pair.name) pairs) automatic is numbered)) own;
    }
