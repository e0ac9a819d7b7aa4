-- Where a new record is put in: as the last record of its set, or after a new descriptor at the end.
use Rattle.std.proofs.Common.{◌≡◌, ◌∙◌, suc, ◌-◌, Bool, true, false, not, List, [], ◌∷◌, ◌++◌, ◌⊎◌, length, take, drop, refl, ap, ap₂, sym, inl, inr, arith, ℕ, zero, ◌+◌, ◌<◌, ◌≤◌, Some, map, subst}
use Rattle.std.proofs.Common.{Option, None}
use Rattle.std.specs.Prelude.{reverse, slice_get, if◌then◌else◌, find, flat_map, nat_lt, option_and_then}
use Rattle.std.specs.List.{list_any, prefix_len, AllByRecursion}
use Rattle.std.proofs.Math.Numerals.{one-add}
use Rattle.std.proofs.lemmas.Bool.{cases_Bool, false≢true, or_from, or_parts, cond_both}
use Rattle.std.proofs.lemmas.List.{append_assoc, append-nil, reverse-append, length-append, length-drop, length-map, length-reverse, length-take-le, reverse-reverse, take-append-drop}
use Rattle.std.specs.declared.ops.Range.{Range}
use Rattle.std.proofs.lemmas.List.Folds.{length-prefix_len}
use Rattle.std.proofs.lemmas.Option.{slice_get_within, slice_get_cases}
use Rattle.std.specs.Option.{option_map_or}
use Rattle.rec_text.specs.Elements.{Piece}
use Rattle.rec_text.specs.Records.{is_blank_piece, is_field_piece, is_full_at, AreRecords, elements_in}
use Rattle.rec_text.proofs.lemmas.ListLemmas.{AllByRecursion-append}
use Rattle.rec_edit.specs.Effect.{from_field, TypedRecord, put_at, with_new}
use Rattle.rec_edit.specs.Insertions.{is_full, paragraph_start, paragraph_end, at_end, Insertion, before_paragraph, after_paragraph, last_of, range_of, typed_insertion, untyped_insertion}
use Rattle.rec_edit.specs.Rules.{empty_line}
use Rattle.rec_check.specs.declared.set.Set_.{Set_}
use Rattle.rec_check.specs.Descriptors.{type_of, types_of}
use Rattle.rec_check.specs.Sets.{is_of_type, named_in, AreSets}
use Rattle.rec_text.specs.Canonical.{is_plain_name}
use Rattle.rec_edit.proofs.lemmas.records.TypedRecordLemmas.{kept, with_own, open_of, done_of, own_of, own_of-shut, own_of-Spaced, own_of-gap, own_of-full, own_of-none, open_of-none, Spaced-shut}
use Rattle.rec_edit.proofs.lemmas.records.FitLemmas.{Cut, Cut-AreRecords, Cut-Spaced, IsOwn, between_fields-own, closes-Cut, own_of-records, with_own-some}
use Rattle.rec_check.proofs.lemmas.DescribedLemmas.{sets_within}
use Rattle.rec_edit.proofs.lemmas.records.MemberLemmas.{Named, end_of, IsSetOf, IsUntypedSet, begins_typed, set_found, last_type, untyped_set}
use Rattle.rec_edit.proofs.lemmas.insertions.NewRecordLemmas.{IsOwn-descriptor, descriptor, descriptor_is_line}
use Rattle.rec_edit.proofs.lemmas.scripts.WellFormedLemmas.{IsClosed}

-- ---- places where the records of some elements fall apart: after a blank element, and before one

-- ---- before a blank element

with_own-append : (own : List Piece) (owns more : List (List Piece)) → with_own own (owns ++ more) ≡ with_own own owns ++ more
with_own-append [] owns more = refl
with_own-append (piece ∷ own) owns more = refl

open_of-append : (prefix following : List Piece) → open_of following ≡ [] → open_of (prefix ++ following) ≡ open_of prefix
open_of-append [] following shut = shut
open_of-append (piece ∷ prefix) following shut = elim (cases_Bool (is_blank_piece piece)) [
  | inl blank ↦ rw blank refl
  | inr full ↦ rw full (ap (kept piece) (open_of-append prefix following shut))
]

done_of-append : (prefix following : List Piece) → open_of following ≡ [] → done_of (prefix ++ following) ≡ done_of prefix ++ own_of following
done_of-append [] following shut = sym (own_of-shut following shut)
done_of-append (piece ∷ prefix) following shut = elim (cases_Bool (is_blank_piece piece)) [
  | inl blank ↦ rw blank (
      ap₂ (λ begun done. with_own (from_field begun) done) (open_of-append prefix following shut) (done_of-append prefix following shut)
      ∙ with_own-append (from_field (open_of prefix)) (done_of prefix) (own_of following)
      )
  | inr full ↦ rw full (done_of-append prefix following shut)
]

-- no record is open after the border
pub own_of-append : (prefix following : List Piece) → open_of following ≡ [] → own_of (prefix ++ following) ≡ own_of prefix ++ own_of following
own_of-append prefix following shut =
    ap₂ (λ begun done. with_own (from_field begun) done) (open_of-append prefix following shut) (done_of-append prefix following shut)
    ∙ with_own-append (from_field (open_of prefix)) (done_of prefix) (own_of following)

-- there is no first element that isn't blank
abbrev pub begins_blank : List Piece → Bool
begins_blank [] = true
begins_blank (piece ∷ pieces) = is_blank_piece piece

pub open_of-begins_blank : (pieces : List Piece) → begins_blank pieces ≡ true → open_of pieces ≡ []
open_of-begins_blank [] blank = refl
open_of-begins_blank (piece ∷ pieces) blank = rw blank refl

own_of-blank : (piece : Piece) (pieces : List Piece) → is_blank_piece piece ≡ true → own_of (piece ∷ pieces) ≡ own_of pieces
own_of-blank piece pieces blank = rw blank refl

-- ---- after a blank element

-- there is no last element, or it is blank
abbrev pub EndsBlank : List Piece → Type 0
EndsBlank pieces = (pieces ≡ []) ⊎ ((prefix : List Piece) × (last : Piece) × (pieces ≡ prefix ++ last ∷ []) × (is_blank_piece last ≡ true))

pub own_of-after_blank : (prefix following : List Piece) → EndsBlank prefix → own_of (prefix ++ following) ≡ own_of prefix ++ own_of following
own_of-after_blank prefix following (inl none) = ap (λ l. own_of (l ++ following)) none ∙ sym (ap (λ l. own_of l ++ own_of following) none)
own_of-after_blank prefix following (inr (before, last, is, blank)) =
    let here : own_of (before ++ last ∷ []) ≡ own_of before =
    own_of-append before (last ∷ []) (open_of-begins_blank (last ∷ []) blank) ∙ ap (λ l. own_of before ++ l) (own_of-blank last [] blank) ∙ append-nil (own_of before) in
    ap (λ l. own_of (l ++ following)) is ∙ ap own_of (append_assoc before (last ∷ []) following)
    ∙ own_of-append before (last ∷ following) (open_of-begins_blank (last ∷ following) blank) ∙ ap (λ l. own_of before ++ l) (own_of-blank last following blank)
    ∙ sym (ap (λ l. own_of l ++ own_of following) is ∙ ap (λ l. l ++ own_of following) here)

not_blank : (b : Bool) → not b ≡ false → b ≡ true
not_blank true e = refl
not_blank false e = absurd (false≢true (sym e))

EndsBlank-cons : (piece next : Piece) (pieces : List Piece) → EndsBlank (next ∷ pieces) → EndsBlank (piece ∷ next ∷ pieces)
EndsBlank-cons piece next pieces (inl none) = let no : ⊥ = cc in absurd no
EndsBlank-cons piece next pieces (inr (prefix, last, is, blank)) = inr (piece ∷ prefix, last, ap (λ l. piece ∷ l) is, blank)

-- where the last element is no full one
pub EndsBlank-last : (pieces : List Piece) → is_full_at pieces (length pieces - 1) ≡ false → EndsBlank pieces
EndsBlank-last [] none = inl refl
EndsBlank-last (piece ∷ []) none = inr ([], piece, refl, not_blank (is_blank_piece piece) none)
EndsBlank-last (piece ∷ next ∷ pieces) none =
    let place : length (piece ∷ next ∷ pieces) - 1 ≡ suc (length (next ∷ pieces) - 1) = omega arith in
    EndsBlank-cons piece next pieces (EndsBlank-last (next ∷ pieces) (sym (ap (is_full_at (piece ∷ next ∷ pieces)) place) ∙ none))

-- ---- the full elements that come first

pub begins_blank-following : (pieces : List Piece) → begins_blank (drop (prefix_len is_full pieces) pieces) ≡ true
begins_blank-following [] = refl
begins_blank-following (piece ∷ pieces) = elim (cases_Bool (is_blank_piece piece)) [
  | inl blank ↦ rw blank blank
  | inr full ↦ rw (full, one-add) (begins_blank-following pieces)
]

no_field-kept : (piece : Piece) (pieces : List Piece) → kept piece pieces ≡ [] → (is_field_piece piece ≡ false) × (pieces ≡ [])
no_field-kept piece [] none = elim (cases_Bool (is_field_piece piece)) [
  | inl field ↦ absurd (let clash = rw field at none in cc)
  | inr other ↦ (other, refl)
]
no_field-kept piece (next ∷ pieces) none = absurd (cc)

-- where no record is open, no field is among them
pub no_field-full : (pieces : List Piece) → open_of pieces ≡ [] → list_any is_field_piece (take (prefix_len is_full pieces) pieces) ≡ false
no_field-full [] shut = refl
no_field-full (piece ∷ pieces) shut = elim (cases_Bool (is_blank_piece piece)) [
  | inl blank ↦ rw blank refl
  | inr full ↦
      let parts = no_field-kept piece (open_of pieces) (rw full at shut) in
      rw (full, one-add) (or_from (is_field_piece piece) (list_any is_field_piece (take (prefix_len is_full pieces) pieces)) parts.0 (no_field-full pieces parts.1))
]

-- ---- the full elements that come last

pub EndsBlank-reverse : (pieces : List Piece) → begins_blank pieces ≡ true → EndsBlank (reverse pieces)
EndsBlank-reverse [] blank = inl refl
EndsBlank-reverse (piece ∷ pieces) blank = inr (reverse pieces, piece, reverse-append (piece ∷ []) pieces, blank)

-- ---- the records of a text, where elements are put in at a border of it: after a paragraph, before one, or at the end

-- Elements are put in at a place. This many records stand before it, and those that are made stand between them and the others.
pub record IsPutIn (pieces new : List Piece) (place count : ℕ) (made : List (List Piece)) : Type 0 where
  pub prefix : List Piece
  pub following : List Piece
  pub parts : pieces ≡ prefix ++ following
  pub here : place ≡ length prefix
  pub counts : length (own_of prefix) ≡ count
  pub before : own_of pieces ≡ own_of prefix ++ own_of following
  pub after : own_of (prefix ++ (new ++ following)) ≡ own_of prefix ++ (made ++ own_of following)

-- a record before a border
pub own_first : (own rest : List Piece) → IsOwn own → open_of rest ≡ [] → own_of (own ++ rest) ≡ own ∷ own_of rest
own_first own rest is shut =
    own_of-full own rest is.full shut ∙ ap (λ made. with_own made (own_of rest)) (between_fields-own own is) ∙ with_own-some own (own_of rest) is.some

-- the cut after the record of an index
cut_at : (pieces : List Piece) (apart : Bool) (n : ℕ) (records : List (Range ℕ)) (i : ℕ) (r : Range ℕ) → Cut pieces apart n records → slice_get records i ≡ Some r
    → (r.end ≤ length pieces) × Cut pieces true r.end (drop (suc i) records)
cut_at pieces apart n [] i r cut at = let no : ⊥ = cc in absurd no
cut_at pieces apart n (q ∷ records) zero r (low, some, within, none, between, own, more) at =
    let same : q ≡ r = cc in
    (subst (λ (s : Range ℕ). s.end ≤ length pieces) same within, subst (λ (s : Range ℕ). Cut pieces true s.end records) same more)
cut_at pieces apart n (q ∷ records) (suc i) r (low, some, within, none, between, own, more) at = cut_at pieces true q.end records i r more at

-- no field stands before the first record
gap_before : (pieces : List Piece) (records : List (Range ℕ)) (r : Range ℕ) → Cut pieces false 0 records → slice_get records 0 ≡ Some r
    → (r.start ≤ length pieces) × (list_any is_field_piece (take r.start pieces) ≡ false)
gap_before pieces [] r cut at = let no : ⊥ = cc in absurd no
gap_before pieces (q ∷ records) r (low, some, within, none, between, own, more) at =
    let same : q ≡ r = cc in
    subst (λ (s : Range ℕ). (s.start ≤ length pieces) × (list_any is_field_piece (take s.start pieces) ≡ false)) same (omega arith, none)

no_field-prefix : (prefix following : List Piece) → list_any is_field_piece (prefix ++ following) ≡ false → list_any is_field_piece prefix ≡ false
no_field-prefix [] following none = refl
no_field-prefix (piece ∷ prefix) following none =
    let parts = or_parts (is_field_piece piece) (list_any is_field_piece (prefix ++ following)) none in
    rw (parts.0, no_field-prefix prefix following parts.1) refl

module _ (pieces : List Piece) where
  module _ (records : List (Range ℕ)) (are : AreRecords pieces records) (fields : List Piece) (is : IsOwn fields) where
    pub put_after : (i : ℕ) (r : Range ℕ) → slice_get records i ≡ Some r → IsPutIn pieces (empty_line ∷ fields) (paragraph_end pieces r.end) (suc i) (fields ∷ [])
    put_after i r at =
        let left : List (Range ℕ) = drop (suc i) records in
        let cut : (r.end ≤ length pieces) × Cut pieces true r.end left = cut_at pieces false 0 records i r (Cut-AreRecords pieces records are) at in
        let first : List Piece = take r.end pieces in
        let rest : List Piece = drop r.end pieces in
        let full : List Piece = take (prefix_len is_full rest) rest in
        let following : List Piece = drop (prefix_len is_full rest) rest in
        let spaced = Cut-Spaced pieces true r.end left cut.0 cut.1 in
        let shut : open_of rest ≡ [] = Spaced-shut rest (map (elements_in pieces) left) spaced in
        let later : own_of rest ≡ map (elements_in pieces) left = own_of-Spaced true rest (map (elements_in pieces) left) spaced ∙ closes-Cut pieces true r.end left cut.1 in
        let all : own_of pieces ≡ own_of first ++ own_of rest = ap own_of (sym (take-append-drop r.end pieces)) ∙ own_of-append first rest shut in
        let none : list_any is_field_piece full ≡ false = no_field-full rest shut in
        let prefix_is : own_of (first ++ full) ≡ own_of first =
        own_of-append first full (open_of-none full none) ∙ ap (λ l. own_of first ++ l) (own_of-none full none) ∙ append-nil (own_of first) in
        let rest_is : own_of rest ≡ own_of following = ap own_of (sym (take-append-drop (prefix_len is_full rest) rest)) ∙ own_of-gap full following none in
        let after_shut : open_of following ≡ [] = open_of-begins_blank following (begins_blank-following rest) in
        let total : length (own_of pieces) ≡ length records = ap length (sym (own_of-records pieces records are)) ∙ length-map records (elements_in pieces) in
        let total_is : length (own_of pieces) ≡ length (own_of first) + length (own_of rest) = ap length all ∙ length-append (own_of first) (own_of rest) in
        let later_is : length (own_of rest) ≡ length records - suc i = ap length later ∙ length-map left (elements_in pieces) ∙ length-drop (suc i) records in
        let some : i < length records = slice_get_within records i r at in
        record {
          prefix = first ++ full;
          following = following;
          parts = sym (take-append-drop r.end pieces) ∙ ap (λ l. first ++ l) (sym (take-append-drop (prefix_len is_full rest) rest)) ∙ sym (append_assoc first full following);
          here = omega (arith, length-append first full, length-take-le r.end pieces cut.0, length-prefix_len is_full rest);
          counts = ap length prefix_is ∙ omega (arith, total, total_is, later_is, some);
          before = all ∙ ap₂ (λ a b. a ++ b) (sym prefix_is) rest_is;
          after = own_of-append (first ++ full) (empty_line ∷ (fields ++ following)) refl ∙ ap (λ l. own_of (first ++ full) ++ l) (own_first fields following is after_shut);
        }

    pub put_before : (r : Range ℕ) → slice_get records 0 ≡ Some r → IsPutIn pieces (fields ++ empty_line ∷ []) (paragraph_start pieces r.start) 0 (fields ∷ [])
    put_before r at =
        let gap : (r.start ≤ length pieces) × (list_any is_field_piece (take r.start pieces) ≡ false) = gap_before pieces records r (Cut-AreRecords pieces records are) at in
        let first : List Piece = take r.start pieces in
        let n : ℕ = prefix_len is_full (reverse first) in
        let back : List Piece = drop n (reverse first) in
        let tail : List Piece = reverse (take n (reverse first)) in
        let following : List Piece = tail ++ drop r.start pieces in
        let first_is : first ≡ reverse back ++ tail =
        sym (reverse-reverse first) ∙ ap reverse (sym (take-append-drop n (reverse first))) ∙ reverse-append (take n (reverse first)) back in
        let parts : pieces ≡ reverse back ++ following =
        sym (take-append-drop r.start pieces) ∙ ap (λ l. l ++ drop r.start pieces) first_is ∙ append_assoc (reverse back) tail (drop r.start pieces) in
        let none : own_of (reverse back) ≡ [] = own_of-none (reverse back) (no_field-prefix (reverse back) tail (ap (list_any is_field_piece) (sym first_is) ∙ gap.1)) in
        let blank : EndsBlank (reverse back) = EndsBlank-reverse back (begins_blank-following (reverse first)) in
        record {
          prefix = reverse back;
          following = following;
          parts = parts;
          here = omega (arith, length-reverse back, length-drop n (reverse first), length-reverse first, length-take-le r.start pieces gap.0);
          counts = ap length none;
          before = ap own_of parts ∙ own_of-after_blank (reverse back) following blank;
          after = own_of-after_blank (reverse back) ((fields ++ empty_line ∷ []) ++ following) blank
              ∙ ap (λ l. own_of (reverse back) ++ own_of l) (append_assoc fields (empty_line ∷ []) following)
              ∙ ap (λ l. own_of (reverse back) ++ l) (own_first fields (empty_line ∷ following) is refl);
        }

  module _ (new : List Piece) (made : List (List Piece)) (makes : own_of new ≡ made) where
    own_of-at_end : (full : Bool) → is_full_at pieces (length pieces - 1) ≡ full → own_of (pieces ++ ((if full then empty_line ∷ new else new) ++ [])) ≡ own_of pieces ++ (made ++ [])
    own_of-at_end true full =
        own_of-append pieces (empty_line ∷ (new ++ [])) refl ∙ ap (λ l. own_of pieces ++ own_of l) (append-nil new) ∙ ap (λ l. own_of pieces ++ l) (makes ∙ sym (append-nil made))
    own_of-at_end false full =
        own_of-after_blank pieces (new ++ []) (EndsBlank-last pieces full) ∙ ap (λ l. own_of pieces ++ own_of l) (append-nil new)
        ∙ ap (λ l. own_of pieces ++ l) (makes ∙ sym (append-nil made))

    pub put_at_end : IsPutIn pieces (at_end pieces new).new (length pieces) (length (own_of pieces)) made
    put_at_end = record {
      prefix = pieces;
      following = [];
      parts = sym (append-nil pieces);
      here = refl;
      counts = refl;
      before = sym (append-nil (own_of pieces));
      after = own_of-at_end (is_full_at pieces (length pieces - 1)) refl;
    }

-- ---- where a new record is put in: as the last record of its set, or after a new descriptor at the end

found_or_not : {X : Type 0} (o : Option X) → (o ≡ None) ⊎ ((x : X) × (o ≡ Some x))
found_or_not None = inl refl
found_or_not (Some x) = inr (x, refl)

empty_is_line : IsClosed empty_line
empty_is_line = record { element = refl; ends = refl }

-- the records of a text, its sets, and the fields of a new record
module _ (pieces : List Piece) (records : List (Range ℕ)) (are : AreRecords pieces records) (sets : List Set_) (fields : List Piece) where
  -- the new record is the last one of its set
  pub record JoinsSet (record_type : Named) (insertion : Insertion) : Type 0 where
    pub count : ℕ
    pub put : IsPutIn pieces insertion.new insertion.place count (fields ∷ [])
    pub lines : AllByRecursion IsClosed insertion.new
    pub following : last_type None (take count (types_of pieces records)) ≡ record_type
    pub puts : (before : List TypedRecord) → with_new sets record_type fields before ≡ put_at count (record { record_type = record_type; own = fields } ∷ []) before

  -- it is the first one of a new set, after all records
  pub record OpensSet (record_type : List ℕ) (insertion : Insertion) : Type 0 where
    pub put : IsPutIn pieces insertion.new insertion.place (length (own_of pieces)) ((descriptor record_type ∷ []) ∷ fields ∷ [])
    pub lines : AllByRecursion IsClosed insertion.new
    pub absent : find (is_of_type record_type) sets ≡ None

  module _ (own : IsOwn fields) (written : AllByRecursion IsClosed fields) (are_sets : AreSets (types_of pieces records) sets) where
    -- ---- after the last record of a set that has one

    joins_after : (record_type : Named) (s : Set_) → IsSetOf record_type 0 None (types_of pieces records) s
        → ((before : List TypedRecord) → with_new sets record_type fields before ≡ put_at s.members.end (record { record_type = record_type; own = fields } ∷ []) before)
        → (r : Range ℕ) → slice_get records (s.members.end - 1) ≡ Some r → JoinsSet record_type (after_paragraph pieces fields r)
    joins_after record_type s is puts r at =
        let last : suc (s.members.end - 1) ≡ s.members.end = omega (arith, is.some) in
        let zeroth : s.members.end - 0 ≡ s.members.end = omega arith in
        record {
          count = s.members.end;
          put = subst (λ n. IsPutIn pieces (empty_line ∷ fields) (paragraph_end pieces r.end) n (fields ∷ [])) last (put_after pieces records are fields own (s.members.end - 1) r at);
          lines = (empty_is_line, written);
          following = ap (λ n. last_type None (take n (types_of pieces records))) (sym zeroth) ∙ is.following;
          puts = puts;
        }

    -- the range of a record
    there : (i : ℕ) → i < length records → (r : Range ℕ) × (slice_get records i ≡ Some r)
    there i within = elim (slice_get_cases records i).1 [
      | inl (r, below, at, same) ↦ (r, at)
      | inr (past, at) ↦ absurd (omega (arith, past))
    ]

    last_there : (record_type : Named) (s : Set_) → IsSetOf record_type 0 None (types_of pieces records) s → (r : Range ℕ) × (slice_get records (s.members.end - 1) ≡ Some r)
    last_there record_type s is = there (s.members.end - 1) (let size = length-map records (λ r. type_of (elements_in pieces r)) in omega (arith, size, is.high, is.some))

    lines_at_end : (new : List Piece) → AllByRecursion IsClosed new → AllByRecursion IsClosed (at_end pieces new).new
    lines_at_end new lines = cond_both (is_full_at pieces (length pieces - 1)) (empty_line ∷ new) new (AllByRecursion IsClosed) (λ _. (empty_is_line, lines)) (λ _. lines)

    own_of-fields : own_of fields ≡ fields ∷ []
    own_of-fields = ap own_of (sym (append-nil fields)) ∙ own_first fields [] own refl

    -- ---- of a type

    abbrev typed_by : List ℕ → Option (Range ℕ) → Insertion
    typed_by record_type last = option_map_or (after_paragraph pieces fields) last (at_end pieces (descriptor record_type ∷ empty_line ∷ fields))

    typed_joins : (record_type : List ℕ) (s : Set_) → find (is_of_type record_type) sets ≡ Some s → JoinsSet (Some record_type) (typed_insertion pieces records sets fields record_type)
    typed_joins record_type s found =
        let is : IsSetOf (Some record_type) 0 None (types_of pieces records) s =
        subst (λ types. IsSetOf (Some record_type) 0 None types s) are_sets.joined (set_found record_type 0 None sets s are_sets.places found) in
        let last = last_there (Some record_type) s is in
        let by : range_of records (option_and_then last_of (find (is_of_type record_type) sets)) ≡ Some last.0 =
        ap (λ o. range_of records (option_and_then last_of o)) found ∙ ap (range_of records) is.last ∙ last.1 in
        let puts : (before : List TypedRecord) → with_new sets (Some record_type) fields before ≡ put_at s.members.end (record { record_type = Some record_type; own = fields } ∷ []) before =
        λ before. rw found refl in
        subst (λ o. JoinsSet (Some record_type) (typed_by record_type o)) (sym by) (joins_after (Some record_type) s is puts last.0 last.1)

    typed_opens : (record_type : List ℕ) → is_plain_name record_type ≡ true → find (is_of_type record_type) sets ≡ None → OpensSet record_type (typed_insertion pieces records sets fields record_type)
    typed_opens record_type plain absent =
        let made : own_of (descriptor record_type ∷ empty_line ∷ fields) ≡ (descriptor record_type ∷ []) ∷ fields ∷ [] =
        own_first (descriptor record_type ∷ []) (empty_line ∷ fields) (IsOwn-descriptor record_type) refl ∙ ap (λ l. (descriptor record_type ∷ []) ∷ l) own_of-fields in
        let here : OpensSet record_type (at_end pieces (descriptor record_type ∷ empty_line ∷ fields)) = record {
          put = put_at_end pieces (descriptor record_type ∷ empty_line ∷ fields) ((descriptor record_type ∷ []) ∷ fields ∷ []) made;
          lines = lines_at_end (descriptor record_type ∷ empty_line ∷ fields) (descriptor_is_line record_type plain, (empty_is_line, written));
          absent = absent;
        } in
        subst (λ o. OpensSet record_type (typed_by record_type (range_of records (option_and_then last_of o)))) (sym absent) here

    pub typed_placed : (record_type : List ℕ) → is_plain_name record_type ≡ true
        → JoinsSet (Some record_type) (typed_insertion pieces records sets fields record_type) ⊎ OpensSet record_type (typed_insertion pieces records sets fields record_type)
    typed_placed record_type plain = elim (found_or_not (find (is_of_type record_type) sets)) [
      | inl absent ↦ inr (typed_opens record_type plain absent)
      | inr (s, found) ↦ inl (typed_joins record_type s found)
    ]

-- ---- without a type

module _ (pieces : List Piece) (records : List (Range ℕ)) (are : AreRecords pieces records) (fields : List Piece) (own : IsOwn fields) (written : AllByRecursion IsClosed fields) where
  abbrev untyped_by : Option (Range ℕ) → Option (Range ℕ) → Insertion
  untyped_by last head = elim last as (λ o. Insertion) [
    | Some r ↦ after_paragraph pieces fields r
    | None ↦ option_map_or (before_paragraph pieces fields) head (at_end pieces fields)
  ]

  -- the range of the first record, where a typed set begins at once
  before_typed : (s t : Set_) (typed : List Set_) → AreSets (types_of pieces records) (s ∷ t ∷ typed) → s.members.end ≡ 0
      → (r : Range ℕ) × (slice_get records 0 ≡ Some r) × (range_of records t.head ≡ Some r)
  before_typed s t typed are_sets none =
      let size = length-map records (λ r. type_of (elements_in pieces r)) in
      let total : length (flat_map named_in (s ∷ t ∷ typed)) ≡ length records = ap length are_sets.joined ∙ size in
      let within = sets_within 0 (s ∷ t ∷ typed) (length records) are_sets.places (omega (arith, total)) in
      let begins = begins_typed s.members.end t.kind t.head t.members are_sets.untyped_first.1.0 are_sets.places.1.0 in
      let first = there pieces records are (s ∷ t ∷ typed) fields own written are_sets 0 (omega (arith, within.1.0, begins.1)) in
      (first.0, first.1, ap (range_of records) begins.0 ∙ ap (slice_get records) none ∙ first.1)

  memberless : (s : Set_) (typed : List Set_) → AreSets (types_of pieces records) (s ∷ typed) → IsUntypedSet (types_of pieces records) s → s.members.end ≡ 0
      → JoinsSet pieces records are (s ∷ typed) fields None (untyped_by None (range_of records (option_and_then (λ s. s.head) (slice_get (s ∷ typed) 1))))
  memberless s [] are_sets is none =
      let end = end_of 0 s.kind s.head s.members are_sets.places.0 in
      let types = length-map records (λ r. type_of (elements_in pieces r)) in
      let ranges = length-map records (elements_in pieces) in
      let total : length (flat_map named_in (s ∷ [])) ≡ length (types_of pieces records) = ap length are_sets.joined in
      let only : length (flat_map named_in (s ∷ [])) ≡ length (named_in s) = ap length (append-nil (named_in s)) in
      let owns : length (own_of pieces) ≡ length (map (elements_in pieces) records) = ap length (sym (own_of-records pieces records are)) in
      record {
        count = s.members.end;
        put = subst (λ n. IsPutIn pieces (at_end pieces fields).new (length pieces) n (fields ∷ [])) (omega (arith, end, types, ranges, total, only, owns))
            (put_at_end pieces fields (fields ∷ []) (own_of-fields pieces records are (s ∷ []) fields own written are_sets));
        lines = lines_at_end pieces records are (s ∷ []) fields own written are_sets fields written;
        following = is.following;
        puts = λ before. refl;
      }
  memberless s (t ∷ typed) are_sets is none =
      let first = before_typed s t typed are_sets none in
      let here : JoinsSet pieces records are (s ∷ t ∷ typed) fields None (before_paragraph pieces fields first.0) = record {
        count = 0;
        put = put_before pieces records are fields own first.0 first.1;
        lines = AllByRecursion-append IsClosed fields (empty_line ∷ []) written (empty_is_line, tt);
        following = refl;
        puts = λ before. ap (λ n. put_at n (record { record_type = None; own = fields } ∷ []) before) none;
      } in
      subst (λ o. JoinsSet pieces records are (s ∷ t ∷ typed) fields None (untyped_by None o)) (sym first.2) here

  pub untyped_placed : (sets : List Set_) → AreSets (types_of pieces records) sets → JoinsSet pieces records are sets fields None (untyped_insertion pieces records sets fields)
  untyped_placed [] are_sets = absurd are_sets.untyped_first
  untyped_placed (s ∷ typed) are_sets =
      let is : IsUntypedSet (types_of pieces records) s =
      subst (λ types. IsUntypedSet types s) are_sets.joined (untyped_set s.kind s.head s.members (flat_map named_in typed) are_sets.untyped_first.0 are_sets.places.0) in
      let head : Option (Range ℕ) = range_of records (option_and_then (λ s. s.head) (slice_get (s ∷ typed) 1)) in
      elim (cases_Bool (nat_lt s.members.start s.members.end)) [
        | inl some ↦
            let set_is : IsSetOf None 0 None (types_of pieces records) s = is.has_some some in
            let last = last_there pieces records are (s ∷ typed) fields own written are_sets None s set_is in
            subst (λ o. JoinsSet pieces records are (s ∷ typed) fields None (untyped_by o head)) (sym (ap (range_of records) set_is.last ∙ last.1))
            (joins_after pieces records are (s ∷ typed) fields own written are_sets None s set_is (λ before. refl) last.0 last.1)
        | inr past ↦
            let none = is.has_none past in
            subst (λ o. JoinsSet pieces records are (s ∷ typed) fields None (untyped_by o head)) (sym (ap (range_of records) none.1)) (memberless s typed are_sets is none.0)
      ]
