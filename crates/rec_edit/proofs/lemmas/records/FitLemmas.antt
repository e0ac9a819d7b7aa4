-- A text, cut at its records: the own elements of each, and what stands between them.
use Rattle.std.proofs.Common.{◌≡◌, ◌∙◌, ℕ, zero, suc, ◌+◌, ◌-◌, ◌<◌, ◌≤◌, Bool, true, false, not, List, [], ◌∷◌, ◌++◌, length, take, drop, map, refl, ap, sym, inl, inr, arith}
use Rattle.std.specs.Prelude.{slice_get}
use Rattle.std.specs.List.{AllByRecursion, list_any}
use Rattle.std.specs.Option.{option_map_or}
use Rattle.std.specs.declared.ops.Range.{Range}
use Rattle.std.proofs.lemmas.Bool.{cases_Bool, cases_lt, false≢true, or_left, or_right, or_from}
use Rattle.std.proofs.lemmas.List.{drop-append-le, length-drop, length-take-le, take-append-drop, length-map}
use Rattle.std.proofs.lemmas.List.Folds.{list_any-append}
use Rattle.rec_text.specs.Elements.{Piece}
use Rattle.rec_text.specs.Records.{AreAscending, AreRecords, IsRecord, LiesIn, elements_in, is_blank_at, is_blank_piece, is_field_at, is_field_piece, is_full_at}
use Rattle.rec_text.specs.proving.Scanned.{all_narrowed, runs_to}
use Rattle.rec_edit.specs.Effect.{from_field, between_fields}
use Rattle.rec_edit.specs.Script.{closed}
use Rattle.rec_text.proofs.lemmas.ListLemmas.{AllByRecursion-weaker, slice_get-drop, slice_get-take}
use Rattle.rec_text.proofs.lemmas.records.RangeLemmas.{LiesIn-cases, LiesIn-low, LiesIn-nil}
use Rattle.rec_text.proofs.lemmas.records.RecordLemmas.{AreRecords-all_narrowed, field_is_full}
use Rattle.rec_text.proofs.lemmas.records.RunLemmas.{AreRuns-runs_to}
use Rattle.rec_text.proofs.lemmas.records.SoughtLemmas.{blank_is_not_full}
use Rattle.rec_edit.proofs.lemmas.records.TypedRecordLemmas.{kept, up_to_field, between_fields-up_to, Spaced, closes, with_own, own_of, own_of-Spaced, from_field-map, up_to_field-map}
use Rattle.rec_edit.proofs.lemmas.scripts.LaidLemmas.{closed-blank, closed-field}

-- ---- tests by index

module _ {X : Type 0} (test : X → Bool) where
  -- the element of this index is there and passes
  abbrev pub passes_at : List X → ℕ → Bool
  passes_at xs i = option_map_or test (slice_get xs i) false

  pub none_passes : (xs : List X) → ((i : ℕ) → i < length xs → passes_at xs i ≡ false) → list_any test xs ≡ false
  none_passes [] fails = refl
  none_passes (x ∷ xs) fails = or_from (test x) (list_any test xs) (fails zero (omega arith)) (none_passes xs (λ i below. fails (suc i) (omega arith)))

  pub one_passes : (xs : List X) (i : ℕ) → passes_at xs i ≡ true → list_any test xs ≡ true
  one_passes [] i holds = holds
  one_passes (x ∷ xs) zero holds = or_left (test x) (list_any test xs) holds
  one_passes (x ∷ xs) (suc i) holds = or_right (test x) (list_any test xs) (one_passes xs i holds)

  pub passes_at-part : (xs : List X) (n m i : ℕ) → n + i < m → passes_at (drop n (take m xs)) i ≡ passes_at xs (n + i)
  passes_at-part xs n m i below = ap (λ o. option_map_or test o false) (slice_get-drop n i (take m xs) ∙ slice_get-take m (n + i) xs below)

  pub passes_at-drop : (xs : List X) (n i : ℕ) → passes_at (drop n xs) i ≡ passes_at xs (n + i)
  passes_at-drop xs n i = ap (λ o. option_map_or test o false) (slice_get-drop n i xs)

pub length-part : {X : Type 0} (xs : List X) (n m : ℕ) → n ≤ m → m ≤ length xs → length (drop n (take m xs)) ≡ m - n
length-part xs n m ordered within = omega (arith, length-drop n (take m xs), length-take-le m xs within)

pub drop-part : {X : Type 0} (xs : List X) (n m : ℕ) → n ≤ m → m ≤ length xs → drop n xs ≡ drop n (take m xs) ++ drop m xs
drop-part xs n m ordered within =
    ap (drop n) (sym (take-append-drop m xs)) ∙ drop-append-le n (take m xs) (drop m xs) (omega (arith, length-take-le m xs within))

not-twice : (b : Bool) → b ≡ not (not b)
not-twice true = refl
not-twice false = refl

pub full_no_blank : (pieces : List Piece) (i : ℕ) → is_full_at pieces i ≡ true → is_blank_at pieces i ≡ false
full_no_blank [] i full = refl
full_no_blank (piece ∷ pieces) zero full = not-twice (is_blank_piece piece) ∙ ap not full
full_no_blank (piece ∷ pieces) (suc i) full = full_no_blank pieces i full

-- ---- a record's own elements

-- from a field to a field, and none of them blank
pub record IsOwn (own : List Piece) : Type 0 where
  pub some : 0 < length own
  pub first : from_field own ≡ own
  pub last : up_to_field own ≡ own
  pub full : list_any is_blank_piece own ≡ false

begins_field : (own : List Piece) → 0 < length own → passes_at is_field_piece own 0 ≡ true → from_field own ≡ own
begins_field [] some field = refl
begins_field (piece ∷ own) some field = rw field refl

ends_field : (own : List Piece) → 0 < length own → passes_at is_field_piece own (length own - 1) ≡ true → up_to_field own ≡ own
ends_field [] some field = refl
ends_field (piece ∷ []) some field = rw field refl
ends_field (piece ∷ next ∷ own) some field =
    let place : length (piece ∷ next ∷ own) - 1 ≡ suc (length (next ∷ own) - 1) = omega arith in
    ap (kept piece) (ends_field (next ∷ own) (omega arith) (sym (ap (passes_at is_field_piece (piece ∷ next ∷ own)) place) ∙ field))

pub between_fields-own : (own : List Piece) → IsOwn own → between_fields own ≡ own
between_fields-own own is = between_fields-up_to own ∙ ap from_field is.last ∙ is.first

pub with_own-some : (own : List Piece) (owns : List (List Piece)) → 0 < length own → with_own own owns ≡ own ∷ owns
with_own-some [] owns some = absurd (omega arith)
with_own-some (piece ∷ own) owns some = refl

-- ---- the cut

module _ (pieces : List Piece) where
  -- From this index on, the records are these. No field stands between them, and a blank element does; before the first where that is said.
  abbrev pub Cut : Bool → ℕ → List (Range ℕ) → Type 0
  Cut apart n [] = list_any is_field_piece (drop n pieces) ≡ false
  Cut apart n (r ∷ records) = (n ≤ r.start) × (r.start < r.end) × (r.end ≤ length pieces)
      × (list_any is_field_piece (drop n (take r.start pieces)) ≡ false) × (apart ≡ true → list_any is_blank_piece (drop n (take r.start pieces)) ≡ true)
      × IsOwn (elements_in pieces r) × Cut true r.end records

  own_is : (r : Range ℕ) → IsRecord pieces r → r.end ≤ length pieces → IsOwn (elements_in pieces r)
  own_is r is within =
      let size : length (elements_in pieces r) ≡ r.end - r.start = length-part pieces r.start r.end (omega (arith, is.some)) within in
      let prefix : r.start + 0 ≡ r.start = omega arith in
      let back : r.start + (length (elements_in pieces r) - 1) ≡ r.end - 1 = omega (arith, is.some) in
      record {
        some = omega (arith, is.some);
        first = begins_field (elements_in pieces r) (omega (arith, is.some))
            (passes_at-part is_field_piece pieces r.start r.end 0 (omega (arith, is.some)) ∙ ap (is_field_at pieces) prefix ∙ is.first);
        last = ends_field (elements_in pieces r) (omega (arith, is.some))
            (passes_at-part is_field_piece pieces r.start r.end (length (elements_in pieces r) - 1) (omega (arith, is.some)) ∙ ap (is_field_at pieces) back ∙ is.last);
        full = none_passes is_blank_piece (elements_in pieces r) (λ i below.
            passes_at-part is_blank_piece pieces r.start r.end i (omega (arith, is.some))
            ∙ full_no_blank pieces (r.start + i) (is.is_paragraph.passes (r.start + i) (omega (arith, is.low)) (omega (arith, is.some, is.high))));
      }

  -- the paragraph before this index ends here, and no field of it stands from the index on
  pub record IsBorder (n b : ℕ) : Type 0 where
    pub low : n ≤ b
    pub none : (i : ℕ) → n ≤ i → i < b → is_field_at pieces i ≡ false
    pub ends : b < length pieces → is_full_at pieces b ≡ false

  blank_between : (n b start : ℕ) → IsBorder n b → n ≤ start → start < length pieces → is_field_at pieces start ≡ true → list_any is_blank_piece (drop n (take start pieces)) ≡ true
  blank_between n b start border low within field = elim (cases_lt b start) [
    | inl before ↦
        let place : n + (b - n) ≡ b = omega (arith, border.low) in
        one_passes is_blank_piece (drop n (take start pieces)) (b - n)
        (passes_at-part is_blank_piece pieces n start (b - n) (omega (arith, border.low)) ∙ ap (is_blank_at pieces) place
        ∙ blank_is_not_full pieces b (omega arith) ∙ ap not (border.ends (omega arith)))
    | inr past ↦ elim (cases_lt start b) [
      | inl inside ↦ absurd (false≢true (sym (border.none start low inside) ∙ field))
      | inr here ↦
          let same : b ≡ start = omega arith in
          absurd (false≢true (sym (border.ends (omega arith)) ∙ ap (is_full_at pieces) same ∙ field_is_full pieces start field))
    ]
  ]

  no_field_past : (n : ℕ) → ((i : ℕ) → n ≤ i → is_field_at pieces i ≡ true → LiesIn [] i) → list_any is_field_piece (drop n pieces) ≡ false
  no_field_past n complete =
      none_passes is_field_piece (drop n pieces) (λ i below. passes_at-drop is_field_piece pieces n i ∙ elim (cases_Bool (is_field_at pieces (n + i))) [
        | inl field ↦ absurd (LiesIn-nil (n + i) (complete (n + i) (omega arith) field))
        | inr other ↦ other
      ])

  all_some : (records : List (Range ℕ)) → AllByRecursion (IsRecord pieces) records → AllByRecursion (λ r. r.start < r.end) records
  all_some records each = AllByRecursion-weaker (IsRecord pieces) (λ r. r.start < r.end) (λ r is. is.some) records each

  no_field_before : (n : ℕ) (r : Range ℕ) (records : List (Range ℕ)) → AllByRecursion (IsRecord pieces) (r ∷ records) → AreAscending r.end records
      → ((i : ℕ) → n ≤ i → is_field_at pieces i ≡ true → LiesIn (r ∷ records) i) → n ≤ r.start → r.end ≤ length pieces → list_any is_field_piece (drop n (take r.start pieces)) ≡ false
  no_field_before n r records each ascending complete low within =
      let size : length (drop n (take r.start pieces)) ≡ r.start - n = length-part pieces n r.start low (omega (arith, each.0.some)) in
      none_passes is_field_piece (drop n (take r.start pieces)) (λ i below.
      passes_at-part is_field_piece pieces n r.start i (omega arith) ∙ elim (cases_Bool (is_field_at pieces (n + i))) [
        | inl field ↦ absurd (omega (arith, LiesIn-low r.start (r ∷ records) (n + i) (all_some (r ∷ records) each) (omega arith, ascending) (complete (n + i) (omega arith) field)))
        | inr other ↦ other
      ])

  cut_from : (apart : Bool) (n : ℕ) (records : List (Range ℕ)) → AllByRecursion (IsRecord pieces) records → AreAscending n records
      → ((i : ℕ) → n ≤ i → is_field_at pieces i ≡ true → LiesIn records i) → (apart ≡ true → (b : ℕ) × IsBorder n b) → Cut apart n records
  cut_from apart n [] each ascending complete border = no_field_past n complete
  cut_from apart n (r ∷ records) each ascending complete border =
      let is = each.0 in
      let within : r.end ≤ length pieces = omega (arith, is.high, is.is_paragraph.within) in (
        ascending.0,
        is.some,
        within,
        no_field_before n r records each ascending.1 complete ascending.0 within,
        λ needed. (let found = border needed in blank_between n found.0 r.start found.1 ascending.0 (omega (arith, is.some)) is.first),
        own_is r is within,
        cut_from true r.end records each.1 ascending.1
            (λ i low field. elim (LiesIn-cases r records i (complete i (omega (arith, ascending.0, is.some)) field)) [
              | inl here ↦ absurd (omega (arith, here.1))
              | inr there ↦ there
            ])
            (λ needed. (is.paragraph.end, record { low = is.high; none = is.following; ends = is.is_paragraph.ends })),
      )

  pub Cut-AreRecords : (records : List (Range ℕ)) → AreRecords pieces records → Cut false 0 records
  Cut-AreRecords records are = cut_from false 0 records are.each are.ascending (λ i low field. are.complete i field) (λ needed. absurd (false≢true needed))

  pub Cut-Spaced : (apart : Bool) (n : ℕ) (records : List (Range ℕ)) → n ≤ length pieces → Cut apart n records → Spaced apart (drop n pieces) (map (elements_in pieces) records)
  Cut-Spaced apart n [] low cut = cut
  Cut-Spaced apart n (r ∷ records) low (past, some, within, none, between, own, more) = (
    drop n (take r.start pieces),
    drop r.end pieces,
    true,
    drop-part pieces n r.start past (omega arith) ∙ ap (λ l. drop n (take r.start pieces) ++ l) (drop-part pieces r.start r.end (omega arith) within),
    none,
    between,
    own.full,
    λ gone. absurd (false≢true (sym gone)),
    Cut-Spaced true r.end records within more,
  )

  pub closes-Cut : (apart : Bool) (n : ℕ) (records : List (Range ℕ)) → Cut apart n records → closes (map (elements_in pieces) records) ≡ map (elements_in pieces) records
  closes-Cut apart n [] cut = refl
  closes-Cut apart n (r ∷ records) (past, some, within, none, between, own, more) =
      ap (λ made. with_own made (closes (map (elements_in pieces) records))) (between_fields-own (elements_in pieces r) own)
      ∙ with_own-some (elements_in pieces r) (closes (map (elements_in pieces) records)) own.some
      ∙ ap (λ owns. elements_in pieces r ∷ owns) (closes-Cut true r.end records more)

  -- the own elements of the records
  pub own_of-records : (records : List (Range ℕ)) → AreRecords pieces records → map (elements_in pieces) records ≡ own_of pieces
  own_of-records records are =
      let cut = Cut-AreRecords records are in
      sym (closes-Cut false 0 records cut) ∙ sym (own_of-Spaced false pieces (map (elements_in pieces) records) (Cut-Spaced false 0 records (omega arith) cut))

  -- each text has records
  pub records_there : (records : List (Range ℕ)) × AreRecords pieces records
  records_there =
      let paragraphs = runs_to (is_full_at pieces) (length pieces) 0 in
      (all_narrowed (is_field_at pieces) paragraphs, AreRecords-all_narrowed pieces paragraphs (AreRuns-runs_to (is_full_at pieces) (length pieces)))

-- ---- elements with their newlines

pub list_any-closed : (test : Piece → Bool) → ((piece : Piece) → test (closed piece) ≡ test piece) → (pieces : List Piece) → list_any test (map closed pieces) ≡ list_any test pieces
list_any-closed test same [] = refl
list_any-closed test same (piece ∷ pieces) = rw (same piece, list_any-closed test same pieces) refl

pub closed-own : (own : List Piece) → IsOwn own → IsOwn (map closed own)
closed-own own is = record {
  some = omega (arith, length-map own closed, is.some);
  first = from_field-map closed closed-blank closed-field own ∙ ap (map closed) is.first;
  last = up_to_field-map closed closed-blank closed-field own ∙ ap (map closed) is.last;
  full = list_any-closed is_blank_piece closed-blank own ∙ is.full;
}

-- ---- tests of two lists

pub append_fails : (test : Piece → Bool) (some more : List Piece) → list_any test some ≡ false → list_any test more ≡ false → list_any test (some ++ more) ≡ false
append_fails test some more first second = list_any-append test some more ∙ or_from (list_any test some) (list_any test more) first second
