-- Records one by one: the typed records before and after an edit, and the descriptors among them.
use Rattle.std.proofs.Common.{◌≡◌, ◌∙◌, Bool, true, false, List, [], ◌∷◌, ◌++◌, refl, ap, sym, inl, inr, ℕ, ◌+◌, ◌<◌, ◌==◌, Option, Some, None, length, map, filter, ap₂, arith}
use Rattle.std.specs.Prelude.{reverse, if◌then◌else◌, filter_map, find, is_some, option_map}
use Rattle.std.specs.List.{list_any, enumerate_from, cons_option}
use Rattle.std.proofs.lemmas.Bool.{cases_Bool, false≢true, or_parts, or_from}
use Rattle.std.proofs.lemmas.List.{append-nil, reverse-append}
use Rattle.rec_text.specs.Elements.{Piece, has_name}
use Rattle.rec_text.specs.Records.{is_blank_piece, is_field_piece}
use Rattle.rec_edit.specs.Effect.{from_field, between_fields, TypedRecord, typed_record, typed_records, type_after, remade}
use Rattle.rec_text.specs.Values.{value_of}
use Rattle.rec_check.specs.Descriptors.{first_word, rec_name, type_of}
use Rattle.rec_check.specs.Words.{words}

-- ---- the records of some elements, as lists of their own elements, element by element from the end

-- ---- up to the last field

-- an element before others, up to the last field
abbrev pub kept : Piece → List Piece → List Piece
kept piece [] = if is_field_piece piece then piece ∷ [] else []
kept piece (next ∷ pieces) = piece ∷ next ∷ pieces

-- up to the last field
abbrev pub up_to_field : List Piece → List Piece
up_to_field [] = []
up_to_field (piece ∷ pieces) = kept piece (up_to_field pieces)

abbrev pushed : Piece → List Piece → List Piece
pushed piece [] = if is_field_piece piece then piece ∷ [] else []
pushed piece (next ∷ pieces) = (next ∷ pieces) ++ piece ∷ []

from_field-push : (pieces : List Piece) (piece : Piece) → from_field (pieces ++ piece ∷ []) ≡ pushed piece (from_field pieces)
from_field-push [] piece = refl
from_field-push (next ∷ pieces) piece = elim (cases_Bool (is_field_piece next)) [
  | inl field ↦ rw field refl
  | inr other ↦ rw other (from_field-push pieces piece)
]

kept-some : (piece : Piece) (pieces : List Piece) (last : Piece) → kept piece (pieces ++ last ∷ []) ≡ piece ∷ (pieces ++ last ∷ [])
kept-some piece [] last = refl
kept-some piece (next ∷ pieces) last = refl

reverse-cons : (piece : Piece) (pieces : List Piece) → reverse (piece ∷ pieces) ≡ reverse pieces ++ piece ∷ []
reverse-cons piece pieces = reverse-append (piece ∷ []) pieces

reverse-if : (b : Bool) (piece : Piece) → reverse (if b then piece ∷ [] else []) ≡ (if b then piece ∷ [] else [])
reverse-if true piece = refl
reverse-if false piece = refl

reverse-pushed : (piece : Piece) (pieces : List Piece) → reverse (pushed piece pieces) ≡ kept piece (reverse pieces)
reverse-pushed piece [] = reverse-if (is_field_piece piece) piece
reverse-pushed piece (next ∷ pieces) =
    reverse-append (next ∷ pieces) (piece ∷ []) ∙ ap (λ l. piece ∷ l) (reverse-cons next pieces)
    ∙ sym (kept-some piece (reverse pieces) next) ∙ sym (ap (kept piece) (reverse-cons next pieces))

up_to_field-reverse : (pieces : List Piece) → up_to_field pieces ≡ reverse (from_field (reverse pieces))
up_to_field-reverse [] = refl
up_to_field-reverse (piece ∷ pieces) =
    ap (kept piece) (up_to_field-reverse pieces) ∙ sym (reverse-pushed piece (from_field (reverse pieces)))
    ∙ sym (ap reverse (from_field-push (reverse pieces) piece)) ∙ sym (ap (λ l. reverse (from_field l)) (reverse-cons piece pieces))

-- what isn't a field is left out in prefix, whatever stands after it
from_field-kept : (piece : Piece) (pieces : List Piece) → is_field_piece piece ≡ false → from_field (kept piece pieces) ≡ from_field pieces
from_field-kept piece [] other = rw other refl
from_field-kept piece (next ∷ pieces) other = rw other refl

pub kept-field : (piece : Piece) (pieces : List Piece) → is_field_piece piece ≡ true → kept piece pieces ≡ piece ∷ pieces
kept-field piece [] field = rw field refl
kept-field piece (next ∷ pieces) field = refl

from_field-up_to : (pieces : List Piece) → from_field (up_to_field pieces) ≡ up_to_field (from_field pieces)
from_field-up_to [] = refl
from_field-up_to (piece ∷ pieces) = elim (cases_Bool (is_field_piece piece)) [
  | inl field ↦ ap from_field (kept-field piece (up_to_field pieces) field) ∙ rw field (sym (kept-field piece (up_to_field pieces) field))
  | inr other ↦ from_field-kept piece (up_to_field pieces) other ∙ from_field-up_to pieces ∙ rw other refl
]

pub between_fields-up_to : (pieces : List Piece) → between_fields pieces ≡ from_field (up_to_field pieces)
between_fields-up_to pieces = sym (up_to_field-reverse (from_field pieces)) ∙ sym (from_field-up_to pieces)

-- ---- the records

-- a record before others, where it has a field
abbrev pub with_own : List Piece → List (List Piece) → List (List Piece)
with_own [] owns = owns
with_own (piece ∷ pieces) owns = (piece ∷ pieces) ∷ owns

-- the first paragraph up to its last field, where it begins at once
abbrev pub open_of : List Piece → List Piece
open_of [] = []
open_of (piece ∷ pieces) = if is_blank_piece piece then [] else kept piece (open_of pieces)

-- the records of the paragraphs after the first one
abbrev pub done_of : List Piece → List (List Piece)
done_of [] = []
done_of (piece ∷ pieces) = if is_blank_piece piece then with_own (from_field (open_of pieces)) (done_of pieces) else done_of pieces

-- the own elements of each record
abbrev pub own_of : List Piece → List (List Piece)
own_of pieces = with_own (from_field (open_of pieces)) (done_of pieces)

-- ---- elements that are no field, and elements none of which is blank

pub own_of-gap : (gap rest : List Piece) → list_any is_field_piece gap ≡ false → own_of (gap ++ rest) ≡ own_of rest
own_of-gap [] rest none = refl
own_of-gap (piece ∷ gap) rest none =
    let parts = or_parts (is_field_piece piece) (list_any is_field_piece gap) none in
    elim (cases_Bool (is_blank_piece piece)) [
      | inl blank ↦ rw blank (own_of-gap gap rest parts.1)
      | inr full ↦ rw full (ap (λ own. with_own own (done_of (gap ++ rest))) (from_field-kept piece (open_of (gap ++ rest)) parts.0) ∙ own_of-gap gap rest parts.1)
    ]

kept-none : (piece : Piece) → is_field_piece piece ≡ false → kept piece [] ≡ []
kept-none piece other = rw other refl

pub open_of-gap : (gap rest : List Piece) → list_any is_field_piece gap ≡ false → list_any is_blank_piece gap ≡ true → open_of (gap ++ rest) ≡ []
open_of-gap [] rest none some = absurd (false≢true some)
open_of-gap (piece ∷ gap) rest none some =
    let parts = or_parts (is_field_piece piece) (list_any is_field_piece gap) none in
    elim (cases_Bool (is_blank_piece piece)) [
      | inl blank ↦ rw blank refl
      | inr full ↦ rw full (ap (kept piece) (open_of-gap gap rest parts.1 (rw full at some)) ∙ kept-none piece parts.0)
    ]

pub open_of-none : (pieces : List Piece) → list_any is_field_piece pieces ≡ false → open_of pieces ≡ []
open_of-none [] none = refl
open_of-none (piece ∷ pieces) none =
    let parts = or_parts (is_field_piece piece) (list_any is_field_piece pieces) none in
    elim (cases_Bool (is_blank_piece piece)) [
      | inl blank ↦ rw blank refl
      | inr full ↦ rw full (ap (kept piece) (open_of-none pieces parts.1) ∙ kept-none piece parts.0)
    ]

pub own_of-none : (pieces : List Piece) → list_any is_field_piece pieces ≡ false → own_of pieces ≡ []
own_of-none pieces none = ap own_of (sym (append-nil pieces)) ∙ own_of-gap pieces [] none

open_of-full : (own rest : List Piece) → list_any is_blank_piece own ≡ false → open_of rest ≡ [] → open_of (own ++ rest) ≡ up_to_field own
open_of-full [] rest none shut = shut
open_of-full (piece ∷ own) rest none shut =
    let parts = or_parts (is_blank_piece piece) (list_any is_blank_piece own) none in
    let full = parts.0 in
    rw full (ap (kept piece) (open_of-full own rest parts.1 shut))

done_of-full : (own rest : List Piece) → list_any is_blank_piece own ≡ false → done_of (own ++ rest) ≡ done_of rest
done_of-full [] rest none = refl
done_of-full (piece ∷ own) rest none =
    let parts = or_parts (is_blank_piece piece) (list_any is_blank_piece own) none in
    let full = parts.0 in
    rw full (done_of-full own rest parts.1)

pub own_of-shut : (rest : List Piece) → open_of rest ≡ [] → own_of rest ≡ done_of rest
own_of-shut rest shut = ap (λ begun. with_own (from_field begun) (done_of rest)) shut

pub own_of-full : (own rest : List Piece) → list_any is_blank_piece own ≡ false → open_of rest ≡ [] → own_of (own ++ rest) ≡ with_own (between_fields own) (own_of rest)
own_of-full own rest none shut =
    ap (λ begun. with_own (from_field begun) (done_of (own ++ rest))) (open_of-full own rest none shut)
    ∙ ap (with_own (from_field (up_to_field own))) (done_of-full own rest none ∙ sym (own_of-shut rest shut))
    ∙ ap (λ made. with_own made (own_of rest)) (sym (between_fields-up_to own))

-- ---- elements that are made of records, and what stands between them

-- the records that are made of elements, where these have a field
abbrev pub closes : List (List Piece) → List (List Piece)
closes [] = []
closes (made ∷ mades) = with_own (between_fields made) (closes mades)

-- Elements in which these stand in order, none of them blank. No field stands between them. A blank element stands between two of them,
-- except after one that is empty; `apart` says that one stands before the first.
abbrev pub Spaced : Bool → List Piece → List (List Piece) → Type 0
Spaced apart pieces [] = list_any is_field_piece pieces ≡ false
Spaced apart pieces (made ∷ mades) = (gap rest : List Piece) × (later : Bool) × (pieces ≡ gap ++ (made ++ rest))
    × (list_any is_field_piece gap ≡ false) × (apart ≡ true → list_any is_blank_piece gap ≡ true)
    × (list_any is_blank_piece made ≡ false) × (later ≡ false → made ≡ []) × Spaced later rest mades

pub Spaced-shut : (pieces : List Piece) (mades : List (List Piece)) → Spaced true pieces mades → open_of pieces ≡ []
Spaced-shut pieces [] spaced = open_of-none pieces spaced
Spaced-shut pieces (made ∷ mades) (gap, rest, later, parts, none, apart, full, gone, more) = ap open_of parts ∙ open_of-gap gap (made ++ rest) none (apart refl)

made_before : (later : Bool) (made rest : List Piece) (mades : List (List Piece)) → own_of rest ≡ closes mades → list_any is_blank_piece made ≡ false → (later ≡ false → made ≡ [])
    → Spaced later rest mades
    → own_of (made ++ rest) ≡ closes (made ∷ mades)
made_before true made rest mades same full gone spaced =
    own_of-full made rest full (Spaced-shut rest mades spaced) ∙ ap (with_own (between_fields made)) same
made_before false made rest mades same full gone spaced =
    ap (λ m. own_of (m ++ rest)) (gone refl) ∙ same ∙ ap (λ m. with_own (between_fields m) (closes mades)) (sym (gone refl))

pub own_of-Spaced : (apart : Bool) (pieces : List Piece) (mades : List (List Piece)) → Spaced apart pieces mades → own_of pieces ≡ closes mades
own_of-Spaced apart pieces [] spaced = own_of-none pieces spaced
own_of-Spaced apart pieces (made ∷ mades) (gap, rest, later, parts, none, between, full, gone, more) =
    ap own_of parts ∙ own_of-gap gap (made ++ rest) none ∙ made_before later made rest mades (own_of-Spaced later rest mades more) full gone more

-- ---- records one by one: the typed records of a text before and after some of them were replaced, and the descriptors among them

-- ---- the same elements, with other bytes

module _ (f : Piece → Piece) (blank : (piece : Piece) → is_blank_piece (f piece) ≡ is_blank_piece piece) (field : (piece : Piece) → is_field_piece (f piece) ≡ is_field_piece piece) where
  pub from_field-map : (pieces : List Piece) → from_field (map f pieces) ≡ map f (from_field pieces)
  from_field-map [] = refl
  from_field-map (piece ∷ pieces) = elim (cases_Bool (is_field_piece piece)) [
    | inl is ↦ rw (field piece) (rw is refl)
    | inr other ↦ rw (field piece) (rw other (from_field-map pieces))
  ]

  kept-map : (piece : Piece) (pieces : List Piece) → kept (f piece) (map f pieces) ≡ map f (kept piece pieces)
  kept-map piece [] = elim (cases_Bool (is_field_piece piece)) [
    | inl is ↦ rw (field piece) (rw is refl)
    | inr other ↦ rw (field piece) (rw other refl)
  ]
  kept-map piece (next ∷ pieces) = refl

  pub up_to_field-map : (pieces : List Piece) → up_to_field (map f pieces) ≡ map f (up_to_field pieces)
  up_to_field-map [] = refl
  up_to_field-map (piece ∷ pieces) = ap (kept (f piece)) (up_to_field-map pieces) ∙ kept-map piece (up_to_field pieces)

  open_of-map : (pieces : List Piece) → open_of (map f pieces) ≡ map f (open_of pieces)
  open_of-map [] = refl
  open_of-map (piece ∷ pieces) = elim (cases_Bool (is_blank_piece piece)) [
    | inl is ↦ rw (blank piece) (rw is refl)
    | inr full ↦ rw (blank piece) (rw full (ap (kept (f piece)) (open_of-map pieces) ∙ kept-map piece (open_of pieces)))
  ]

  with_own-map : (own : List Piece) (owns : List (List Piece)) → with_own (map f own) (map (map f) owns) ≡ map (map f) (with_own own owns)
  with_own-map [] owns = refl
  with_own-map (piece ∷ own) owns = refl

  with_open-map : (pieces : List Piece) → done_of (map f pieces) ≡ map (map f) (done_of pieces)
      → with_own (from_field (open_of (map f pieces))) (done_of (map f pieces)) ≡ map (map f) (with_own (from_field (open_of pieces)) (done_of pieces))
  with_open-map pieces done =
      ap₂ with_own (ap from_field (open_of-map pieces) ∙ from_field-map (open_of pieces)) done ∙ with_own-map (from_field (open_of pieces)) (done_of pieces)

  done_of-map : (pieces : List Piece) → done_of (map f pieces) ≡ map (map f) (done_of pieces)
  done_of-map [] = refl
  done_of-map (piece ∷ pieces) = elim (cases_Bool (is_blank_piece piece)) [
    | inl is ↦ rw (blank piece) (rw is (with_open-map pieces (done_of-map pieces)))
    | inr full ↦ rw (blank piece) (rw full (done_of-map pieces))
  ]

  pub own_of-map : (pieces : List Piece) → own_of (map f pieces) ≡ map (map f) (own_of pieces)
  own_of-map pieces = with_open-map pieces (done_of-map pieces)

-- ---- elements none of which makes a descriptor

pub find-none : {X : Type 0} (test : X → Bool) (xs : List X) → list_any test xs ≡ false → find test xs ≡ None
find-none test [] none = refl
find-none test (x ∷ xs) none =
    let parts = or_parts (test x) (list_any test xs) none in
    let fails = parts.0 in
    rw fails (find-none test xs parts.1)

none-find : {X : Type 0} (test : X → Bool) (xs : List X) → find test xs ≡ None → list_any test xs ≡ false
none-find test [] none = refl
none-find test (x ∷ xs) none = elim (cases_Bool (test x)) [
  | inl passes ↦ absurd (let clash = rw passes at none in cc)
  | inr fails ↦ or_from (test x) (list_any test xs) fails (none-find test xs (rw fails at none))
]

pub type_of-none : (own : List Piece) → list_any (has_name rec_name) own ≡ false → type_of own ≡ None
type_of-none own none = ap (option_map (λ piece. first_word (words (value_of piece)))) (find-none (has_name rec_name) own none)

option_map-none : {X Y : Type 0} (f : X → Y) (o : Option X) → option_map f o ≡ None → o ≡ None
option_map-none f None none = refl
option_map-none f (Some x) none = absurd (cc)

pub none-type_of : (own : List Piece) → type_of own ≡ None → list_any (has_name rec_name) own ≡ false
none-type_of own none = none-find (has_name rec_name) own (option_map-none (λ piece. first_word (words (value_of piece))) (find (has_name rec_name) own) none)

-- a part of elements none of which passes a test
module _ (test : Piece → Bool) where
  from_field-fails : (pieces : List Piece) → list_any test pieces ≡ false → list_any test (from_field pieces) ≡ false
  from_field-fails [] none = refl
  from_field-fails (piece ∷ pieces) none = elim (cases_Bool (is_field_piece piece)) [
    | inl is ↦ rw is none
    | inr other ↦ rw other (from_field-fails pieces (or_parts (test piece) (list_any test pieces) none).1)
  ]

  if_fails : (b : Bool) (piece : Piece) → test piece ≡ false → list_any test (if b then piece ∷ [] else []) ≡ false
  if_fails true piece fails = or_from (test piece) false fails refl
  if_fails false piece fails = refl

  kept-fails : (piece : Piece) (pieces : List Piece) → test piece ≡ false → list_any test pieces ≡ false → list_any test (kept piece pieces) ≡ false
  kept-fails piece [] fails none = if_fails (is_field_piece piece) piece fails
  kept-fails piece (next ∷ pieces) fails none = or_from (test piece) (list_any test (next ∷ pieces)) fails none

  up_to_field-fails : (pieces : List Piece) → list_any test pieces ≡ false → list_any test (up_to_field pieces) ≡ false
  up_to_field-fails [] none = refl
  up_to_field-fails (piece ∷ pieces) none =
      let parts = or_parts (test piece) (list_any test pieces) none in
      kept-fails piece (up_to_field pieces) parts.0 (up_to_field-fails pieces parts.1)

  pub between_fields-fails : (pieces : List Piece) → list_any test pieces ≡ false → list_any test (between_fields pieces) ≡ false
  between_fields-fails pieces none =
      ap (list_any test) (between_fields-up_to pieces) ∙ from_field-fails (up_to_field pieces) (up_to_field-fails pieces none)

-- ---- records that are replaced, one by one

pub type_after-none : (record_type : Option (List ℕ)) (own : List Piece) → type_of own ≡ None → type_after record_type own ≡ record_type
type_after-none record_type own none = ap (λ o. elim o as (λ x. Option (List ℕ)) [ None ↦ record_type | Some named ↦ Some named ]) none

module _ (selected : List ℕ) (made : List Piece → List Piece) where
  abbrev gives : ℕ × TypedRecord → Option TypedRecord
  gives (i, typed) = if list_any (λ k. k == i) selected then typed_record typed.record_type (made typed.own) else Some typed

  -- the record of this index, and the elements that come of it
  pub record IsTurned (i : ℕ) (own new : List Piece) : Type 0 where
    pub some : 0 < length own
    pub stays : list_any (λ k. k == i) selected ≡ false → between_fields new ≡ own
    pub changes : list_any (λ k. k == i) selected ≡ true → between_fields new ≡ between_fields (made own)
    pub plain : list_any (λ k. k == i) selected ≡ true → type_of own ≡ None
    pub still : list_any (λ k. k == i) selected ≡ true → type_of (between_fields new) ≡ None

  abbrev pub AreTurned : ℕ → List (List Piece) → List (List Piece) → Type 0
  AreTurned i [] [] = Unit {0}
  AreTurned i [] (new ∷ news) = ⊥
  AreTurned i (own ∷ owns) [] = ⊥
  AreTurned i (own ∷ owns) (new ∷ news) = IsTurned i own new × AreTurned (i + 1) owns news

  -- a typed record of what is left of a record, before others
  typed_record_before : (record_type : Option (List ℕ)) (own : List Piece) (owns : List (List Piece)) (all_typed : List TypedRecord) → type_of own ≡ None → all_typed ≡ typed_records record_type owns
      → cons_option (elim own as (λ x. Option TypedRecord) [ [] ↦ None | piece ∷ pieces ↦ Some (record { record_type = record_type; own = piece ∷ pieces }) ]) all_typed
      ≡ typed_records record_type (with_own own owns)
  typed_record_before record_type [] owns all_typed none same = same
  typed_record_before record_type (piece ∷ own) owns all_typed none same =
      let kept_type : type_after record_type (piece ∷ own) ≡ record_type = type_after-none record_type (piece ∷ own) none in
      ap (λ l. record { record_type = record_type; own = piece ∷ own } ∷ l) same
      ∙ ap (λ k. record { record_type = k; own = piece ∷ own } ∷ typed_records k owns) (sym kept_type)

  typed_record-same : (record_type : Option (List ℕ)) (own new : List Piece) → between_fields new ≡ between_fields own
      → ◌≡◌ {A = Option TypedRecord} (typed_record record_type own) (elim (between_fields new) as (λ x. Option TypedRecord) [
        | [] ↦ None
        | piece ∷ pieces ↦ Some (record { record_type = record_type; own = piece ∷ pieces })
      ])
  typed_record-same record_type own new same = ap (λ l. elim l as (λ x. Option TypedRecord) [ [] ↦ None | piece ∷ pieces ↦ Some (record { record_type = record_type; own = piece ∷ pieces }) ])
      (sym same)

  with_own-some : (own new : List Piece) (owns : List (List Piece)) → 0 < length own → new ≡ own → with_own new owns ≡ own ∷ owns
  with_own-some [] new owns some same = absurd (omega arith)
  with_own-some (piece ∷ own) new owns some same = ap (λ l. with_own l owns) same

  gives-selected : (i : ℕ) (typed : TypedRecord) → list_any (λ k. k == i) selected ≡ true → gives (i, typed) ≡ typed_record typed.record_type (made typed.own)
  gives-selected i typed takes = ap (λ b. if b then typed_record typed.record_type (made typed.own) else Some typed) takes

  gives-other : (i : ℕ) (typed : TypedRecord) → list_any (λ k. k == i) selected ≡ false → gives (i, typed) ≡ Some typed
  gives-other i typed leaves = ap (λ b. if b then typed_record typed.record_type (made typed.own) else Some typed) leaves

  remade_from : (i : ℕ) (record_type : Option (List ℕ)) (owns news : List (List Piece)) → AreTurned i owns news
      → filter_map gives (enumerate_from i (typed_records record_type owns)) ≡ typed_records record_type (closes news)
  remade_from i record_type [] [] turned = refl
  remade_from i record_type [] (new ∷ news) turned = absurd turned
  remade_from i record_type (own ∷ owns) [] turned = absurd turned
  remade_from i record_type (own ∷ owns) (new ∷ news) turned =
      let one = turned.0 in
      let next : Option (List ℕ) = type_after record_type own in
      let typed : TypedRecord = record { record_type = next; own = own } in
      let more : filter_map gives (enumerate_from (i + 1) (typed_records next owns)) ≡ typed_records next (closes news) = remade_from (i + 1) next owns news turned.1 in
      elim (cases_Bool (list_any (λ k. k == i) selected)) [
        | inl takes ↦
            ap (λ o. cons_option o (filter_map gives (enumerate_from (i + 1) (typed_records next owns)))) (gives-selected i typed takes ∙ typed_record-same next (made own) new (one.changes takes))
            ∙ typed_record_before next (between_fields new) (closes news) (filter_map gives (enumerate_from (i + 1) (typed_records next owns))) (one.still takes) more
            ∙ ap (λ k. typed_records k (closes (new ∷ news))) (type_after-none record_type own (one.plain takes))
        | inr leaves ↦
            ap (λ o. cons_option o (filter_map gives (enumerate_from (i + 1) (typed_records next owns)))) (gives-other i typed leaves)
            ∙ ap (λ l. typed ∷ l) more
            ∙ sym (ap (typed_records record_type) (with_own-some own (between_fields new) (closes news) one.some (one.stays leaves)))
      ]

  -- the typed records before, some of which were replaced, are those after
  pub remade-turned : (owns news : List (List Piece)) → AreTurned 0 owns news → remade selected made (typed_records None owns) ≡ typed_records None (closes news)
  remade-turned owns news turned = remade_from 0 None owns news turned

  -- ---- the descriptors stay

  abbrev pub described : List (List Piece) → List (List Piece)
  described owns = filter (λ own. is_some (type_of own)) owns

  filter-no : (own : List Piece) (owns : List (List Piece)) → type_of own ≡ None → described (own ∷ owns) ≡ described owns
  filter-no own owns none = ap (λ o. if is_some o then own ∷ described owns else described owns) none

  filter-with_own : (own : List Piece) (owns : List (List Piece)) → type_of own ≡ None → described (with_own own owns) ≡ described owns
  filter-with_own [] owns none = refl
  filter-with_own (piece ∷ own) owns none = filter-no (piece ∷ own) owns none

  pub same_descriptors : (i : ℕ) (owns news : List (List Piece)) → AreTurned i owns news → described (closes news) ≡ described owns
  same_descriptors i [] [] turned = refl
  same_descriptors i [] (new ∷ news) turned = absurd turned
  same_descriptors i (own ∷ owns) [] turned = absurd turned
  same_descriptors i (own ∷ owns) (new ∷ news) turned =
      let one = turned.0 in
      let more : described (closes news) ≡ described owns = same_descriptors (i + 1) owns news turned.1 in
      elim (cases_Bool (list_any (λ k. k == i) selected)) [
        | inl takes ↦ filter-with_own (between_fields new) (closes news) (one.still takes) ∙ more ∙ sym (filter-no own owns (one.plain takes))
        | inr leaves ↦
            ap described (with_own-some own (between_fields new) (closes news) one.some (one.stays leaves))
            ∙ ap (λ l. if is_some (type_of own) then own ∷ l else l) more
      ]
