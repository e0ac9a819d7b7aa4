-- The elements and the records of a text, each where it stands.
use Rattle.std.proofs.Common.{◌≡◌, ◌∙◌, ℕ, zero, suc, ◌+◌, ◌-◌, ◌≤◌, ◌<◌, true, false, List, [], ◌∷◌, ◌++◌, length, map, drop, take, Option, Some, None, Ok, inl, inr, refl, sym, ap, subst}
use Rattle.std.proofs.Common.{arith}
use Rattle.std.specs.List.{AllByRecursion, Any, between, filter, slice_get}
use Rattle.std.specs.Option.{option_map, option_map_or}
use Rattle.std.specs.declared.ops.Range.{Range}
use Rattle.std.proofs.lemmas.Bool.{cases_order, false≢true}
use Rattle.std.proofs.lemmas.List.{append_assoc, append-nil, drop_at, length-append, length-map, take_at}
use Rattle.std.proofs.lemmas.Option.{none-some, same_Some, slice_get-map, slice_get_cases, slice_get_past}
use Rattle.rec_text.specs.declared.element.Element.{Element}
use Rattle.rec_text.specs.declared.element.Kind.{Kind}
use Rattle.rec_text.specs.declared.element.Kind.TheVariants.{Blank, Comment, Field}
use Rattle.rec_text.specs.Elements.{Piece, AreElementsOf, IsElement, is_element, text_of}
use Rattle.rec_text.specs.Places.{AreFrom, piece_of, pieces_of}
use Rattle.rec_text.specs.Records.{is_field_at, is_field_piece}
use Rattle.rec_text.proofs.lemmas.FaultLemmas.{same_value}
use Rattle.rec_text.proofs.lemmas.ListLemmas.{AllByRecursion-slice_get, slice_get-drop, slice_get-take}
use Rattle.rec_text.proofs.lemmas.reading.ReadingLemmas.{one_reading}
use Rattle.rec_diff.specs.Placed.{Placed, PlacedRecord, is_field, placed_from, placed_text, record_of, records_from, size}
use Rattle.rec_diff.specs.declared.reverting.reading.Record.{Record}
use Rattle.rec_diff.specs.proving.Reading.{IsFieldOf, LiesInAt, fields_at, owns_in, placed, ranges_of, type_past}
use Rattle.rec_diff.proofs.lemmas.reverting.ListLemmas.{any_at, at_any, at_kept_too, get_within_take, kept_at}

-- ---- pieces

some_bytes : (kind : Kind) (bytes : List ℕ) → is_element kind bytes ≡ true → 0 < length bytes
some_bytes Blank [] is = absurd (false≢true is)
some_bytes Comment [] is = absurd (false≢true is)
some_bytes Field [] is = absurd (false≢true is)
some_bytes kind (b ∷ bytes) is = omega arith

pub piece_has_bytes : (piece : Piece) → IsElement piece → 0 < length piece.bytes
piece_has_bytes piece is = some_bytes piece.kind piece.bytes is

-- its bytes tell what a piece is
pub one_piece : (one other : Piece) → IsElement one → IsElement other → one.bytes ≡ other.bytes → one ≡ other
one_piece one other is is_other same =
    let read : AreElementsOf (one ∷ []) one.bytes = record { joined = append-nil one.bytes; well_formed = (is, tt); lines_end = tt } in
    let read_other : AreElementsOf (other ∷ []) one.bytes =
    record { joined = append-nil other.bytes ∙ sym same; well_formed = (is_other, tt); lines_end = tt } in
    let pieces : one ∷ [] ≡ other ∷ [] = same_value (one ∷ []) (other ∷ []) (one_reading one.bytes (Ok (one ∷ [])) (Ok (other ∷ [])) read read_other) in
    cc

-- ---- elements

pub piece_at : (at : ℕ) (pieces : List Piece) (i : ℕ) (x : Placed) → slice_get (placed_from at pieces) i ≡ Some x → slice_get pieces i ≡ Some x.piece
piece_at at [] i x is = absurd (none-some x is)
piece_at at (p ∷ pieces) zero x is = ap (λ (q : Piece). Some q) (ap (λ (y : Placed). y.piece) (same_Some (record { at = at; piece = p }) x is))
piece_at at (p ∷ pieces) (suc i) x is = piece_at (at + length p.bytes) pieces i x is

pub field_at : (at : ℕ) (pieces : List Piece) (i : ℕ) (x : Placed) → slice_get (placed_from at pieces) i ≡ Some x → is_field_at pieces i ≡ is_field x
field_at at pieces i x is = ap (λ o. option_map_or is_field_piece o false) (piece_at at pieces i x is)

pub placed_at : (at : ℕ) (pieces : List Piece) (i : ℕ) → is_field_at pieces i ≡ true → (x : Placed) × (slice_get (placed_from at pieces) i ≡ Some x)
placed_at at [] i is = absurd (false≢true is)
placed_at at (p ∷ pieces) zero is = (record { at = at; piece = p }, refl)
placed_at at (p ∷ pieces) (suc i) is = placed_at (at + length p.bytes) pieces i is

pub length-placed_from : (at : ℕ) (pieces : List Piece) → length (placed_from at pieces) ≡ length pieces
length-placed_from at [] = refl
length-placed_from at (p ∷ pieces) = ap suc (length-placed_from (at + length p.bytes) pieces)

-- an element's text stands at its place
pub element_cut : (at : ℕ) (pieces : List Piece) (i : ℕ) (x : Placed) → slice_get (placed_from at pieces) i ≡ Some x
    → (first last : List ℕ) × (text_of pieces ≡ first ++ (x.piece.bytes ++ last)) × (at + length first ≡ x.at)
element_cut at [] i x is = absurd (none-some x is)
element_cut at (p ∷ pieces) zero x is =
    let same = same_Some (record { at = at; piece = p }) x is in
    let place : at ≡ x.at = ap (λ (y : Placed). y.at) same in
    ([], text_of pieces, ap (λ (y : Placed). y.piece.bytes ++ text_of pieces) same, omega (arith, place))
element_cut at (p ∷ pieces) (suc i) x is =
    let rest = element_cut (at + length p.bytes) pieces i x is in
    let place = rest.3 in
    (p.bytes ++ rest.0, rest.1, ap (λ t. p.bytes ++ t) rest.2 ∙ sym (append_assoc p.bytes rest.0 (x.piece.bytes ++ rest.1)), omega (arith, place, length-append p.bytes rest.0))

module _ (pieces : List Piece) (i : ℕ) (x : Placed) (is : slice_get (placed_from 0 pieces) i ≡ Some x) where
  pub element_within : x.at + size x ≤ length (text_of pieces)
  element_within =
      let cut = element_cut 0 pieces i x is in
      let place = cut.3 in
      omega (arith, place, ap length cut.2, length-append cut.0 (x.piece.bytes ++ cut.1), length-append x.piece.bytes cut.1)

  pub element_there : between x.at (x.at + size x) (text_of pieces) ≡ x.piece.bytes
  element_there =
      let cut = element_cut 0 pieces i x is in
      let place = cut.3 in
      let count : x.at + size x - x.at ≡ length x.piece.bytes = omega arith in
      ap (λ t. between x.at (x.at + size x) t) cut.2
      ∙ ap (take (x.at + size x - x.at)) (drop_at cut.0 (x.piece.bytes ++ cut.1) x.at (omega (arith, place)))
      ∙ take_at x.piece.bytes cut.1 (x.at + size x - x.at) (sym count)

low_place : (at : ℕ) (pieces : List Piece) (i : ℕ) (x : Placed) → slice_get (placed_from at pieces) i ≡ Some x → at ≤ x.at
low_place at pieces i x is = let place = (element_cut at pieces i x is).3 in omega (arith, place)

pub later_element : (at : ℕ) (pieces : List Piece) (i j : ℕ) (x y : Placed) → slice_get (placed_from at pieces) i ≡ Some x → slice_get (placed_from at pieces) j ≡ Some y → i < j
    → x.at + size x ≤ y.at
later_element at [] i j x y is other order = absurd (none-some x is)
later_element at (p ∷ pieces) zero zero x y is other order = absurd (omega (arith, order))
later_element at (p ∷ pieces) zero (suc j) x y is other order =
    let same : at + length p.bytes ≡ x.at + size x = ap (λ (z : Placed). z.at + size z) (same_Some (record { at = at; piece = p }) x is) in
    let low = low_place (at + length p.bytes) pieces j y other in
    omega (arith, same, low)
later_element at (p ∷ pieces) (suc i) zero x y is other order = absurd (omega (arith, order))
later_element at (p ∷ pieces) (suc i) (suc j) x y is other order = later_element (at + length p.bytes) pieces i j x y is other (omega (arith, order))

module _ (pieces : List Piece) (well_formed : AllByRecursion IsElement pieces) where
  pub is_element_at : (i : ℕ) (x : Placed) → slice_get (placed_from 0 pieces) i ≡ Some x → IsElement x.piece
  is_element_at i x is = AllByRecursion-slice_get IsElement pieces i x.piece well_formed (piece_at 0 pieces i x is)

  pub has_bytes : (i : ℕ) (x : Placed) → slice_get (placed_from 0 pieces) i ≡ Some x → 0 < size x
  has_bytes i x is = piece_has_bytes x.piece (is_element_at i x is)

  -- each element stands at a place of its own
  pub one_index : (i j : ℕ) (x y : Placed) → slice_get (placed_from 0 pieces) i ≡ Some x → slice_get (placed_from 0 pieces) j ≡ Some y → x.at ≡ y.at → i ≡ j
  one_index i j x y is other same = elim (cases_order i j) [
    | inl e ↦ e
    | inr (inl before) ↦ absurd (let some = has_bytes i x is in let order = later_element 0 pieces i j x y is other before in omega (arith, some, order, same))
    | inr (inr later) ↦ absurd (let some = has_bytes j y other in let order = later_element 0 pieces j i y x other is later in omega (arith, some, order, same))
  ]

pub placed_elements : (at : ℕ) (elements : List Element) → AreFrom at elements → map placed elements ≡ placed_from at (pieces_of elements)
placed_elements at [] from = refl
placed_elements at (e ∷ es) from =
    ap (λ a. record { at = a; piece = piece_of e } ∷ map placed es) from.0
    ∙ ap (λ rest. record { at = at; piece = piece_of e } ∷ rest) (placed_elements (at + length e.raw.now) es from.1)

-- ---- records

pub length-records_from : (record_type : Option (List ℕ)) (owns : List (List Placed)) → length (records_from record_type owns) ≡ length owns
length-records_from record_type [] = refl
length-records_from record_type (own ∷ owns) = ap suc (length-records_from (record_of record_type own).record_type owns)

pub record_at : (record_type : Option (List ℕ)) (owns : List (List Placed)) (k : ℕ) (own : List Placed) → slice_get owns k ≡ Some own
    → (of_type : Option (List ℕ)) × (slice_get (records_from record_type owns) k ≡ Some (record_of of_type own))
record_at record_type [] k own is = absurd (none-some own is)
record_at record_type (first ∷ owns) zero own is = (record_type, ap (λ (es : List Placed). Some (record_of record_type es)) (same_Some first own is))
record_at record_type (first ∷ owns) (suc k) own is = record_at (record_of record_type first).record_type owns k own is

pub records_from-push : (record_type : Option (List ℕ)) (owns : List (List Placed)) (own : List Placed)
    → records_from record_type (owns ++ own ∷ []) ≡ records_from record_type owns ++ record_of (type_past record_type owns) own ∷ []
records_from-push record_type [] own = refl
records_from-push record_type (first ∷ owns) own = ap (λ rest. record_of record_type first ∷ rest) (records_from-push (record_of record_type first).record_type owns own)

pub type_past-push : (record_type : Option (List ℕ)) (owns : List (List Placed)) (own : List Placed)
    → type_past record_type (owns ++ own ∷ []) ≡ (record_of (type_past record_type owns) own).record_type
type_past-push record_type [] own = refl
type_past-push record_type (first ∷ owns) own = type_past-push (record_of record_type first).record_type owns own

module _ (pieces : List Piece) (ranges : List (Range ℕ)) where
  own_at : (k : ℕ) (own : Range ℕ) → slice_get ranges k ≡ Some own → slice_get (owns_in pieces ranges) k ≡ Some (drop own.start (take own.end (placed_from 0 pieces)))
  own_at k own is =
      slice_get-map (λ (r : Range ℕ). drop r.start (take r.end (placed_from 0 pieces))) ranges k
      ∙ ap (option_map (λ (r : Range ℕ). drop r.start (take r.end (placed_from 0 pieces)))) is

  pub fields_in : (k : ℕ) (own : Range ℕ) → slice_get ranges k ≡ Some own
      → fields_at (placed_text pieces ranges) k ≡ filter is_field (drop own.start (take own.end (placed_from 0 pieces)))
  fields_in k own is =
      let found = record_at None (owns_in pieces ranges) k (drop own.start (take own.end (placed_from 0 pieces))) (own_at k own is) in
      ap (λ o. option_map_or (λ (r : PlacedRecord). r.fields) o []) found.1

  no_fields : (k : ℕ) → slice_get ranges k ≡ None → fields_at (placed_text pieces ranges) k ≡ []
  no_fields k none =
      let past : length ranges ≤ k = elim (slice_get_cases ranges k).1 [ inl f ↦ absurd (none-some f.0 (sym none ∙ f.2)) | inr f ↦ f.0 ] in
      ap (λ o. option_map_or (λ (r : PlacedRecord). r.fields) o [])
      (slice_get_past (records_from None (owns_in pieces ranges)) k
      (omega (arith, past, length-records_from None (owns_in pieces ranges), length-map ranges (λ (r : Range ℕ). drop r.start (take r.end (placed_from 0 pieces))))))

  pub field_of_lies : (i k : ℕ) → LiesInAt pieces ranges i k → IsFieldOf (placed_text pieces ranges) i k
  field_of_lies i k (own, is, low, high, field) =
      let x = placed_at 0 pieces i field in
      let passes : is_field x.0 ≡ true = sym (field_at 0 pieces i x.0 x.1) ∙ field in
      let inside : slice_get (drop own.start (take own.end (placed_from 0 pieces))) (i - own.start) ≡ Some x.0 =
      slice_get-drop own.start (i - own.start) (take own.end (placed_from 0 pieces))
      ∙ ap (slice_get (take own.end (placed_from 0 pieces))) (let e : own.start + (i - own.start) ≡ i = omega (arith, low) in e)
      ∙ slice_get-take own.end i (placed_from 0 pieces) high ∙ x.1 in
      let there = at_kept_too is_field (drop own.start (take own.end (placed_from 0 pieces))) (i - own.start) x.0 inside passes in (
        x.0,
        x.1,
        subst (λ fields. Any (λ y. x.0 ≡ y) fields) (sym (fields_in k own is))
            (at_any (λ y. x.0 ≡ y) (filter is_field (drop own.start (take own.end (placed_from 0 pieces)))) there.0 x.0 there.1 refl),
      )

  field_lies : (i k : ℕ) (x : Placed) (own : Range ℕ) → AllByRecursion IsElement pieces → slice_get (placed_from 0 pieces) i ≡ Some x → slice_get ranges k ≡ Some own
      → Any (λ y. x ≡ y) (filter is_field (drop own.start (take own.end (placed_from 0 pieces)))) → LiesInAt pieces ranges i k
  field_lies i k x own well_formed at is any =
      let inside = any_at (λ y. x ≡ y) (filter is_field (drop own.start (take own.end (placed_from 0 pieces)))) any in
      let found = kept_at is_field (drop own.start (take own.end (placed_from 0 pieces))) inside.0 inside.1 inside.2 in
      let there = get_within_take own.end (own.start + found.0) (placed_from 0 pieces) inside.1
      (sym (slice_get-drop own.start found.0 (take own.end (placed_from 0 pieces))) ∙ found.1) in
      let same = one_index pieces well_formed i (own.start + found.0) x inside.1 at there.1 (ap (λ (y : Placed). y.at) inside.3) in
      let high = there.0 in
      (own, is, omega (arith, same), omega (arith, same, high), field_at 0 pieces i x at ∙ ap is_field inside.3 ∙ found.2)

  pub lies_of_field : (i k : ℕ) → AllByRecursion IsElement pieces → IsFieldOf (placed_text pieces ranges) i k → LiesInAt pieces ranges i k
  lies_of_field i k well_formed (x, at, any) = elim (slice_get_cases ranges k).1 [
    | inl f ↦ field_lies i k x f.0 well_formed at f.2 (subst (λ fields. Any (λ y. x ≡ y) fields) (fields_in k f.0 f.2) any)
    | inr f ↦ absurd (let none = any_at (λ y. x ≡ y) [] (subst (λ fields. Any (λ y. x ≡ y) fields) (no_fields k f.1) any) in none-some none.1 none.2)
  ]

pub length-records : (pieces : List Piece) (records : List Record) → length (records_from None (owns_in pieces (ranges_of records))) ≡ length records
length-records pieces records =
    length-records_from None (owns_in pieces (ranges_of records)) ∙ length-map (ranges_of records) (λ (r : Range ℕ). drop r.start (take r.end (placed_from 0 pieces)))
    ∙ length-map records (λ (own : Record). own.elements)

-- a field of a record is an element
pub field_is_there : (pieces : List Piece) (ranges : List (Range ℕ)) (k n : ℕ) (x : Placed) → slice_get (fields_at (placed_text pieces ranges) k) n ≡ Some x
    → (i : ℕ) × (slice_get (placed_from 0 pieces) i ≡ Some x)
field_is_there pieces ranges k n x at = elim (slice_get_cases ranges k).1 [
  | inl f ↦
      let own = f.0 in
      let found = kept_at is_field (drop own.start (take own.end (placed_from 0 pieces))) n x (ap (λ l. slice_get l n) (sym (fields_in pieces ranges k own f.2)) ∙ at) in
      let there = get_within_take own.end (own.start + found.0) (placed_from 0 pieces) x (sym (slice_get-drop own.start found.0 (take own.end (placed_from 0 pieces))) ∙ found.1) in
      (own.start + found.0, there.1)
  | inr f ↦ absurd (none-some x (ap (λ l. slice_get l n) (sym (no_fields pieces ranges k f.1)) ∙ at))
]
