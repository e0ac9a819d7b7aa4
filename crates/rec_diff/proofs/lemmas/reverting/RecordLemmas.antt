-- Elements and records of a text that reads: in which order they stand, and which record a field is in.
use Rattle.std.proofs.Common.{◌≡◌, ◌∙◌, ℕ, zero, suc, ◌+◌, ◌-◌, ◌≤◌, ◌<◌, true, false, not, IsTrue, List, [], ◌∷◌, length, map, take, drop, filter, Option, Some, None, slice_get}
use Rattle.std.proofs.Common.{Any, inl, inr, refl, sym, ap, subst, arith}
use Rattle.std.specs.List.{AllByRecursion}
use Rattle.std.specs.Option.{option_map_or}
use Rattle.std.specs.declared.ops.Range.{Range}
use Rattle.std.proofs.lemmas.Bool.{cases_Bool, cases_lt, cases_order, false≢true}
use Rattle.std.proofs.lemmas.Option.{none-some, same_Some, slice_get_within}
use Rattle.rec_text.specs.declared.element.Kind.{Kind}
use Rattle.rec_text.specs.declared.element.Kind.TheVariants.{Blank, Comment, Field}
use Rattle.rec_text.specs.Elements.{AreElementsOf, IsElement, Piece, is_element}
use Rattle.rec_text.specs.Records.{AreAscending, AreRecords, IsRecord, is_blank_piece, is_field_at, is_field_piece, is_full_at}
use Rattle.rec_text.proofs.lemmas.ListLemmas.{slice_get-drop, slice_get-take}
use Rattle.rec_diff.specs.Placed.{Placed, PlacedRecord, PlacedText, is_blank, is_field, placed_from, placed_text, record_of, records_from, size}
use Rattle.rec_diff.specs.proving.Making.{IsBlankAt}
use Rattle.rec_diff.specs.proving.Reading.{IsFieldOf, fields_at}
use Rattle.rec_diff.proofs.lemmas.reverting.ListLemmas.{all_at, all_from, any_at, at_is, at_kept_too, is_at, kept_at, one_at, past_take, there}

-- ---- elements

element_some : (kind : Kind) (bytes : List ℕ) → IsTrue (is_element kind bytes) → 0 < length bytes
element_some Blank [] is = absurd (false≢true is)
element_some Comment [] is = absurd (false≢true is)
element_some Field [] is = absurd (false≢true is)
element_some kind (b ∷ bytes) is = omega arith

piece_at : (at : ℕ) (pieces : List Piece) (i : ℕ) (x : Placed) → slice_get (placed_from at pieces) i ≡ Some x → slice_get pieces i ≡ Some x.piece
piece_at at [] i x is = absurd (none-some x is)
piece_at at (p ∷ pieces) zero x is = let e : record { at = at; piece = p } ≡ x = same_Some (record { at = at; piece = p }) x is in ap (λ (y : Placed). Some y.piece) e
piece_at at (p ∷ pieces) (suc i) x is = piece_at (at + length p.bytes) pieces i x is

placed_at : (at : ℕ) (pieces : List Piece) (i : ℕ) (p : Piece) → slice_get pieces i ≡ Some p → (x : Placed) × (slice_get (placed_from at pieces) i ≡ Some x) × (x.piece ≡ p)
placed_at at [] i p is = absurd (none-some p is)
placed_at at (q ∷ pieces) zero p is = (record { at = at; piece = q }, refl, same_Some q p is)
placed_at at (q ∷ pieces) (suc i) p is = placed_at (at + length q.bytes) pieces i p is

not_before : (at : ℕ) (pieces : List Piece) (i : ℕ) (x : Placed) → slice_get (placed_from at pieces) i ≡ Some x → at ≤ x.at
not_before at [] i x is = absurd (none-some x is)
not_before at (p ∷ pieces) zero x is = let e : at ≡ x.at = ap (λ (y : Placed). y.at) (same_Some (record { at = at; piece = p }) x is) in omega (arith, e)
not_before at (p ∷ pieces) (suc i) x is = let low = not_before (at + length p.bytes) pieces i x is in omega (arith, low)

ends_before : (at : ℕ) (pieces : List Piece) (i j : ℕ) (x y : Placed) → i < j → slice_get (placed_from at pieces) i ≡ Some x → slice_get (placed_from at pieces) j ≡ Some y → x.at + size x ≤ y.at
ends_before at [] i j x y order is is_too = absurd (none-some x is)
ends_before at (p ∷ pieces) i zero x y order is is_too = absurd (omega (arith, order))
ends_before at (p ∷ pieces) zero (suc j) x y order is is_too =
    let low = not_before (at + length p.bytes) pieces j y is_too in
    let e : at + length p.bytes ≡ x.at + size x = ap (λ (z : Placed). z.at + size z) (same_Some (record { at = at; piece = p }) x is) in
    omega (arith, low, e)
ends_before at (p ∷ pieces) (suc i) (suc j) x y order is is_too = ends_before (at + length p.bytes) pieces i j x y (omega (arith, order)) is is_too

-- ---- records

-- a field of some elements of a text is one of them
in_range : (elements : List Placed) (start end : ℕ) (k : ℕ) (x : Placed) → slice_get (filter is_field (drop start (take end elements))) k ≡ Some x
    → (i : ℕ) × (start ≤ i) × (i < end) × (slice_get elements i ≡ Some x) × (is_field x ≡ true)
in_range elements start end k x at =
    let (j, there, passes) = kept_at is_field (drop start (take end elements)) k x at in
    let its : slice_get (take end elements) (start + j) ≡ Some x = sym (slice_get-drop start j (take end elements)) ∙ there in
    elim (cases_lt (start + j) end) [
      | inl low ↦ (start + j, omega arith, low, sym (slice_get-take end (start + j) elements low) ∙ its, passes)
      | inr high ↦ absurd (none-some x (sym (past_take elements end (start + j) high) ∙ its))
    ]

range_in : (elements : List Placed) (start end : ℕ) (i : ℕ) (x : Placed) → start ≤ i → i < end → slice_get elements i ≡ Some x → is_field x ≡ true
    → (k : ℕ) × (slice_get (filter is_field (drop start (take end elements))) k ≡ Some x)
range_in elements start end i x low high at passes =
    let is : start + (i - start) ≡ i = omega (arith, low) in
    let there : slice_get (drop start (take end elements)) (i - start) ≡ Some x =
    slice_get-drop start (i - start) (take end elements) ∙ ap (slice_get (take end elements)) is ∙ slice_get-take end i elements high ∙ at in
    at_kept_too is_field (drop start (take end elements)) (i - start) x there passes

fields_from : (record_type : Option (List ℕ)) (elements : List Placed) (ranges : List (Range ℕ)) (k : ℕ) (range : Range ℕ) → slice_get ranges k ≡ Some range
    → (r : PlacedRecord) × (slice_get (records_from record_type (map (λ own. drop own.start (take own.end elements)) ranges)) k ≡ Some r)
    × (r.fields ≡ filter is_field (drop range.start (take range.end elements)))
fields_from record_type elements [] k range at = absurd (none-some range at)
fields_from record_type elements (own ∷ ranges) zero range at =
    (record_of record_type (drop own.start (take own.end elements)), refl, ap (λ (o : Range ℕ). filter is_field (drop o.start (take o.end elements))) (same_Some own range at))
fields_from record_type elements (own ∷ ranges) (suc k) range at = fields_from (record_of record_type (drop own.start (take own.end elements))).record_type elements ranges k range at

range_of : (record_type : Option (List ℕ)) (elements : List Placed) (ranges : List (Range ℕ)) (k : ℕ) (r : PlacedRecord)
    → slice_get (records_from record_type (map (λ own. drop own.start (take own.end elements)) ranges)) k ≡ Some r
    → (range : Range ℕ) × (slice_get ranges k ≡ Some range) × (r.fields ≡ filter is_field (drop range.start (take range.end elements)))
range_of record_type elements [] k r at = absurd (none-some r at)
range_of record_type elements (own ∷ ranges) zero r at =
    (own, refl, ap (λ (o : PlacedRecord). o.fields) (sym (same_Some (record_of record_type (drop own.start (take own.end elements))) r at)))
range_of record_type elements (own ∷ ranges) (suc k) r at = range_of (record_of record_type (drop own.start (take own.end elements))).record_type elements ranges k r at

ascends : (least : ℕ) (ranges : List (Range ℕ)) (k : ℕ) (range : Range ℕ) → AreAscending least ranges → AllByRecursion (λ (r : Range ℕ). r.start < r.end) ranges → slice_get ranges k ≡ Some range
    → least ≤ range.start
ascends least [] k range up some at = absurd (none-some range at)
ascends least (r ∷ ranges) zero range up some at = let low = up.0 in let e : r.start ≡ range.start = ap (λ (o : Range ℕ). o.start) (same_Some r range at) in omega (arith, low, e)
ascends least (r ∷ ranges) (suc k) range up some at =
    let low = up.0 in let more = some.0 in let next = ascends r.end ranges k range up.1 some.1 at in omega (arith, low, more, next)

apart : (least : ℕ) (ranges : List (Range ℕ)) (k l : ℕ) (one other : Range ℕ) → k < l → AreAscending least ranges → AllByRecursion (λ (r : Range ℕ). r.start < r.end) ranges
    → slice_get ranges k ≡ Some one → slice_get ranges l ≡ Some other → one.end ≤ other.start
apart least [] k l one other order up some at at_too = absurd (none-some one at)
apart least (r ∷ ranges) k zero one other order up some at at_too = absurd (omega (arith, order))
apart least (r ∷ ranges) zero (suc l) one other order up some at at_too =
    let low = ascends r.end ranges l other up.1 some.1 at_too in let e : r.end ≡ one.end = ap (λ (o : Range ℕ). o.end) (same_Some r one at) in omega (arith, low, e)
apart least (r ∷ ranges) (suc k) (suc l) one other order up some at at_too = apart r.end ranges k l one other (omega (arith, order)) up.1 some.1 at at_too

module _ (text : List ℕ) (pieces : List Piece) (ranges : List (Range ℕ)) (read : AreElementsOf pieces text) (are : AreRecords pieces ranges) where
  abbrev own : PlacedText
  own = placed_text pieces ranges

  pub is_some : (i : ℕ) (x : Placed) → slice_get own.elements i ≡ Some x → 0 < size x
  is_some i x at = element_some x.piece.kind x.piece.bytes (all_at IsElement pieces i x.piece read.well_formed (piece_at 0 pieces i x at))

  pub ends_first : (i j : ℕ) (x y : Placed) → i < j → slice_get own.elements i ≡ Some x → slice_get own.elements j ≡ Some y → x.at + size x ≤ y.at
  ends_first i j x y order at at_too = ends_before 0 pieces i j x y order at at_too

  -- an element stands once
  pub stands_once : (i j : ℕ) (x : Placed) → slice_get own.elements i ≡ Some x → slice_get own.elements j ≡ Some x → i ≡ j
  stands_once i j x at at_too = elim (cases_order i j) [
    | inl e ↦ e
    | inr (inl low) ↦ absurd (let some = is_some i x at in let ends = ends_first i j x x low at at_too in omega (arith, some, ends))
    | inr (inr high) ↦ absurd (let some = is_some i x at in let ends = ends_first j i x x high at_too at in omega (arith, some, ends))
  ]

  some_ranges : AllByRecursion (λ (r : Range ℕ). r.start < r.end) ranges
  some_ranges = all_from (λ (r : Range ℕ). r.start < r.end) ranges (λ k r at. (all_at (IsRecord pieces) ranges k r are.each at).some)

  -- the range of a record that a field is in
  pub record FieldIn (i k : ℕ) : Type 0 where
    pub x : Placed
    pub at : slice_get own.elements i ≡ Some x
    pub field : is_field x ≡ true
    pub range : Range ℕ
    pub is_range : slice_get ranges k ≡ Some range
    pub low : range.start ≤ i
    pub high : i < range.end

  -- a field of a record is an element
  pub field_at : (k : ℕ) (x : Placed) → Any (◌≡◌ x) (fields_at own k) → (i : ℕ) × (slice_get own.elements i ≡ Some x) × FieldIn i k
  field_at k x any = by (slice_get own.records k) refl (at_is (fields_at own k) x any)
    where
      by : (o : Option PlacedRecord) → slice_get own.records k ≡ o → ((j : ℕ) × (slice_get (fields_at own k) j ≡ Some x)) → (i : ℕ) × (slice_get own.elements i ≡ Some x) × FieldIn i k
      by None is (j, there) = absurd (none-some x (sym (ap (λ o. slice_get (option_map_or (λ (r : PlacedRecord). r.fields) o []) j) is) ∙ there))
      by (Some r) is (j, there) =
          let (range, is_range, fields) = range_of None own.elements ranges k r is in
          let its : slice_get (filter is_field (drop range.start (take range.end own.elements))) j ≡ Some x =
          sym (ap (λ l. slice_get l j) fields) ∙ (sym (ap (λ o. slice_get (option_map_or (λ (r : PlacedRecord). r.fields) o []) j) is) ∙ there) in
          let (i, low, high, at, passes) = in_range own.elements range.start range.end j x its in
          (i, at, record { x = x; at = at; field = passes; range = range; is_range = is_range; low = low; high = high })

  pub field_in : (i k : ℕ) → IsFieldOf own i k → FieldIn i k
  field_in i k (x, at, any) = let (j, at_too, is) = field_at k x any in subst (λ n. FieldIn n k) (stands_once j i x at_too at) is

  pub in_field : (i k : ℕ) (x : Placed) (range : Range ℕ) → slice_get own.elements i ≡ Some x → is_field x ≡ true → slice_get ranges k ≡ Some range → range.start ≤ i → i < range.end
      → IsFieldOf own i k
  in_field i k x range at passes is_range low high =
      let (r, is, fields) = fields_from None own.elements ranges k range is_range in
      let (j, there) = range_in own.elements range.start range.end i x low high at passes in (
        x,
        at,
        subst (Any (◌≡◌ x)) (sym (ap (λ o. option_map_or (λ (r : PlacedRecord). r.fields) o []) is ∙ fields))
            (is_at (filter is_field (drop range.start (take range.end own.elements))) j x there),
      )

  is_field_there : (i : ℕ) (x : Placed) → slice_get own.elements i ≡ Some x → is_field x ≡ true → is_field_at pieces i ≡ true
  is_field_there i x at passes = ap (λ o. option_map_or is_field_piece o false) (piece_at 0 pieces i x at) ∙ passes

  -- each field is in a record
  pub owned : (i : ℕ) (x : Placed) → slice_get own.elements i ≡ Some x → is_field x ≡ true → (k : ℕ) × IsFieldOf own i k
  owned i x at passes =
      let (k, range, is_range, (low, high)) = any_at (λ (range : Range ℕ). (range.start ≤ i) × (i < range.end)) ranges (are.complete i (is_field_there i x at passes)) in
      (k, in_field i k x range at passes is_range low high)

  pub field_is : (i k : ℕ) (x : Placed) → slice_get own.elements i ≡ Some x → IsFieldOf own i k → is_field x ≡ true
  field_is i k x at of_record = let f = field_in i k of_record in subst (λ y. is_field y ≡ true) (one_at own.elements i f.x x f.at at) f.field

  -- each record has a field
  pub has_field : (k : ℕ) (r : PlacedRecord) → slice_get own.records k ≡ Some r → (x : Placed) × Any (◌≡◌ x) r.fields
  has_field k r at =
      let (range, is_range, fields) = range_of None own.elements ranges k r at in
      let is = all_at (IsRecord pieces) ranges k range are.each is_range in
      by range fields is.some (slice_get pieces range.start) refl is.first
    where
      by : (range : Range ℕ) → r.fields ≡ filter is_field (drop range.start (take range.end own.elements)) → range.start < range.end → (o : Option Piece) → slice_get pieces range.start ≡ o
          → option_map_or is_field_piece (slice_get pieces range.start) false ≡ true → (x : Placed) × Any (◌≡◌ x) r.fields
      by range fields some None is first = absurd (false≢true (sym (ap (λ o. option_map_or is_field_piece o false) is) ∙ first))
      by range fields some (Some p) is first =
          let (x, there, same) = placed_at 0 pieces range.start p is in
          let passes : is_field x ≡ true = ap is_field_piece same ∙ (sym (ap (λ o. option_map_or is_field_piece o false) is) ∙ first) in
          let (j, its) = range_in own.elements range.start range.end range.start x (omega arith) some there passes in
          (x, subst (Any (◌≡◌ x)) (sym fields) (is_at (filter is_field (drop range.start (take range.end own.elements))) j x its))

  -- a field is in one record
  one_range : (k l : ℕ) (one other : Range ℕ) (i : ℕ) → slice_get ranges k ≡ Some one → slice_get ranges l ≡ Some other → one.start ≤ i → i < one.end → other.start ≤ i → i < other.end → k ≡ l
  one_range k l one other i at at_too low high low_too high_too = elim (cases_order k l) [
    | inl e ↦ e
    | inr (inl order) ↦ absurd (let ends = apart 0 ranges k l one other order are.ascending some_ranges at at_too in omega (arith, ends, high, low_too))
    | inr (inr order) ↦ absurd (let ends = apart 0 ranges l k other one order are.ascending some_ranges at_too at in omega (arith, ends, high_too, low))
  ]

  pub one_owner : (i k l : ℕ) → IsFieldOf own i k → IsFieldOf own i l → k ≡ l
  one_owner i k l one other =
      let f = field_in i k one in let g = field_in i l other in one_range k l f.range g.range i f.is_range g.is_range f.low f.high g.low g.high

  -- ---- fields with no blank line between them are in one record

  is_full : (i : ℕ) (x : Placed) → slice_get own.elements i ≡ Some x → (IsBlankAt own i → ⊥) → is_full_at pieces i ≡ true
  is_full i x at full = ap (λ o. option_map_or (λ piece. not (is_blank_piece piece)) o false) (piece_at 0 pieces i x at) ∙ elim (cases_Bool (is_blank x)) [
    | inl e ↦ absurd (full (x, at, e))
    | inr e ↦ ap not e
  ]

  next_owner : (i j k l : ℕ) → i ≤ j → ((n : ℕ) → i ≤ n → n ≤ j → IsBlankAt own n → ⊥) → IsFieldOf own i k → IsFieldOf own j l → k ≡ l
  next_owner i j k l order full one other =
      let f = field_in i k one in
      let g = field_in j l other in
      let is = all_at (IsRecord pieces) ranges k f.range are.each f.is_range in
      let within = slice_get_within own.elements j g.x g.at in
      let f_low = f.low in
      let f_high = f.high in
      let low = is.low in
      let high = is.high in
      let in_paragraph : j < is.paragraph.end = elim (cases_lt j is.paragraph.end) [
        | inl e ↦ e
        | inr e ↦
            let (x, at) = there own.elements is.paragraph.end (omega (arith, within, e)) in
            let size = slice_get_within pieces is.paragraph.end x.piece (piece_at 0 pieces is.paragraph.end x at) in
            absurd (false≢true (sym (is.is_paragraph.ends size) ∙ is_full is.paragraph.end x at (full is.paragraph.end (omega (arith, f_high, high)) e)))
      ] in
      let not_past : j < f.range.end = elim (cases_lt j f.range.end) [
        | inl e ↦ e
        | inr e ↦ absurd (false≢true (sym (is.following j e in_paragraph) ∙ is_field_there j g.x g.at g.field))
      ] in
      one_range k l f.range g.range j f.is_range g.is_range (omega (arith, f_low, order)) not_past g.low g.high

  pub same_owner : (i j k l from to : ℕ) → from ≤ i → i < to → from ≤ j → j < to → ((n : ℕ) → from ≤ n → n < to → IsBlankAt own n → ⊥) → IsFieldOf own i k → IsFieldOf own j l → k ≡ l
  same_owner i j k l from to low high low_too high_too full one other = elim (cases_lt j i) [
    | inl e ↦ sym (next_owner j i l k (omega (arith, e)) (λ n a b. full n (omega (arith, a, low_too)) (omega (arith, b, high))) other one)
    | inr e ↦ next_owner i j k l e (λ n a b. full n (omega (arith, a, low)) (omega (arith, b, high_too))) one other
  ]
