-- What there is in a part of a text: which elements are touched, and whose fields.
use Rattle.std.proofs.Common.{◌≡◌, ◌≢◌, ◌∙◌, ◌⊎◌, ◌↔◌, ℕ, ◌+◌, ◌-◌, ◌≤◌, ◌<◌, Bool, true, false, cond, ltb, ◌&&◌, List, [], length, get_or, map, option_map, Option, Some, None, slice_get, inl}
use Rattle.std.proofs.Common.{inr, refl, sym, ap, ap₂, subst, arith}
use Rattle.std.specs.List.{AllByRecursion}
use Rattle.std.specs.declared.ops.Range.{Range}
use Rattle.std.proofs.lemmas.Bool.{and_from, and_parts, cases_Bool, cases_eq, cases_lt, false≢true, lt-ltb, ltb-true}
use Rattle.std.proofs.lemmas.Option.{none-some, same_Some, slice_get-map, slice_get_past, slice_get_read, slice_get_within}
use Rattle.rec_text.specs.declared.element.Element.{Element}
use Rattle.rec_text.specs.Elements.{AreElementsOf, Piece}
use Rattle.rec_text.specs.Records.{AreRecords}
use Rattle.rec_diff.specs.declared.reverting.making.Among.{Among}
use Rattle.rec_diff.specs.declared.reverting.making.Among.TheVariants.{Nothing, Fields, Blank}
use Rattle.rec_diff.specs.declared.reverting.making.Pair.{Pair}
use Rattle.rec_diff.specs.declared.reverting.reading.Reading.{Reading}
use Rattle.rec_diff.specs.declared.turn.Turn.{Turn}
use Rattle.rec_diff.specs.Making.{IsFull, touched}
use Rattle.rec_diff.specs.Placed.{Placed, PlacedText, is_blank, placed_text, size}
use Rattle.rec_diff.specs.proving.Making.{AreInPlaceBy, AreInPlaceIn, AreLeast, ArePassed, AreSharedBy, AreSharedIn, IsAmong, IsAmongThese, IsBlankAt, IsInPlaceBy, IsLeast}
use Rattle.rec_diff.specs.proving.Making.{IsNext, IsSharedBy, among_with, or_fields, pair_noted, pair_of}
use Rattle.rec_diff.specs.proving.Reading.{IsFieldOf, IsReading, fields_at, placed, placed_of, ranges_of, text_of_reading}
use Rattle.rec_diff.proofs.lemmas.reverting.ListLemmas.{all_at, all_from, at_is, at_kept_too, at_some, is_at, kept_at, one_at, some_of, there as there_is}
use Rattle.rec_diff.proofs.lemmas.reverting.MakingLemmas.{are_least_map, pair_least}
use Rattle.rec_diff.proofs.lemmas.reverting.RecordLemmas.{ends_first, field_at, same_owner}

abbrev pub no_turn : Turn
no_turn = record { start = record { old = 0; new = 0 }; end = record { old = 0; new = 0 } }

-- ---- one more element

pub passed_more : (text : PlacedText) (i at : ℕ) (x : Placed) → slice_get text.elements i ≡ Some x → x.at + size x ≤ at → ArePassed text i at → ArePassed text (i + 1) at
passed_more text i at x is ends passed = λ j y low there. elim (cases_lt j i) [
  | inl e ↦ passed j y e there
  | inr e ↦
      let same : j ≡ i = omega (arith, low, e) in
      let its : x ≡ y = one_at text.elements i x y is (ap (slice_get text.elements) (sym same) ∙ there) in
      subst (λ z. z.at + size z ≤ at) its ends
]

pub passed_later : (text : PlacedText) (i at later : ℕ) → at ≤ later → ArePassed text i at → ArePassed text i later
passed_later text i at later order passed = λ j y low there. let ends = passed j y low there in omega (arith, order, ends)

module _ (text : PlacedText) (from : ℕ) where
  pub among_none : IsAmongThese text from from Nothing
  among_none = λ i low high. absurd (omega (arith, low, high))

  -- with one that is blank
  pub among_blank : (i : ℕ) (x : Placed) → from ≤ i → slice_get text.elements i ≡ Some x → is_blank x ≡ true → IsAmongThese text from (i + 1) Blank
  among_blank i x low at blank = (i, low, omega arith, (x, at, blank))

  full_more : (i : ℕ) (x : Placed) → slice_get text.elements i ≡ Some x → is_blank x ≡ false → ((j : ℕ) → from ≤ j → j < i → IsBlankAt text j → ⊥) → (j : ℕ) → from ≤ j → j < i + 1
      → IsBlankAt text j → ⊥
  full_more i x at blank full j low high (y, there, is) = elim (cases_lt j i) [
    | inl e ↦ full j low e (y, there, is)
    | inr e ↦
        let same : j ≡ i = omega (arith, high, e) in
        let its : y ≡ x = one_at text.elements i y x (ap (slice_get text.elements) (sym same) ∙ there) at in
        false≢true (sym blank ∙ subst (λ z. is_blank z ≡ true) its is)
  ]

  -- with one that isn't
  pub among_full : (i : ℕ) (x : Placed) (among : Among) (owner : Option ℕ) → from ≤ i → slice_get text.elements i ≡ Some x → is_blank x ≡ false → ((k : ℕ) → (owner ≡ Some k) ↔ IsFieldOf text i k)
      → IsAmongThese text from i among → IsAmongThese text from (i + 1) (or_fields among owner)
  among_full i x Nothing None low at blank owns these = λ j least high. (
    full_more i x at blank (λ n a b. (these n a b).0) j least high,
    λ k is. elim (cases_lt j i) [
      | inl e ↦ (these j least e).1 k is
      | inr e ↦ let same : j ≡ i = omega (arith, high, e) in none-some k ((owns k).1 (subst (λ n. IsFieldOf text n k) same is))
    ],
  )
  among_full i x Nothing (Some k) low at blank owns these = (full_more i x at blank (λ n a b. (these n a b).0), (i, low, omega arith, (owns k).0 refl))
  among_full i x (Fields k) owner low at blank owns (full, (j, least, high, is)) = (full_more i x at blank full, (j, least, omega (arith, high), is))
  among_full i x Blank owner low at blank owns (j, least, high, is) = (j, least, omega (arith, high), is)

  pub among_more : (i : ℕ) (x : Placed) (among : Among) (owner : Option ℕ) → from ≤ i → slice_get text.elements i ≡ Some x → ((k : ℕ) → (owner ≡ Some k) ↔ IsFieldOf text i k)
      → IsAmongThese text from i among → IsAmongThese text from (i + 1) (among_with among (is_blank x) owner)
  among_more i x among owner low at owns these = by (is_blank x) refl
    where
      by : (blank : Bool) → is_blank x ≡ blank → IsAmongThese text from (i + 1) (cond blank Blank (or_fields among owner))
      by true is = among_blank i x low at is
      by false is = among_full i x among owner low at is owns these

-- ---- what is touched

is_touched : (at count : ℕ) (x : Placed) → x.at < at + count → at < x.at + size x → (ltb x.at (at + count) && ltb at (x.at + size x)) ≡ true
is_touched at count x begins ends = and_from (ltb x.at (at + count)) (ltb at (x.at + size x)) (lt-ltb x.at (at + count) begins) (lt-ltb at (x.at + size x) ends)

touches : (at count : ℕ) (x : Placed) → (ltb x.at (at + count) && ltb at (x.at + size x)) ≡ true → (x.at < at + count) × (at < x.at + size x)
touches at count x is =
    let (begins, ends) = and_parts (ltb x.at (at + count)) (ltb at (x.at + size x)) is in (ltb-true x.at (at + count) begins, ltb-true at (x.at + size x) ends)

module _ (t : List ℕ) (pieces : List Piece) (ranges : List (Range ℕ)) (read : AreElementsOf pieces t) (are : AreRecords pieces ranges) (from at end : ℕ) (order : at ≤ end)
    (passed : ArePassed (placed_text pieces ranges) from at) (next : IsNext (placed_text pieces ranges) from at) where
  abbrev own : PlacedText
  own = placed_text pieces ranges

  abbrev Touched : List Placed → List Placed
  Touched elements = touched at (end - at) elements

  count : at + (end - at) ≡ end
  count = omega (arith, order)

  module _ (among : Among) (is : IsAmong own from end among) where
    -- what is touched is among these
    within : (i : ℕ) (x : Placed) → slice_get own.elements i ≡ Some x → x.at < end → at < x.at + size x → (from ≤ i) × (i < is.to)
    within i x there begins ends = (
      elim (cases_lt i from) [ inl e ↦ absurd (let past = passed i x e there in omega (arith, past, ends)) | inr e ↦ e ],
      elim (cases_lt i is.to) [ inl e ↦ e | inr e ↦ absurd (past e) ],
    )
      where
        past : is.to ≤ i → ⊥
        past high =
            let (y, last) = there_is own.elements is.to (let size = slice_get_within own.elements i x there in omega (arith, size, high)) in
            let low = is.next y last in
            elim (cases_eq is.to i) [
              | inl e ↦ let same : x ≡ y = one_at own.elements i x y there (ap (slice_get own.elements) (sym e) ∙ last) in let low_too = subst (λ z. end ≤ z.at) (sym same) low in
                  omega (arith, low_too, begins)
              | inr e ↦ let first = ends_first t pieces ranges read are is.to i y x (omega (arith, high, e)) last there in omega (arith, first, low, begins)
            ]

    -- and what is among these is touched
    begins : (i : ℕ) (x : Placed) → slice_get own.elements i ≡ Some x → from ≤ i → i < is.to → (x.at < at + (end - at)) × (at < x.at + size x)
    begins i x there low high = (
      let b = is.before i x low high there in omega (arith, b, count),
      elim (cases_eq from i) [
        | inl e ↦ next x (ap (slice_get own.elements) e ∙ there)
        | inr e ↦
            let (y, first) = there_is own.elements from (let size = slice_get_within own.elements i x there in omega (arith, size, low)) in
            let more = next y first in let ends = ends_first t pieces ranges read are from i y x (omega (arith, low, e)) first there in omega (arith, more, ends)
      ],
    )

    all_full : ((i : ℕ) → from ≤ i → i < is.to → IsBlankAt own i → ⊥) → AllByRecursion IsFull (Touched own.elements)
    all_full none = all_from IsFull (Touched own.elements) (λ k x there.
        let (i, its, passes) = kept_at (λ x. ltb x.at (at + (end - at)) && ltb at (x.at + size x)) own.elements k x there in
        let (begins, ends) = touches at (end - at) x passes in
        let (low, high) = within i x its (omega (arith, begins, count)) ends in
        elim (cases_Bool (is_blank x)) [ inl e ↦ absurd (none i low high (x, its, e)) | inr e ↦ e ])

    full_all : AllByRecursion IsFull (Touched own.elements) → (i : ℕ) → from ≤ i → i < is.to → IsBlankAt own i → ⊥
    full_all full i low high (x, there, blank) =
        let (b, e) = begins i x there low high in
        let (k, its) = at_kept_too (λ x. ltb x.at (at + (end - at)) && ltb at (x.at + size x)) own.elements i x there (is_touched at (end - at) x b e) in
        false≢true (sym (all_at IsFull (Touched own.elements) k x full its) ∙ blank)

    some_touched : (i k : ℕ) → from ≤ i → i < is.to → IsFieldOf own i k → Touched (fields_at own k) ≢ []
    some_touched i k low high (x, there, any) =
        let (b, e) = begins i x there low high in
        let (j, its) = at_is (fields_at own k) x any in
        let (n, is_there) = at_kept_too (λ x. ltb x.at (at + (end - at)) && ltb at (x.at + size x)) (fields_at own k) j x its (is_touched at (end - at) x b e) in
        at_some (Touched (fields_at own k)) n x is_there

    touched_some : (k : ℕ) → Touched (fields_at own k) ≢ [] → (i : ℕ) × (from ≤ i) × (i < is.to) × IsFieldOf own i k
    touched_some k some =
        let (n, x, there) = some_of (Touched (fields_at own k)) some in
        let (j, its, passes) = kept_at (λ x. ltb x.at (at + (end - at)) && ltb at (x.at + size x)) (fields_at own k) n x there in
        let (b, e) = touches at (end - at) x passes in
        let any = is_at (fields_at own k) j x its in
        let (i, at_i, in_record) = field_at t pieces ranges read are k x any in
        let (low, high) = within i x at_i (omega (arith, b, count)) e in
        (i, low, high, (x, at_i, any))

  -- fields of one record are touched, and no blank line
  pub fields_touched : (k : ℕ) → IsAmong own from end (Fields k) → AllByRecursion IsFull (Touched own.elements) × ((j : ℕ) → (Touched (fields_at own j) ≢ []) ↔ (j ≡ k))
  fields_touched k is =
      let (full, (i, low, high, of_record)) = is.these in (
        all_full (Fields k) is full,
        λ j. (
          λ some. let (n, least, more, its) = touched_some (Fields k) is j some in same_owner t pieces ranges read are n i j k from is.to least more low high full its of_record,
          λ e. subst (λ n. Touched (fields_at own n) ≢ []) (sym e) (some_touched (Fields k) is i k low high of_record),
        ),
      )

  pub nothing_touched : IsAmong own from end Nothing → (k : ℕ) → Touched (fields_at own k) ≢ [] → ⊥
  nothing_touched is k some = let (i, low, high, of_record) = touched_some Nothing is k some in (is.these i low high).1 k of_record

  pub blank_touched : IsAmong own from end Blank → AllByRecursion IsFull (Touched own.elements) → ⊥
  blank_touched is full = let (i, low, high, blank) = is.these in full_all Blank is full i low high blank

  not_fields : (among : Among) → IsAmong own from end among → ((k : ℕ) → among ≡ Fields k → ⊥) → AllByRecursion IsFull (Touched own.elements) → (k : ℕ) → Touched (fields_at own k) ≢ [] → ⊥
  not_fields Nothing is other full k some = nothing_touched is k some
  not_fields (Fields j) is other full k some = other j refl
  not_fields Blank is other full k some = blank_touched is full

-- ---- in a reading

pub element_of : (r : Reading) (es : List Element) (i : ℕ) (e : Element) → map placed es ≡ (placed_of r).elements → slice_get es i ≡ Some e → slice_get (placed_of r).elements i ≡ Some (placed e)
element_of r es i e are at = ap (λ l. slice_get l i) (sym are) ∙ (slice_get-map placed es i ∙ ap (option_map placed) at)

pub element_at : (r : Reading) (es : List Element) (i : ℕ) (e : Element) → map placed es ≡ (placed_of r).elements → i < length es → e ≡ get_or es i e
    → slice_get (placed_of r).elements i ≡ Some (placed e)
element_at r es i e are low is = element_of r es i e are (slice_get_read es (length es) i e refl low is)

pub no_element : (r : Reading) (es : List Element) (i : ℕ) → map placed es ≡ (placed_of r).elements → length es ≤ i → slice_get (placed_of r).elements i ≡ None
no_element r es i are high = ap (λ l. slice_get l i) (sym are) ∙ (slice_get-map placed es i ∙ ap (option_map placed) (slice_get_past es i high))

pub begins_more : (text : PlacedText) (from i end : ℕ) (x : Placed) → slice_get text.elements i ≡ Some x → x.at < end
    → ((j : ℕ) (y : Placed) → from ≤ j → j < i → slice_get text.elements j ≡ Some y → y.at < end) → (j : ℕ) (y : Placed) → from ≤ j → j < i + 1 → slice_get text.elements j ≡ Some y → y.at < end
begins_more text from i end x at begins before j y low high there = elim (cases_lt j i) [
  | inl e ↦ before j y low e there
  | inr e ↦
      let same : j ≡ i = omega (arith, high, e) in
      let its : x ≡ y = one_at text.elements i x y at (ap (slice_get text.elements) (sym same) ∙ there) in
      subst (λ z. z.at < end) its begins
]

module _ (r : Reading) (is : IsReading r) (from at end : ℕ) (order : at ≤ end) (passed : ArePassed (placed_of r) from at) (next : IsNext (placed_of r) from at) where
  pub lacks_fields : (among : Among) → IsAmong (placed_of r) from end among → ((k : ℕ) → among ≡ Fields k → ⊥) → AllByRecursion IsFull (touched at (end - at) (placed_of r).elements) → (k : ℕ)
      → touched at (end - at) (fields_at (placed_of r) k) ≢ [] → ⊥
  lacks_fields among these other full k some = not_fields (text_of_reading r) r.database
      (ranges_of r.records.each.items) is.read is.are_records from at end order passed next among these other full k some

  pub has_fields : (among : Among) (k : ℕ) → among ≡ Fields k → IsAmong (placed_of r) from end among
      → AllByRecursion IsFull (touched at (end - at) (placed_of r).elements) × ((j : ℕ) → (touched at (end - at) (fields_at (placed_of r) j) ≢ []) ↔ (j ≡ k))
  has_fields among k same these =
      fields_touched (text_of_reading r) r.database (ranges_of r.records.each.items) is.read is.are_records from at end order passed next k (subst (IsAmong (placed_of r) from end) same these)

one_of : (a b r k : ℕ) → Some (pair_of a b) ≡ Some (pair_of r k) → a ≡ r
one_of a b r k e = ap (λ (p : Pair). p.one) (same_Some (pair_of a b) (pair_of r k) e)

other_of : (a b r k : ℕ) → Some (pair_of a b) ≡ Some (pair_of r k) → b ≡ k
other_of a b r k e = ap (λ (p : Pair). p.other) (same_Some (pair_of a b) (pair_of r k) e)

-- both are in place, or one of them isn't
pub are_in_place : (P Q : PlacedText) (t : Turn) (a b : ℕ)
    → AllByRecursion IsFull (touched t.start.old (t.end.old - t.start.old) P.elements) × ((j : ℕ) → (touched t.start.old (t.end.old - t.start.old) (fields_at P j) ≢ []) ↔ (j ≡ a))
    → AllByRecursion IsFull (touched t.start.new (t.end.new - t.start.new) Q.elements) × ((j : ℕ) → (touched t.start.new (t.end.new - t.start.new) (fields_at Q j) ≢ []) ↔ (j ≡ b)) → (r k : ℕ)
    → (Some (pair_of a b) ≡ Some (pair_of r k)) ↔ IsInPlaceBy P Q t r k
are_in_place P Q t a b (full, old) (full_too, new) r k = (
  λ e. record { old_lines = full; new_lines = full_too; old_fields = (old r).1 (sym (one_of a b r k e)); new_fields = (new k).1 (sym (other_of a b r k e)) },
  λ is. let e : a ≡ r = sym ((old r).0 is.old_fields) in let f : b ≡ k = sym ((new k).0 is.new_fields) in ap₂ (λ x y. Some (pair_of x y)) e f,
)

-- both share a field, or one has no number or isn't one
pub are_shared : (P Q : PlacedText) (i n a b : ℕ) (number one other : Option ℕ) → number ≡ Some n → one ≡ Some a → other ≡ Some b → ((k : ℕ) → (one ≡ Some k) ↔ IsFieldOf P i k)
    → ((k : ℕ) → (other ≡ Some k) ↔ IsFieldOf Q n k) → (r k : ℕ) → (Some (pair_of a b) ≡ Some (pair_of r k)) ↔ IsSharedBy P Q i number r k
are_shared P Q i n a b number one other is is_a is_b of_one of_other r k = (
  λ e. (n, is, (of_one r).0 (is_a ∙ ap Some (one_of a b r k e)), (of_other k).0 (is_b ∙ ap Some (other_of a b r k e))),
  λ (m, is_too, field, field_too).
      let same : m ≡ n = same_Some m n (sym is_too ∙ is) in
      let e : a ≡ r = same_Some a r (sym is_a ∙ (of_one r).1 field) in
      let f : b ≡ k = same_Some b k (sym is_b ∙ (of_other k).1 (subst (λ j. IsFieldOf Q j k) same field_too)) in
      ap₂ (λ x y. Some (pair_of x y)) e f,
)

pub none_numbered : (P Q : PlacedText) (i : ℕ) (number : Option ℕ) → ((n : ℕ) → number ≡ Some n → ⊥) → (r k : ℕ) → (None ≡ Some (pair_of r k)) ↔ IsSharedBy P Q i number r k
none_numbered P Q i number none r k = (λ e. absurd (none-some (pair_of r k) e), λ (n, is, field, field_too). absurd (none n is))

pub no_other_field : (P Q : PlacedText) (i n : ℕ) (number other : Option ℕ) → number ≡ Some n → ((k : ℕ) → other ≡ Some k → ⊥) → ((k : ℕ) → (other ≡ Some k) ↔ IsFieldOf Q n k) → (r k : ℕ)
    → (None ≡ Some (pair_of r k)) ↔ IsSharedBy P Q i number r k
no_other_field P Q i n number other is none of_other r k = (
  λ e. absurd (none-some (pair_of r k) e),
  λ (m, is_too, field, field_too). absurd (let same : m ≡ n = same_Some m n (sym is_too ∙ is) in none k ((of_other k).1 (subst (λ j. IsFieldOf Q j k) same field_too))),
)

pub no_own_field : (P Q : PlacedText) (i : ℕ) (number one : Option ℕ) → ((k : ℕ) → one ≡ Some k → ⊥) → ((k : ℕ) → (one ≡ Some k) ↔ IsFieldOf P i k) → (r k : ℕ)
    → (None ≡ Some (pair_of r k)) ↔ IsSharedBy P Q i number r k
no_own_field P Q i number one none of_one r k = (λ e. absurd (none-some (pair_of r k) e), λ (m, is_too, field, field_too). absurd (none r ((of_one r).1 field)))

pub not_in_place : (P Q : PlacedText) (t : Turn) → ((r k : ℕ) → IsInPlaceBy P Q t r k → ⊥) → (r k : ℕ) → (None ≡ Some (pair_of r k)) ↔ IsInPlaceBy P Q t r k
not_in_place P Q t none r k = (λ e. absurd (none-some (pair_of r k) e), λ is. absurd (none r k is))

pub not_by : (b : Bool) (n at : ℕ) → (b ≡ true) ↔ (n ≤ at) → b ≡ false → at < n
not_by b n at is no_more = elim (cases_lt at n) [ inl e ↦ e | inr e ↦ absurd (false≢true (sym no_more ∙ is.1 e)) ]

-- ---- one more among others

pub with_fields : (among : Among) (blank : Bool) (owner : Option ℕ) (k : ℕ) → blank ≡ false → among ≡ Nothing → owner ≡ Some k → Fields k ≡ among_with among blank owner
with_fields Nothing false (Some j) k is same owned = ap Fields (sym (same_Some j k owned))
with_fields Nothing false None k is same owned = absurd (none-some k owned)
with_fields Nothing true owner k is same owned = absurd (false≢true (sym is))
with_fields (Fields j) blank owner k is same owned = absurd cc
with_fields Blank blank owner k is same owned = absurd cc

pub with_same : (among : Among) (blank : Bool) (owner : Option ℕ) → blank ≡ false → (among ≡ Nothing → ⊥) → among ≡ among_with among blank owner
with_same Nothing blank owner is other = absurd (other refl)
with_same (Fields j) false owner is other = refl
with_same (Fields j) true owner is other = absurd (false≢true (sym is))
with_same Blank false owner is other = refl
with_same Blank true owner is other = absurd (false≢true (sym is))

-- ---- what is noted so far

module _ (text other : PlacedText) where
  pub shared_more : (numbers made : List (Option ℕ)) (i : ℕ) (number : Option ℕ) (pair : Option Pair) → slice_get numbers i ≡ Some number
      → ((r k : ℕ) → (pair ≡ Some (pair_of r k)) ↔ IsSharedBy text other i number r k) → AreLeast (AreSharedIn text other i numbers) made
      → AreLeast (AreSharedIn text other (i + 1) numbers) (pair_noted pair made)
  shared_more numbers made i number pair at is all =
      are_least_map (λ r k. AreSharedIn text other i numbers r k ⊎ (pair ≡ Some (pair_of r k))) (AreSharedIn text other (i + 1) numbers) (pair_noted pair made)
      (λ r k seen. elim seen [
        | inl (j, n, low, its, shared) ↦ (j, n, omega (arith, low), its, shared)
        | inr e ↦ (i, number, omega arith, at, (is r k).0 e)
      ])
      (λ r k (j, n, low, its, shared). elim (cases_lt j i) [
        | inl e ↦ inl (j, n, e, its, shared)
        | inr e ↦
            let same : j ≡ i = omega (arith, low, e) in
            let own : n ≡ number = one_at numbers i n number (ap (slice_get numbers) (sym same) ∙ its) at in
            inr ((is r k).1 (subst (λ m. IsSharedBy text other i m r k) own (subst (λ m. IsSharedBy text other m n r k) same shared)))
      ])
      (pair_least (AreSharedIn text other i numbers) pair made all)

  pub all_shared : (numbers made : List (Option ℕ)) → AreLeast (AreSharedIn text other (length numbers) numbers) made → AreLeast (AreSharedBy text other numbers) made
  all_shared numbers made all =
      are_least_map (AreSharedIn text other (length numbers) numbers) (AreSharedBy text other numbers) made (λ r k (j, n, low, its, shared). (j, n, its, shared))
      (λ r k (j, n, its, shared). (j, n, slice_get_within numbers j n its, its, shared)) all

  pub places_more : (numbers made : List (Option ℕ)) (turns : List Turn) (i : ℕ) (turn : Turn) (pair : Option Pair) → slice_get turns i ≡ Some turn
      → ((r k : ℕ) → (pair ≡ Some (pair_of r k)) ↔ IsInPlaceBy text other turn r k)
      → AreLeast (λ r k. AreSharedBy text other numbers r k ⊎ AreInPlaceIn text other i turns r k) made
      → AreLeast (λ r k. AreSharedBy text other numbers r k ⊎ AreInPlaceIn text other (i + 1) turns r k) (pair_noted pair made)
  places_more numbers made turns i turn pair at is all =
      are_least_map (λ r k. (AreSharedBy text other numbers r k ⊎ AreInPlaceIn text other i turns r k) ⊎ (pair ≡ Some (pair_of r k)))
      (λ r k. AreSharedBy text other numbers r k ⊎ AreInPlaceIn text other (i + 1) turns r k) (pair_noted pair made)
      (λ r k seen. elim seen [
        | inl (inl s) ↦ inl s
        | inl (inr (j, t, low, its, in_place)) ↦ inr (j, t, omega (arith, low), its, in_place)
        | inr e ↦ inr (i, turn, omega arith, at, (is r k).0 e)
      ])
      (λ r k seen. elim seen [
        | inl s ↦ inl (inl s)
        | inr (j, t, low, its, in_place) ↦ elim (cases_lt j i) [
          | inl e ↦ inl (inr (j, t, e, its, in_place))
          | inr e ↦
              let same : j ≡ i = omega (arith, low, e) in
              let own : t ≡ turn = one_at turns i t turn (ap (slice_get turns) (sym same) ∙ its) at in
              inr ((is r k).1 (subst (λ m. IsInPlaceBy text other m r k) own in_place))
        ]
      ])
      (pair_least (λ r k. AreSharedBy text other numbers r k ⊎ AreInPlaceIn text other i turns r k) pair made all)

  pub all_places : (numbers made : List (Option ℕ)) (turns : List Turn) → AreLeast (λ r k. AreSharedBy text other numbers r k ⊎ AreInPlaceIn text other (length turns) turns r k) made
      → AreLeast (λ r k. AreSharedBy text other numbers r k ⊎ AreInPlaceBy text other turns r k) made
  all_places numbers made turns all =
      are_least_map (λ r k. AreSharedBy text other numbers r k ⊎ AreInPlaceIn text other (length turns) turns r k) (λ r k. AreSharedBy text other numbers r k ⊎ AreInPlaceBy text other turns r k) made
      (λ r k seen. elim seen [ inl s ↦ inl s | inr (j, t, low, its, in_place) ↦ inr (j, t, its, in_place) ])
      (λ r k seen. elim seen [ inl s ↦ inl s | inr (j, t, its, in_place) ↦ inr (j, t, slice_get_within turns j t its, its, in_place) ]) all

  pub no_places : (numbers made : List (Option ℕ)) (turns : List Turn) → AreLeast (AreSharedBy text other numbers) made
      → AreLeast (λ r k. AreSharedBy text other numbers r k ⊎ AreInPlaceIn text other 0 turns r k) made
  no_places numbers made turns all =
      are_least_map (AreSharedBy text other numbers) (λ r k. AreSharedBy text other numbers r k ⊎ AreInPlaceIn text other 0 turns r k) made (λ r k seen. inl seen)
      (λ r k seen. elim seen [ inl s ↦ s | inr (j, t, low, its, in_place) ↦ absurd (omega (arith, low)) ]) all

  -- where nothing is noted, nothing is seen
  pub none_shared : (numbers made : List (Option ℕ)) → ((r : ℕ) (m : Option ℕ) → slice_get made r ≡ Some m → m ≡ None) → AreLeast (AreSharedIn text other 0 numbers) made
  none_shared numbers made none = λ r m at. subst (IsLeast (AreSharedIn text other 0 numbers r)) (sym (none r m at)) (λ k (j, n, low, its, shared). absurd (omega (arith, low)))
