-- What a change makes of records, by the numbers of elements and by turns.
use Rattle.std.proofs.Common.{◌≡◌, ◌≢◌, ◌∙◌, ◌⊎◌, ℕ, zero, suc, ◌+◌, ◌-◌, ◌<◌, List, [], ◌∷◌, ◌++◌, length, Option, Some, None, slice_get, Any, inl, inr}
use Rattle.std.proofs.Common.{refl, sym, ap, ap₂, subst, length-append, arith}
use Rattle.std.specs.List.{AllByRecursion}
use Rattle.std.specs.Option.{option_map_or}
use Rattle.std.proofs.lemmas.Option.{none-some, same_Some}
use Rattle.rec_diff.specs.declared.reverting.reading.Reading.{Reading}
use Rattle.rec_diff.specs.declared.turn.Turn.{Turn}
use Rattle.rec_diff.specs.Changes.{Stretch, stays, turns, before_of, after_of}
use Rattle.rec_diff.specs.Making.{IsFirst, IsFull, IsInPlace, IsSame, Makes, Shares, StaysAmong, touched}
use Rattle.rec_diff.specs.Placed.{Placed, PlacedRecord, PlacedText, size}
use Rattle.rec_diff.specs.proving.Making.{AreInPlaceBy, AreLeast, AreSharedBy, IsInPlaceBy}
use Rattle.rec_diff.specs.proving.Moving.{turn_at, turns_at}
use Rattle.rec_diff.specs.proving.Reading.{AreMade, AreNumbers, AreTurnsOf, IsNumber, IsReading, fields_at, placed_of, ranges_of, text_of_reading}
use Rattle.rec_diff.proofs.lemmas.reverting.ListLemmas.{any_at, at_any, at_is, is_at, one_at, zip_at, zip_back}
use Rattle.rec_diff.proofs.lemmas.reverting.MakingLemmas.{made_first}
use Rattle.rec_diff.proofs.lemmas.reverting.MovingLemmas.{turns_are}
use Rattle.rec_diff.proofs.lemmas.reverting.RecordLemmas.{field_at, is_some}
use Rattle.rec_diff.proofs.lemmas.reverting.SameLemmas.{place_of_same}

-- ---- the fields of a record

pub fields_are : (text : PlacedText) (k : ℕ) (r : PlacedRecord) → slice_get text.records k ≡ Some r → fields_at text k ≡ r.fields
fields_are text k r at = ap (λ o. option_map_or (λ (r : PlacedRecord). r.fields) o []) at

pub record_there : (text : PlacedText) (k : ℕ) (x : Placed) → Any (◌≡◌ x) (fields_at text k) → (r : PlacedRecord) × (slice_get text.records k ≡ Some r)
record_there text k x any = by (slice_get text.records k) refl (at_is (fields_at text k) x any)
  where
    by : (o : Option PlacedRecord) → slice_get text.records k ≡ o → ((j : ℕ) × (slice_get (fields_at text k) j ≡ Some x)) → (r : PlacedRecord) × (slice_get text.records k ≡ Some r)
    by None is (j, there) = absurd (none-some x (sym (ap (λ o. slice_get (option_map_or (λ (r : PlacedRecord). r.fields) o []) j) is) ∙ there))
    by (Some r) is j = (r, is)

-- ---- readings

module _ (r : Reading) (is : IsReading r) where
  -- a field is an element
  pub field_there : (k : ℕ) (x : Placed) → Any (◌≡◌ x) (fields_at (placed_of r) k) → (i : ℕ) × (slice_get (placed_of r).elements i ≡ Some x)
  field_there k x any = let (i, at, in_record) = field_at (text_of_reading r) r.database (ranges_of r.records.each.items) is.read is.are_records k x any in (i, at)

  pub element_some : (i : ℕ) (x : Placed) → slice_get (placed_of r).elements i ≡ Some x → 0 < size x
  element_some i x at = is_some (text_of_reading r) r.database (ranges_of r.records.each.items) is.read is.are_records i x at

-- ---- an element is the same as one

pub one_same : (parts : List Stretch) (f g : List ℕ) (ts : List Turn) (x y z : Placed) → AreTurnsOf parts f g ts → 0 < size x → IsSame parts x y → IsSame parts x z → y ≡ z
one_same parts f g ts x y z are some one other =
    let first = place_of_same f g parts ts are.hunks are.from are.order are.in_step x y some one in
    let second = place_of_same f g parts ts are.hunks are.from are.order are.in_step x z some other in
    ap₂ (λ a p. record { at = a; piece = p }) (same_Some y.at z.at (sym first ∙ second)) (sym one.piece ∙ other.piece)

-- ---- by the numbers of elements

module _ (one other : Reading) (is : IsReading one) (is_too : IsReading other) (parts : List Stretch) (ts : List Turn) (are : AreTurnsOf parts (text_of_reading one) (text_of_reading other) ts)
    (numbers : List (Option ℕ)) (numbered : AreNumbers parts (placed_of one) (placed_of other) numbers) where
  abbrev P : PlacedText
  P = placed_of one

  abbrev Q : PlacedText
  Q = placed_of other

  module _ (r k : ℕ) (own its : PlacedRecord) (at : slice_get P.records r ≡ Some own) (at_too : slice_get Q.records k ≡ Some its) where
    pub shares_by : AreSharedBy P Q numbers r k → Shares parts own its
    shares_by (i, number, there, (n, number_is, (x, x_at, x_in), (y, y_at, y_in))) =
        let (z, z_at, is_number) = zip_back (IsNumber parts Q.elements) P.elements numbers i number numbered there in
        let same : IsNumber parts Q.elements x number = subst (λ w. IsNumber parts Q.elements w number) (one_at P.elements i z x z_at x_at) is_number in
        let (w, w_at, is_same) = subst (IsNumber parts Q.elements x) number_is same in
        let same_one : IsSame parts x y = subst (IsSame parts x) (one_at Q.elements n w y w_at y_at) is_same in
        let (j, in_own) = at_is own.fields x (subst (Any (◌≡◌ x)) (fields_are P r own at) x_in) in
        let (m, in_its) = at_is its.fields y (subst (Any (◌≡◌ y)) (fields_are Q k its at_too) y_in) in
        at_any (StaysAmong parts its.fields) own.fields j x in_own (at_any (IsSame parts x) its.fields m y in_its same_one)

    by_shares : (i m : ℕ) (x y : Placed) → slice_get P.elements i ≡ Some x → slice_get Q.elements m ≡ Some y → Any (◌≡◌ x) (fields_at P r) → Any (◌≡◌ y) (fields_at Q k) → IsSame parts x y
        → (number : Option ℕ) → slice_get numbers i ≡ Some number → IsNumber parts Q.elements x number → AreSharedBy P Q numbers r k
    by_shares i m x y x_at y_at x_in y_in same None there none = absurd (none (at_any (IsSame parts x) Q.elements m y y_at same))
    by_shares i m x y x_at y_at x_in y_in same (Some n) there (z, z_at, is_same) =
        let e : y ≡ z = one_same parts (text_of_reading one) (text_of_reading other) ts x y z are (element_some one is i x x_at) same is_same in
        (i, Some n, there, (n, refl, (x, x_at, x_in), (z, z_at, subst (λ w. Any (◌≡◌ w) (fields_at Q k)) e y_in)))

    pub shared_of : Shares parts own its → AreSharedBy P Q numbers r k
    shared_of shares =
        let (j, x, in_own, its_own) = any_at (StaysAmong parts its.fields) own.fields shares in
        let (m, y, in_its, same) = any_at (IsSame parts x) its.fields its_own in
        let x_in = subst (Any (◌≡◌ x)) (sym (fields_are P r own at)) (is_at own.fields j x in_own) in
        let y_in = subst (Any (◌≡◌ y)) (sym (fields_are Q k its at_too)) (is_at its.fields m y in_its) in
        let (i, x_at) = field_there one is r x x_in in
        let (n, y_at) = field_there other is_too k y y_in in
        let (number, there, is_number) = zip_at (IsNumber parts Q.elements) P.elements numbers i x numbered x_at in
        by_shares i n x y x_at y_at x_in y_in same number there is_number

  shared_in : (r k : ℕ) → AreSharedBy P Q numbers r k → (its : PlacedRecord) × (slice_get Q.records k ≡ Some its)
  shared_in r k (i, number, there, (n, number_is, of_one, (y, y_at, y_in))) = record_there Q k y y_in

  -- the first one of the other text that shares a field
  pub first_shared : (made : List (Option ℕ)) → length made ≡ length P.records → AreLeast (AreSharedBy P Q numbers) made → AreMade (λ a. IsFirst (Shares parts a) Q.records) P Q made
  first_shared made lengths least = made_first (Shares parts) P Q (AreSharedBy P Q numbers) made lengths shares_by shared_of shared_in least

-- ---- by turns

-- parts are cut at a turn
pub record IsCutAt (parts : List Stretch) (o n : ℕ) (t : Turn) : Type 0 where
  pub first : List Stretch
  pub old : List ℕ
  pub new : List ℕ
  pub last : List Stretch
  pub cut : parts ≡ first ++ turns old new ∷ last
  pub is : t ≡ turn_at (o + length (before_of first)) (n + length (after_of first)) (length old) (length new)

pub cut_at : (parts : List Stretch) (o n i : ℕ) (t : Turn) → slice_get (turns_at o n parts) i ≡ Some t → IsCutAt parts o n t
cut_at [] o n i t at = absurd (none-some t at)
cut_at (stays s ∷ parts) o n i t at =
    let rest = cut_at parts (o + length s) (n + length s) i t at in
    let a : o + length s + length (before_of rest.first) ≡ o + length (s ++ before_of rest.first) = omega (arith, length-append s (before_of rest.first)) in
    let b : n + length s + length (after_of rest.first) ≡ n + length (s ++ after_of rest.first) = omega (arith, length-append s (after_of rest.first)) in
    record {
      first = stays s ∷ rest.first;
      old = rest.old;
      new = rest.new;
      last = rest.last;
      cut = ap (stays s ∷◌) rest.cut;
      is = rest.is ∙ ap₂ (λ x y. turn_at x y (length rest.old) (length rest.new)) a b;
    }
cut_at (turns old new ∷ parts) o n zero t at = record {
  first = [];
  old = old;
  new = new;
  last = parts;
  cut = refl;
  is = sym (same_Some (turn_at o n (length old) (length new)) t at) ∙ ap₂ (λ x y. turn_at x y (length old) (length new)) (omega arith) (omega arith);
}
cut_at (turns old new ∷ parts) o n (suc i) t at =
    let rest = cut_at parts (o + length old) (n + length new) i t at in
    let a : o + length old + length (before_of rest.first) ≡ o + length (old ++ before_of rest.first) = omega (arith, length-append old (before_of rest.first)) in
    let b : n + length new + length (after_of rest.first) ≡ n + length (new ++ after_of rest.first) = omega (arith, length-append new (after_of rest.first)) in
    record {
      first = turns old new ∷ rest.first;
      old = rest.old;
      new = rest.new;
      last = rest.last;
      cut = ap (turns old new ∷◌) rest.cut;
      is = rest.is ∙ ap₂ (λ x y. turn_at x y (length rest.old) (length rest.new)) a b;
    }

pub at_cut : (first last : List Stretch) (old new : List ℕ) (o n : ℕ)
    → (i : ℕ) × (slice_get (turns_at o n (first ++ turns old new ∷ last)) i ≡ Some (turn_at (o + length (before_of first)) (n + length (after_of first)) (length old) (length new)))
at_cut [] last old new o n = (zero, ap Some (ap₂ (λ x y. turn_at x y (length old) (length new)) (omega arith) (omega arith)))
at_cut (stays s ∷ first) last old new o n =
    let (i, at) = at_cut first last old new (o + length s) (n + length s) in
    let a : o + length s + length (before_of first) ≡ o + length (s ++ before_of first) = omega (arith, length-append s (before_of first)) in
    let b : n + length s + length (after_of first) ≡ n + length (s ++ after_of first) = omega (arith, length-append s (after_of first)) in
    (i, at ∙ ap Some (ap₂ (λ x y. turn_at x y (length old) (length new)) a b))
at_cut (turns c d ∷ first) last old new o n =
    let (i, at) = at_cut first last old new (o + length c) (n + length d) in
    let a : o + length c + length (before_of first) ≡ o + length (c ++ before_of first) = omega (arith, length-append c (before_of first)) in
    let b : n + length d + length (after_of first) ≡ n + length (d ++ after_of first) = omega (arith, length-append d (after_of first)) in
    (suc i, at ∙ ap Some (ap₂ (λ x y. turn_at x y (length old) (length new)) a b))

-- that what a turn of these parts touches has P is that P holds of their lengths
module _ (parts : List Stretch) (f g : List ℕ) (ts : List Turn) (are : AreTurnsOf parts f g ts) (P Q : PlacedText) (r k : ℕ) (own its : PlacedRecord) (at : slice_get P.records r ≡ Some own)
    (at_too : slice_get Q.records k ≡ Some its) where
  pub in_place_by : AreInPlaceBy P Q ts r k → IsInPlace parts P Q own its
  in_place_by (i, t, there, is) =
      let c = cut_at parts 0 0 i t (ap (λ l. slice_get l i) (sym (turns_are parts f g ts are)) ∙ there) in
      let old_at : t.start.old ≡ length (before_of c.first) = ap (λ (t : Turn). t.start.old) c.is ∙ (omega arith) in
      let new_at : t.start.new ≡ length (after_of c.first) = ap (λ (t : Turn). t.start.new) c.is ∙ (omega arith) in
      let old_end : t.end.old ≡ 0 + length (before_of c.first) + length c.old = ap (λ (t : Turn). t.end.old) c.is in
      let new_end : t.end.new ≡ 0 + length (after_of c.first) + length c.new = ap (λ (t : Turn). t.end.new) c.is in
      let old_size : t.end.old - t.start.old ≡ length c.old = omega (arith, old_at, old_end) in
      let new_size : t.end.new - t.start.new ≡ length c.new = omega (arith, new_at, new_end) in
      record {
        first = c.first;
        old = c.old;
        new = c.new;
        last = c.last;
        cut = c.cut;
        old_lines = subst (AllByRecursion IsFull) (ap₂ (λ a n. touched a n P.elements) old_at old_size) is.old_lines;
        new_lines = subst (AllByRecursion IsFull) (ap₂ (λ a n. touched a n Q.elements) new_at new_size) is.new_lines;
        old_fields = subst (λ l. l ≢ []) (ap₂ (λ a n. touched a n (fields_at P r)) old_at old_size ∙ ap (touched (length (before_of c.first)) (length c.old)) (fields_are P r own at)) is.old_fields;
        new_fields = subst (λ l. l ≢ []) (ap₂ (λ a n. touched a n (fields_at Q k)) new_at new_size ∙ ap (touched (length (after_of c.first)) (length c.new)) (fields_are Q k its at_too)) is.new_fields;
      }

  pub by_in_place : IsInPlace parts P Q own its → AreInPlaceBy P Q ts r k
  by_in_place is =
      let (i, there) = at_cut is.first is.last is.old is.new 0 0 in
      let t = turn_at (0 + length (before_of is.first)) (0 + length (after_of is.first)) (length is.old) (length is.new) in
      let old_at : length (before_of is.first) ≡ 0 + length (before_of is.first) = omega arith in
      let new_at : length (after_of is.first) ≡ 0 + length (after_of is.first) = omega arith in
      let old_size : length is.old ≡ 0 + length (before_of is.first) + length is.old - (0 + length (before_of is.first)) = omega arith in
      let new_size : length is.new ≡ 0 + length (after_of is.first) + length is.new - (0 + length (after_of is.first)) = omega arith in (
        i,
        turn_at (0 + length (before_of is.first)) (0 + length (after_of is.first)) (length is.old) (length is.new),
        ap (λ l. slice_get l i) (turns_are parts f g ts are) ∙ (ap (λ p. slice_get (turns_at 0 0 p) i) is.cut ∙ there),
        record {
          old_lines = subst (AllByRecursion IsFull) (ap₂ (λ a n. touched a n P.elements) old_at old_size) is.old_lines;
          new_lines = subst (AllByRecursion IsFull) (ap₂ (λ a n. touched a n Q.elements) new_at new_size) is.new_lines;
          old_fields = subst (λ l. l ≢ []) (ap (touched (length (before_of is.first)) (length is.old)) (sym (fields_are P r own at)) ∙ ap₂ (λ a n. touched a n (fields_at P r)) old_at old_size)
              is.old_fields;
          new_fields = subst (λ l. l ≢ []) (ap (touched (length (after_of is.first)) (length is.new)) (sym (fields_are Q k its at_too)) ∙ ap₂ (λ a n. touched a n (fields_at Q k)) new_at new_size)
              is.new_fields;
        },
      )

-- a field of a record is touched only where there is one
in_place_there : (P Q : PlacedText) (t : Turn) (r k : ℕ) → IsInPlaceBy P Q t r k → (its : PlacedRecord) × (slice_get Q.records k ≡ Some its)
in_place_there P Q t r k is = by (slice_get Q.records k) refl
  where
    by : (o : Option PlacedRecord) → slice_get Q.records k ≡ o → (its : PlacedRecord) × (slice_get Q.records k ≡ Some its)
    by None none = absurd (is.new_fields (ap (λ o. touched t.start.new (t.end.new - t.start.new) (option_map_or (λ (r : PlacedRecord). r.fields) o [])) none))
    by (Some its) at = (its, at)

-- what a change makes of records
pub makes_first : (one other : Reading) (is : IsReading one) (is_too : IsReading other) (parts : List Stretch) (ts : List Turn)
    (are : AreTurnsOf parts (text_of_reading one) (text_of_reading other) ts)
    (numbers : List (Option ℕ)) (numbered : AreNumbers parts (placed_of one) (placed_of other) numbers) (made : List (Option ℕ)) → length made ≡ length (placed_of one).records
    → AreLeast (λ r k. AreSharedBy (placed_of one) (placed_of other) numbers r k ⊎ AreInPlaceBy (placed_of one) (placed_of other) ts r k) made
    → AreMade (Makes parts (placed_of one) (placed_of other)) (placed_of one) (placed_of other) made
makes_first one other is is_too parts ts are numbers numbered made lengths least =
    made_first (λ a b. Shares parts a b ⊎ IsInPlace parts (placed_of one) (placed_of other) a b) (placed_of one) (placed_of other)
    (λ r k. AreSharedBy (placed_of one) (placed_of other) numbers r k ⊎ AreInPlaceBy (placed_of one) (placed_of other) ts r k) made lengths
    (λ r k own its at at_too seen. elim seen [
      | inl s ↦ inl (shares_by one other is is_too parts ts are numbers numbered r k own its at at_too s)
      | inr s ↦ inr (in_place_by parts (text_of_reading one) (text_of_reading other) ts are (placed_of one) (placed_of other) r k own its at at_too s)
    ])
    (λ r k own its at at_too makes. elim makes [
      | inl s ↦ inl (shared_of one other is is_too parts ts are numbers numbered r k own its at at_too s)
      | inr s ↦ inr (by_in_place parts (text_of_reading one) (text_of_reading other) ts are (placed_of one) (placed_of other) r k own its at at_too s)
    ])
    (λ r k seen. elim seen [
      | inl s ↦ shared_in one other is is_too parts ts are numbers numbered r k s
      | inr (i, t, there, in_place) ↦ in_place_there (placed_of one) (placed_of other) t r k in_place
    ])
    least
