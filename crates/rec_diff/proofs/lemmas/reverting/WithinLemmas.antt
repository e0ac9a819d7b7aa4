-- In which records the fields of a record are: all in one, all of one, of the number that one has.
use Rattle.std.proofs.Common.{◌≡◌, ◌∙◌, ℕ, ◌<◌, true, List, Some, slice_get, Any}
use Rattle.std.proofs.Common.{refl, sym, ap, map, subst}
use Rattle.std.specs.List.{AllByRecursion, AllZip}
use Rattle.rec_text.specs.Records.{is_field_piece}
use Rattle.rec_diff.specs.declared.reverting.reading.Reading.{Reading}
use Rattle.rec_diff.specs.declared.reverting.spread.Spread.{Spread}
use Rattle.rec_diff.specs.declared.reverting.spread.Spread.TheVariants.{Nowhere, In, Several}
use Rattle.rec_diff.specs.declared.turn.Turn.{Turn}
use Rattle.rec_diff.specs.Changes.{Stretch, turned}
use Rattle.rec_diff.specs.Keeping.{HasWhatIsLeft}
use Rattle.rec_diff.specs.Making.{IsSame}
use Rattle.rec_diff.specs.Placed.{Placed, PlacedRecord, PlacedText, is_field, size}
use Rattle.rec_diff.specs.proving.Keeping.{IsWithin}
use Rattle.rec_diff.specs.proving.Reading.{AreTurnsOf, IsFieldOf, IsReading, IsSpread, StaysIn, WasIn, fields_at, placed_of, ranges_of, text_of_reading}
use Rattle.rec_diff.specs.proving.Weaving.{turn_turned}
use Rattle.rec_diff.proofs.lemmas.reverting.ListLemmas.{all_at, all_from, any_at, at_any, at_is, is_at, one_at, zip_back}
use Rattle.rec_diff.proofs.lemmas.reverting.RecordLemmas.{field_is, has_field, one_owner, owned, stands_once}
use Rattle.rec_diff.proofs.lemmas.reverting.SharingLemmas.{element_some, field_there, fields_are, one_same}
use Rattle.rec_diff.proofs.lemmas.reverting.TurnedLemmas.{same_turned, turns_turned}

-- ---- readings

module _ (r : Reading) (is : IsReading r) where
  pub first_field : (k : ℕ) (own : PlacedRecord) → slice_get (placed_of r).records k ≡ Some own → (x : Placed) × Any (◌≡◌ x) own.fields
  first_field k own at = has_field (text_of_reading r) r.database (ranges_of r.records.each.items) is.read is.are_records k own at

  pub owner_there : (i : ℕ) (x : Placed) → slice_get (placed_of r).elements i ≡ Some x → is_field x ≡ true → (k : ℕ) × IsFieldOf (placed_of r) i k
  owner_there i x at field = owned (text_of_reading r) r.database (ranges_of r.records.each.items) is.read is.are_records i x at field

  pub one_owner_there : (i k j : ℕ) → IsFieldOf (placed_of r) i k → IsFieldOf (placed_of r) i j → k ≡ j
  one_owner_there i k j one other = one_owner (text_of_reading r) r.database (ranges_of r.records.each.items) is.read is.are_records i k j one other

  pub once_there : (i j : ℕ) (x : Placed) → slice_get (placed_of r).elements i ≡ Some x → slice_get (placed_of r).elements j ≡ Some x → i ≡ j
  once_there i j x at at_too = stands_once (text_of_reading r) r.database (ranges_of r.records.each.items) is.read is.are_records i j x at at_too

  pub is_field_there : (i k : ℕ) (x : Placed) → slice_get (placed_of r).elements i ≡ Some x → IsFieldOf (placed_of r) i k → is_field x ≡ true
  is_field_there i k x at of_record = field_is (text_of_reading r) r.database (ranges_of r.records.each.items) is.read is.are_records i k x at of_record

-- ---- where fields are, by what they are the same as

-- a field is the same as one of the record of this number
abbrev pub LiesWith : (Placed → Placed → Type 0) → PlacedText → Placed → ℕ → Type 0
LiesWith S other x k = Any (S x) (fields_at other k)

module _ (text other : Reading) (is : IsReading text) (is_too : IsReading other) (S : Placed → Placed → Type 0)
    (one_leads : (i : ℕ) (x y z : Placed) → slice_get (placed_of text).elements i ≡ Some x → S x y → S x z → y ≡ z) (kinds : (x y : Placed) → S x y → is_field x ≡ is_field y) where
  abbrev P : PlacedText
  P = placed_of text

  abbrev Q : PlacedText
  Q = placed_of other

  pub among_all : (x : Placed) (k : ℕ) → LiesWith S Q x k → Any (S x) Q.elements
  among_all x k lies =
      let (j, y, at, same) = any_at (S x) (fields_at Q k) lies in
      let (n, there) = field_there other is_too k y (is_at (fields_at Q k) j y at) in
      at_any (S x) Q.elements n y there same

  pub in_one : (x : Placed) → is_field x ≡ true → Any (S x) Q.elements → (k : ℕ) × LiesWith S Q x k
  in_one x field any =
      let (n, y, at, same) = any_at (S x) Q.elements any in
      let (k, (z, there, in_record)) = owner_there other is_too n y at (sym (kinds x y same) ∙ field) in
      let (j, its) = at_is (fields_at Q k) z in_record in
      (k, at_any (S x) (fields_at Q k) j z its (subst (S x) (one_at Q.elements n y z at there) same))

  pub one_place : (i : ℕ) (x : Placed) (j k : ℕ) → slice_get P.elements i ≡ Some x → LiesWith S Q x j → LiesWith S Q x k → j ≡ k
  one_place i x j k at one another =
      let (a, y, y_in, y_same) = any_at (S x) (fields_at Q j) one in
      let (b, z, z_in, z_same) = any_at (S x) (fields_at Q k) another in
      let any = is_at (fields_at Q j) a y y_in in
      let (n, there) = field_there other is_too j y any in
      let e : z ≡ y = one_leads i x z y at z_same y_same in
      one_owner_there other is_too n j k (y, there, any) (y, there, subst (λ w. Any (◌≡◌ w) (fields_at Q k)) e (is_at (fields_at Q k) b z z_in))

  module _ (r : ℕ) (own : PlacedRecord) (at : slice_get P.records r ≡ Some own) where
    -- a field of the record is an element that is a field
    pub own_there : (j : ℕ) (x : Placed) → slice_get own.fields j ≡ Some x → (i : ℕ) × (slice_get P.elements i ≡ Some x) × (is_field x ≡ true)
    own_there j x its =
        let any = subst (Any (◌≡◌ x)) (sym (fields_are P r own at)) (is_at own.fields j x its) in
        let (i, there) = field_there text is r x any in
        (i, there, is_field_there text is i r x there (x, there, any))

    some_own : (j : ℕ) × (x : Placed) × (slice_get own.fields j ≡ Some x)
    some_own = let (x, any) = first_field text is r own at in let (j, its) = at_is own.fields x any in (j, x, its)

    module _ (k : ℕ) (its : PlacedRecord) (at_too : slice_get Q.records k ≡ Some its) where
      its_fields : fields_at Q k ≡ its.fields
      its_fields = fields_are Q k its at_too

      -- all that is there is in this one
      pub all_within : (s : Spread) → IsSpread (LiesWith S Q) own.fields s → IsWithin s k → AllByRecursion (λ x. Any (S x) Q.elements → Any (S x) its.fields) own.fields
      all_within Nowhere none within =
          all_from (λ x. Any (S x) Q.elements → Any (S x) its.fields) own.fields
          (λ j x there any.
          let (i, x_at, field) = own_there j x there in
          let (n, lies) = in_one x field any in
          absurd (all_at (λ x. (k : ℕ) → LiesWith S Q x k → ⊥) own.fields j x none there n lies))
      all_within (In m) (some, each) same =
          all_from (λ x. Any (S x) Q.elements → Any (S x) its.fields) own.fields
          (λ j x there any.
          let (i, x_at, field) = own_there j x there in
          let (n, lies) = in_one x field any in
          let e : n ≡ k = all_at (λ x. (j : ℕ) → LiesWith S Q x j → j ≡ m) own.fields j x each there n lies ∙ same in
          subst (Any (S x)) its_fields (subst (LiesWith S Q x) e lies))
      all_within Several several within = absurd within

      here_if : (j : ℕ) (x : Placed) (n : ℕ) → AllByRecursion (λ x. Any (S x) Q.elements → Any (S x) its.fields) own.fields → slice_get own.fields j ≡ Some x → LiesWith S Q x n → n ≡ k
      here_if j x n all there lies =
          let (i, x_at, field) = own_there j x there in
          one_place i x n k x_at lies (subst (Any (S x)) (sym its_fields) (all_at (λ x. Any (S x) Q.elements → Any (S x) its.fields) own.fields j x all there (among_all x n lies)))

      pub within_all : (s : Spread) → IsSpread (LiesWith S Q) own.fields s → AllByRecursion (λ x. Any (S x) Q.elements → Any (S x) its.fields) own.fields → IsWithin s k
      within_all Nowhere none all = tt
      within_all (In m) (some, each) all = let (j, x, there, lies) = any_at (λ x. LiesWith S Q x m) own.fields some in here_if j x m all there lies
      within_all Several (a, b, apart, one, another) all =
          let (j, x, there, lies) = any_at (λ x. LiesWith S Q x a) own.fields one in
          let (i, y, there_too, lies_too) = any_at (λ x. LiesWith S Q x b) own.fields another in
          apart (here_if j x a all there lies ∙ sym (here_if i y b all there_too lies_too))

      -- all its fields are there, in this one
      pub all_in : (s : Spread) → IsSpread (LiesWith S Q) own.fields s → AllByRecursion (λ x. Any (S x) its.fields) own.fields → s ≡ In k
      all_in s is all = by s is (within_all s is (all_from (λ x. Any (S x) Q.elements → Any (S x) its.fields) own.fields
          (λ j x there any. all_at (λ x. Any (S x) its.fields) own.fields j x all there)))
        where
          by : (s : Spread) → IsSpread (LiesWith S Q) own.fields s → IsWithin s k → s ≡ In k
          by Nowhere none within =
              absurd (let (j, x, there) = some_own in
              all_at (λ x. (k : ℕ) → LiesWith S Q x k → ⊥) own.fields j x none there k (subst (Any (S x)) (sym its_fields) (all_at (λ x. Any (S x) its.fields) own.fields j x all there)))
          by (In m) is within = ap In within
          by Several is within = absurd within

      -- where one of them is and each is there, all are in this one
      pub in_all : IsSpread (LiesWith S Q) own.fields (In k) → AllByRecursion (λ x. Any (S x) Q.elements) own.fields → AllByRecursion (λ x. Any (S x) its.fields) own.fields
      in_all spread all =
          all_from (λ x. Any (S x) its.fields) own.fields
          (λ j x there. all_at (λ x. Any (S x) Q.elements → Any (S x) its.fields) own.fields j x (all_within (In k) spread refl) there (all_at (λ x. Any (S x) Q.elements) own.fields j x all there))

-- ---- as parts tell

pub kind_same : (parts : List Stretch) (x y : Placed) → IsSame parts x y → is_field x ≡ is_field y
kind_same parts x y same = ap is_field_piece same.piece

pub one_origin : (parts : List Stretch) (f g : List ℕ) (ts : List Turn) (x y z : Placed) → AreTurnsOf parts f g ts → 0 < size z → IsSame parts x z → IsSame parts y z → x ≡ y
one_origin parts f g ts x y z are some one other =
    one_same (map turned parts) g f (map turn_turned ts) z x y (turns_turned parts f g ts are) some (same_turned parts x z one) (same_turned parts y z other)

module _ (text left : Reading) (is : IsReading text) (is_left : IsReading left) (parts : List Stretch) (ts : List Turn) (are : AreTurnsOf parts (text_of_reading text) (text_of_reading left) ts) where
  abbrev T : PlacedText
  T = placed_of text

  abbrev L : PlacedText
  L = placed_of left

  pub stays_one : (i : ℕ) (x y z : Placed) → slice_get T.elements i ≡ Some x → IsSame parts x y → IsSame parts x z → y ≡ z
  stays_one i x y z at one other = one_same parts (text_of_reading text) (text_of_reading left) ts x y z are (element_some text is i x at) one other

  abbrev Was : Placed → Placed → Type 0
  Was y x = IsSame parts x y

  pub was_one : (i : ℕ) (y x z : Placed) → slice_get L.elements i ≡ Some y → Was y x → Was y z → x ≡ z
  was_one i y x z at one other = one_origin parts (text_of_reading text) (text_of_reading left) ts x z y are (element_some left is_left i y at) one other

  pub was_kind : (y x : Placed) → Was y x → is_field y ≡ is_field x
  was_kind y x same = sym (kind_same parts x y same)

  module _ (r k : ℕ) (old own : PlacedRecord) (at : slice_get T.records r ≡ Some old) (at_too : slice_get L.records k ≡ Some own) where
    -- what is left of a record, by where its fields are and whence those came
    pub has_left : (to_left from_text : Spread) → IsSpread (StaysIn parts L) old.fields to_left → IsSpread (WasIn parts T) own.fields from_text → IsWithin to_left k → IsWithin from_text r
        → HasWhatIsLeft parts T old L own
    has_left to_left from_text to from within within_too = record {
      all = all_within text left is is_left (IsSame parts) stays_one (kind_same parts) r old at k own at_too to_left to within;
      nothing_else = all_within left text is_left is Was was_one was_kind k own at_too r old at from_text from within_too;
    }

    pub left_within : (to_left : Spread) → IsSpread (StaysIn parts L) old.fields to_left → HasWhatIsLeft parts T old L own → IsWithin to_left k
    left_within to_left to has = within_all text left is is_left (IsSame parts) stays_one (kind_same parts) r old at k own at_too to_left to has.all

    pub left_from : (from_text : Spread) → IsSpread (WasIn parts T) own.fields from_text → HasWhatIsLeft parts T old L own → IsWithin from_text r
    left_from from_text from has = within_all left text is_left is Was was_one was_kind k own at_too r old at from_text from has.nothing_else

    -- a whole record is where all of its fields came from
    pub whole_from : (from_text : Spread) → IsSpread (WasIn parts T) own.fields from_text → AllZip (IsSame parts) old.fields own.fields → from_text ≡ In r
    whole_from from_text from all =
        all_in left text is_left is Was was_one was_kind k own at_too r old at from_text from
        (all_from (λ y. Any (Was y) old.fields) own.fields (λ j y there. let (x, its, same) = zip_back (IsSame parts) old.fields own.fields j y all there in at_any (Was y) old.fields j x its same))
