-- Fields that are left are in one record as they were.
use Rattle.std.proofs.Common.{◌≡◌, ◌↔◌, ◌⊎◌, ℕ, ◌<◌, List, Some, slice_get, Any, inl, inr, refl, sym, subst}
use Rattle.std.specs.declared.ops.Range.{Range}
use Rattle.rec_text.specs.Elements.{AreElementsOf, Piece}
use Rattle.rec_text.specs.Records.{AreRecords}
use Rattle.rec_journal.specs.declared.event.EditStep.{EditStep}
use Rattle.rec_diff.specs.Changes.{Stretch, before_of, after_of}
use Rattle.rec_diff.specs.Keeping.{HasWhatIsLeft, IsKnown, IsWhole, KeepsPlaces}
use Rattle.rec_diff.specs.Making.{IsSame, StaysAmong, WasAmong}
use Rattle.rec_diff.specs.Placed.{IsPlaced, Placed, PlacedRecord, PlacedText, placed_text, size}
use Rattle.rec_diff.specs.Reverts.{AreAsIn, AreTogether, FieldsAreKept, HadType, IsFieldOf as IsField}
use Rattle.rec_diff.specs.proving.Moving.{turns_at}
use Rattle.rec_diff.specs.proving.Reading.{fields_at}
use Rattle.rec_diff.proofs.lemmas.reverting.ListLemmas.{all_at, all_from, any_at, any_map, at_any, at_is, is_at, one_at, zip_at, zip_back}
use Rattle.rec_diff.proofs.lemmas.reverting.MovingLemmas.{are_turns}
use Rattle.rec_diff.proofs.lemmas.reverting.RecordLemmas.{field_at, is_some, one_owner}
use Rattle.rec_diff.proofs.lemmas.reverting.SharingLemmas.{fields_are, one_same}
use Rattle.rec_diff.proofs.lemmas.reverting.WithinLemmas.{one_origin}

-- ---- texts

module _ (text : List ℕ) (pieces : List Piece) (ranges : List (Range ℕ)) (read : AreElementsOf pieces text) (are : AreRecords pieces ranges) where
  abbrev all : PlacedText
  all = placed_text pieces ranges

  element_of_own : (k : ℕ) (r : PlacedRecord) (x : Placed) → slice_get all.records k ≡ Some r → Any (◌≡◌ x) r.fields → (i : ℕ) × (slice_get all.elements i ≡ Some x)
  element_of_own k r x at there =
      let (i, x_at, f) = field_at text pieces ranges read are k x (subst (Any (◌≡◌ x)) (sym (fields_are all k r at)) there) in
      (i, x_at)

  one_record_of_own : (k j : ℕ) (r t : PlacedRecord) (x : Placed) → slice_get all.records k ≡ Some r → slice_get all.records j ≡ Some t → Any (◌≡◌ x) r.fields → Any (◌≡◌ x) t.fields → r ≡ t
  one_record_of_own k j r t x at at_too there there_too =
      let first : Any (◌≡◌ x) (fields_at all k) = subst (Any (◌≡◌ x)) (sym (fields_are all k r at)) there in
      let second : Any (◌≡◌ x) (fields_at all j) = subst (Any (◌≡◌ x)) (sym (fields_are all j t at_too)) there_too in
      let (i, x_at) = element_of_own k r x at there in
      let same : k ≡ j = one_owner text pieces ranges read are i k j (x, x_at, first) (x, x_at, second) in
      one_at all.records j r t (subst (λ (n : ℕ). slice_get all.records n ≡ Some r) same at) at_too

module _ (text : List ℕ) (p : PlacedText) (is : IsPlaced text p) where
  -- a field is an element
  pub element_of : (k : ℕ) (r : PlacedRecord) (x : Placed) → slice_get p.records k ≡ Some r → Any (◌≡◌ x) r.fields → (i : ℕ) × (slice_get p.elements i ≡ Some x)
  element_of =
      subst (λ (q : PlacedText). (k : ℕ) (r : PlacedRecord) (x : Placed) → slice_get q.records k ≡ Some r → Any (◌≡◌ x) r.fields → (i : ℕ) × (slice_get q.elements i ≡ Some x)) (sym is.is)
      (element_of_own text is.pieces is.ranges is.read is.are_records)

  -- of one record
  one_record : (k j : ℕ) (r t : PlacedRecord) (x : Placed) → slice_get p.records k ≡ Some r → slice_get p.records j ≡ Some t → Any (◌≡◌ x) r.fields → Any (◌≡◌ x) t.fields → r ≡ t
  one_record =
      subst (λ (q : PlacedText). (k j : ℕ) (r t : PlacedRecord) (x : Placed) → slice_get q.records k ≡ Some r → slice_get q.records j ≡ Some t → Any (◌≡◌ x) r.fields → Any (◌≡◌ x) t.fields
      → r ≡ t) (sym is.is)
      (one_record_of_own text is.pieces is.ranges is.read is.are_records)

  pub element_some : (i : ℕ) (x : Placed) → slice_get p.elements i ≡ Some x → 0 < size x
  element_some =
      subst (λ (q : PlacedText). (i : ℕ) (x : Placed) → slice_get q.elements i ≡ Some x → 0 < size x) (sym is.is) (is_some text is.pieces is.ranges is.read is.are_records)

one_after : (parts : List Stretch) (x y z : Placed) → 0 < size x → IsSame parts x y → IsSame parts x z → y ≡ z
one_after parts x y z some one other =
    let f = before_of parts in
    let g = after_of parts in
    one_same parts f g (turns_at 0 0 parts) x y z (are_turns parts f g (turns_at 0 0 parts) refl refl refl) some one other

one_before : (parts : List Stretch) (x y z : Placed) → 0 < size z → IsSame parts x z → IsSame parts y z → x ≡ y
one_before parts x y z some one other =
    let f = before_of parts in
    let g = after_of parts in
    one_origin parts f g (turns_at 0 0 parts) x y z (are_turns parts f g (turns_at 0 0 parts) refl refl refl) some one other

-- ---- a text and what is left

module _ (f g : List ℕ) (T L : PlacedText) (is_text : IsPlaced f T) (is_left : IsPlaced g L) (parts : List Stretch) where
  -- an element that is left, and the one that it was
  record Came (x old : Placed) : Type 0 where
    at : ℕ
    is_at : slice_get L.elements at ≡ Some x
    old_at : ℕ
    is_old_at : slice_get T.elements old_at ≡ Some old
    same : IsSame parts old x

  -- a whole record has what is left of one
  whole_has : (one own : PlacedRecord) → IsWhole parts one own → HasWhatIsLeft parts T one L own
  whole_has one own whole = record {
    all =
        all_from (λ x. StaysAmong parts L.elements x → StaysAmong parts own.fields x) one.fields
        (λ k x at stays. let (y, y_at, same) = zip_at (IsSame parts) one.fields own.fields k x whole.fields at in at_any (IsSame parts x) own.fields k y y_at same);
    nothing_else =
        all_from (λ y. WasAmong parts T.elements y → WasAmong parts one.fields y) own.fields
        (λ k y at was. let (x, x_at, same) = zip_back (IsSame parts) one.fields own.fields k y whole.fields at in at_any (λ w. IsSame parts w y) one.fields k x x_at same);
  }

  came_from : (x : Placed) (i : ℕ) → slice_get L.elements i ≡ Some x → WasAmong parts T.elements x → (old : Placed) × Came x old
  came_from x i x_at was =
      let (j, old, old_at, same) = any_at (λ w. IsSame parts w x) T.elements was in
      (old, record { at = i; is_at = x_at; old_at = j; is_old_at = old_at; same = same })

  module _ (k n : ℕ) (own one : PlacedRecord) (own_at : slice_get L.records k ≡ Some own) (is_one : slice_get T.records n ≡ Some one) (has : HasWhatIsLeft parts T one L own) where
    was_there : (x old : Placed) → Came x old → Any (◌≡◌ x) own.fields → Any (◌≡◌ old) one.fields
    was_there x old came there =
        let (m, x_in) = at_is own.fields x there in
        let was : WasAmong parts one.fields x =
        all_at (λ y. WasAmong parts T.elements y → WasAmong parts one.fields y) own.fields m x has.nothing_else x_in
        (at_any (λ w. IsSame parts w x) T.elements came.old_at old came.is_old_at came.same) in
        let (q, w, w_at, w_same) = any_at (λ w. IsSame parts w x) one.fields was in
        subst (λ (v : Placed). Any (◌≡◌ v) one.fields) (one_before parts w old x (element_some g L is_left came.at x came.is_at) w_same came.same) (is_at one.fields q w w_at)

    is_there : (x old : Placed) → Came x old → Any (◌≡◌ old) one.fields → Any (◌≡◌ x) own.fields
    is_there x old came there =
        let (m, old_in) = at_is one.fields old there in
        let stays : StaysAmong parts own.fields old =
        all_at (λ y. StaysAmong parts L.elements y → StaysAmong parts own.fields y) one.fields m old has.all old_in (at_any (IsSame parts old) L.elements came.at x came.is_at came.same) in
        let (q, w, w_at, w_same) = any_at (IsSame parts old) own.fields stays in
        subst (λ (v : Placed). Any (◌≡◌ v) own.fields) (one_after parts old w x (element_some f T is_text came.old_at old came.is_old_at) w_same came.same) (is_at own.fields q w w_at)

    as_there : (x y old_x old_y : Placed) → Came x old_x → Came y old_y → Any (◌≡◌ x) own.fields → AreTogether L x y ↔ AreTogether T old_x old_y
    as_there x y old_x old_y came also x_there = (
      λ together.
          let (j, r, r_at, (x_in, y_in)) = any_at (λ (r : PlacedRecord). Any (◌≡◌ x) r.fields × Any (◌≡◌ y) r.fields) L.records together in
          let same : r ≡ own = one_record g L is_left j k r own x r_at own_at x_in x_there in
          at_any (λ (r : PlacedRecord). Any (◌≡◌ old_x) r.fields × Any (◌≡◌ old_y) r.fields) T.records n one is_one
          (was_there x old_x came x_there, was_there y old_y also (subst (λ (r : PlacedRecord). Any (◌≡◌ y) r.fields) same y_in)),
      λ together.
          let (j, r, r_at, (x_in, y_in)) = any_at (λ (r : PlacedRecord). Any (◌≡◌ old_x) r.fields × Any (◌≡◌ old_y) r.fields) T.records together in
          let same : r ≡ one = one_record f T is_text j n r one old_x r_at is_one x_in (was_there x old_x came x_there) in
          at_any (λ (r : PlacedRecord). Any (◌≡◌ x) r.fields × Any (◌≡◌ y) r.fields) L.records k own own_at
          (x_there, is_there y old_y also (subst (λ (r : PlacedRecord). Any (◌≡◌ old_y) r.fields) same y_in)),
    )

    are_as : (x y old_x old_y : Placed) → Came x old_x → Came y old_y → Any (◌≡◌ x) own.fields → AreAsIn parts T L x y
    are_as x y old_x old_y came also x_there = record {
      one = old_x;
      one_there = is_at T.elements came.old_at old_x came.is_old_at;
      one_is = came.same;
      other = old_y;
      other_there = is_at T.elements also.old_at old_y also.is_old_at;
      other_is = also.same;
      as_there = as_there x y old_x old_y came also x_there;
    }

turn_together : (text : PlacedText) (x y : Placed) → AreTogether text x y → AreTogether text y x
turn_together text x y together =
    let (j, r, r_at, (x_in, y_in)) = any_at (λ (r : PlacedRecord). Any (◌≡◌ x) r.fields × Any (◌≡◌ y) r.fields) text.records together in
    at_any (λ (r : PlacedRecord). Any (◌≡◌ y) r.fields × Any (◌≡◌ x) r.fields) text.records j r r_at (y_in, x_in)

turn_as : (parts : List Stretch) (T L : PlacedText) (x y : Placed) → AreAsIn parts T L x y → AreAsIn parts T L y x
turn_as parts T L x y are = record {
  one = are.other;
  one_there = are.other_there;
  one_is = are.other_is;
  other = are.one;
  other_there = are.one_there;
  other_is = are.one_is;
  as_there = (
    λ together. turn_together T are.one are.other (are.as_there.0 (turn_together L y x together)),
    λ together. turn_together L x y (are.as_there.1 (turn_together T are.other are.one together)),
  );
}

-- a record is one of the one text, as far as it is left, or a whole one of the other
abbrev IsOf : (parts : List Stretch) (T L : PlacedText) (others : List Stretch) (O : PlacedText) → PlacedRecord → Type 0
IsOf parts T L others O own = Any (λ one. HasWhatIsLeft parts T one L own) T.records ⊎ Any (λ old. IsWhole others old own) O.records

module _ (f h g : List ℕ) (T O L : PlacedText) (is_text : IsPlaced f T) (is_other : IsPlaced h O) (is_left : IsPlaced g L) (parts others : List Stretch) where
  -- where it is a whole one, a field came from there
  whole_came : (k : ℕ) (own old : PlacedRecord) (n : ℕ) (x : Placed) → slice_get L.records k ≡ Some own → slice_get O.records n ≡ Some old → IsWhole others old own → Any (◌≡◌ x) own.fields
      → (was : Placed) × Came h g O L is_other is_left others x was
  whole_came k own old n x own_at old_at whole there =
      let (m, x_in) = at_is own.fields x there in
      let (was, was_in, same) = zip_back (IsSame others) old.fields own.fields m x whole.fields x_in in
      let (i, x_at) = element_of g L is_left k own x own_at there in
      let (j, was_at) = element_of h O is_other n old was old_at (is_at old.fields m was was_in) in
      (was, record { at = i; is_at = x_at; old_at = j; is_old_at = was_at; same = same })

  two_fields : (k j : ℕ) (own other : PlacedRecord) (x y : Placed) → slice_get L.records k ≡ Some own → slice_get L.records j ≡ Some other → Any (◌≡◌ x) own.fields → Any (◌≡◌ y) other.fields
      → IsOf parts T L others O own → IsOf parts T L others O other → WasAmong parts T.elements x → WasAmong parts T.elements y → AreAsIn parts T L x y ⊎ AreAsIn others O L x y
  two_fields k j own other x y own_at other_at x_in y_in (inl of_one) known was was_too =
      let (i, x_at) = element_of g L is_left k own x own_at x_in in
      let (l, y_at) = element_of g L is_left j other y other_at y_in in
      let (old_x, came) = came_from f g T L is_text is_left parts x i x_at was in
      let (old_y, also) = came_from f g T L is_text is_left parts y l y_at was_too in
      let (n, one, is_one, has) = any_at (λ one. HasWhatIsLeft parts T one L own) T.records of_one in
      inl (are_as f g T L is_text is_left parts k n own one own_at is_one has x y old_x old_y came also x_in)
  two_fields k j own other x y own_at other_at x_in y_in (inr whole) (inl of_one) was was_too =
      let (i, x_at) = element_of g L is_left k own x own_at x_in in
      let (l, y_at) = element_of g L is_left j other y other_at y_in in
      let (old_x, came) = came_from f g T L is_text is_left parts x i x_at was in
      let (old_y, also) = came_from f g T L is_text is_left parts y l y_at was_too in
      let (n, one, is_one, has) = any_at (λ one. HasWhatIsLeft parts T one L other) T.records of_one in
      inl (turn_as parts T L y x (are_as f g T L is_text is_left parts j n other one other_at is_one has y x old_y old_x also came y_in))
  two_fields k j own other x y own_at other_at x_in y_in (inr whole) (inr whole_too) was was_too =
      let (n, old, old_at, is) = any_at (λ old. IsWhole others old own) O.records whole in
      let (m, old_too, old_too_at, is_too) = any_at (λ old. IsWhole others old other) O.records whole_too in
      let (old_x, came) = whole_came k own old n x own_at old_at is x_in in
      let (old_y, also) = whole_came j other old_too m y other_at old_too_at is_too y_in in
      inr (are_as h g O L is_other is_left others k n own old own_at old_at (whole_has h g O L is_other is_left others old own is) x y old_x old_y came also x_in)

-- ---- the law

module _ (steps later_steps : List EditStep) (change later ahead back : List Stretch) (keeps : KeepsPlaces steps later_steps change later ahead back) where
  abbrev Known : PlacedRecord → Type 0
  Known = IsKnown steps later_steps change later ahead back keeps.before keeps.after keeps.here keeps.left

  known_at : (k : ℕ) (own : PlacedRecord) → slice_get keeps.left.records k ≡ Some own → Known own
  known_at k own at = all_at Known keeps.left.records k own keeps.keeps.records at

  of_here : (own : PlacedRecord) → Known own → IsOf back keeps.here keeps.left ahead keeps.before own
  of_here own (inl whole) =
      let (n, one, is_one, is) = any_at (λ new. IsWhole back new own) keeps.here.records whole in
      inl (at_any (λ one. HasWhatIsLeft back keeps.here one keeps.left own) keeps.here.records n one is_one
      (whole_has (after_of later) (after_of back) keeps.here keeps.left keeps.is_here keeps.is_left back one own is))
  of_here own (inr (inl whole)) = inr whole
  of_here own (inr (inr put)) =
      let (n, is_one) = at_is keeps.here.records put.new put.is_new in
      inl (at_any (λ one. HasWhatIsLeft back keeps.here one keeps.left own) keeps.here.records n put.new is_one put.of_new)

  of_before : (own : PlacedRecord) → Known own → IsOf ahead keeps.before keeps.left back keeps.here own
  of_before own (inl whole) = inr whole
  of_before own (inr (inl whole)) =
      let (n, one, is_one, is) = any_at (λ old. IsWhole ahead old own) keeps.before.records whole in
      inl (at_any (λ one. HasWhatIsLeft ahead keeps.before one keeps.left own) keeps.before.records n one is_one
      (whole_has (before_of change) (after_of back) keeps.before keeps.left keeps.is_before keeps.is_left ahead one own is))
  of_before own (inr (inr put)) =
      let (n, is_one) = at_is keeps.before.records put.old put.is_old in
      inl (at_any (λ one. HasWhatIsLeft ahead keeps.before one keeps.left own) keeps.before.records n put.old is_one put.of_old)

  two : (x y : Placed) → IsField keeps.left x → IsField keeps.left y
      → (WasAmong back keeps.here.elements x × WasAmong back keeps.here.elements y) ⊎ (WasAmong ahead keeps.before.elements x × WasAmong ahead keeps.before.elements y)
      → AreAsIn back keeps.here keeps.left x y ⊎ AreAsIn ahead keeps.before keeps.left x y
  two x y in_one in_other (inl (was, was_too)) =
      let (k, own, own_at, x_in) = any_at (λ (r : PlacedRecord). Any (◌≡◌ x) r.fields) keeps.left.records in_one in
      let (j, other, other_at, y_in) = any_at (λ (r : PlacedRecord). Any (◌≡◌ y) r.fields) keeps.left.records in_other in
      two_fields (after_of later) (before_of change) (after_of back) keeps.here keeps.before keeps.left keeps.is_here keeps.is_before keeps.is_left back ahead k j own other x y own_at other_at x_in
      y_in (of_here own (known_at k own own_at)) (of_here other (known_at j other other_at)) was was_too
  two x y in_one in_other (inr (was, was_too)) =
      let (k, own, own_at, x_in) = any_at (λ (r : PlacedRecord). Any (◌≡◌ x) r.fields) keeps.left.records in_one in
      let (j, other, other_at, y_in) = any_at (λ (r : PlacedRecord). Any (◌≡◌ y) r.fields) keeps.left.records in_other in
      elim (two_fields (before_of change) (after_of later) (after_of back) keeps.before keeps.here keeps.left keeps.is_before keeps.is_here keeps.is_left ahead back k j own other x y own_at other_at
      x_in y_in (of_before own (known_at k own own_at)) (of_before other (known_at j other other_at)) was was_too) [
        | inl as_before ↦ inr as_before
        | inr as_here ↦ inl as_here
      ]

  had_type : (parts : List Stretch) (text : PlacedText) (own one : PlacedRecord) (n : ℕ) (x : Placed) → slice_get text.records n ≡ Some one → IsWhole parts one own → Any (◌≡◌ x) own.fields
      → HadType parts text x own.record_type
  had_type parts text own one n x is_one whole there =
      let (m, x_in) = at_is own.fields x there in
      let (was, was_in, same) = zip_back (IsSame parts) one.fields own.fields m x whole.fields x_in in
      at_any (λ (r : PlacedRecord). WasAmong parts r.fields x × (r.record_type ≡ own.record_type)) text.records n one is_one (at_any (λ w. IsSame parts w x) one.fields m was was_in same, whole.types)

  type_of : (k : ℕ) (own : PlacedRecord) (x : Placed) → slice_get keeps.left.records k ≡ Some own → Any (◌≡◌ x) own.fields → Known own
      → HadType back keeps.here x own.record_type ⊎ HadType ahead keeps.before x own.record_type
  type_of k own x own_at there (inl whole) =
      let (n, one, is_one, is) = any_at (λ new. IsWhole back new own) keeps.here.records whole in
      inl (had_type back keeps.here own one n x is_one is there)
  type_of k own x own_at there (inr (inl whole)) =
      let (n, one, is_one, is) = any_at (λ old. IsWhole ahead old own) keeps.before.records whole in
      inr (had_type ahead keeps.before own one n x is_one is there)
  type_of k own x own_at there (inr (inr put)) =
      let (i, x_at) = element_of (after_of back) keeps.left keeps.is_left k own x own_at there in
      let (m, x_in) = at_is own.fields x there in
      elim (all_at (λ y. WasAmong back keeps.here.elements y ⊎ WasAmong ahead keeps.before.elements y) keeps.left.elements i x keeps.keeps.no_other x_at) [
        | inl was ↦
            let (n, is_one) = at_is keeps.here.records put.new put.is_new in
            inl (at_any (λ (r : PlacedRecord). WasAmong back r.fields x × (r.record_type ≡ own.record_type)) keeps.here.records n put.new is_one
            (all_at (λ y. WasAmong back keeps.here.elements y → WasAmong back put.new.fields y) own.fields m x put.of_new.nothing_else x_in was, put.new_type))
        | inr was ↦
            let (n, is_one) = at_is keeps.before.records put.old put.is_old in
            inr (at_any (λ (r : PlacedRecord). WasAmong ahead r.fields x × (r.record_type ≡ own.record_type)) keeps.before.records n put.old is_one
            (all_at (λ y. WasAmong ahead keeps.before.elements y → WasAmong ahead put.old.fields y) own.fields m x put.of_old.nothing_else x_in was, put.old_type))
      ]

  types : (own : PlacedRecord) (x : Placed) → Any (◌≡◌ own) keeps.left.records → Any (◌≡◌ x) own.fields → HadType back keeps.here x own.record_type ⊎ HadType ahead keeps.before x own.record_type
  types own x any there = let (k, own_at) = at_is keeps.left.records own any in type_of k own x own_at there (known_at k own own_at)

  pieces : (y : Placed) → Any (◌≡◌ y) keeps.left.elements → Any (λ x. x.piece ≡ y.piece) keeps.here.elements ⊎ Any (λ x. x.piece ≡ y.piece) keeps.before.elements
  pieces y any = let (k, at) = at_is keeps.left.elements y any in
      elim (all_at (λ y. WasAmong back keeps.here.elements y ⊎ WasAmong ahead keeps.before.elements y) keeps.left.elements k y keeps.keeps.no_other at) [
        | inl was ↦ inl (any_map (λ x. IsSame back x y) (λ x. x.piece ≡ y.piece) keeps.here.elements (λ x is. is.piece) was)
        | inr was ↦ inr (any_map (λ x. IsSame ahead x y) (λ x. x.piece ≡ y.piece) keeps.before.elements (λ x is. is.piece) was)
      ]

pub fields_are_kept : FieldsAreKept
fields_are_kept steps later_steps change later ahead back keeps =
    record {
      two = two steps later_steps change later ahead back keeps;
      types = types steps later_steps change later ahead back keeps;
      pieces = pieces steps later_steps change later ahead back keeps;
    }
