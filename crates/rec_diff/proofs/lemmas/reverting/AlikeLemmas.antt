-- What keeps its places keeps them for all parts with the same turns of the same text.
use Rattle.std.proofs.Common.{◌≡◌, ◌∙◌, ◌⊎◌, List, inl, inr, sym, subst}
use Rattle.rec_journal.specs.declared.event.EditStep.{EditStep}
use Rattle.rec_diff.specs.Changes.{Stretch, after_of}
use Rattle.rec_diff.specs.Keeping.{ArePlacesKept, HasWhatIsLeft, IsKnown, IsPutTogether, IsWhole, KeepsPlaces}
use Rattle.rec_diff.specs.Making.{AreAlike, IsSame, StaysAmong, WasAmong}
use Rattle.rec_diff.specs.Placed.{IsPlaced, Placed, PlacedRecord, PlacedText}
use Rattle.rec_diff.proofs.lemmas.reverting.ListLemmas.{all_map, zip_map}

pub alike_back : {p q : List Stretch} → AreAlike p q → AreAlike q p
alike_back a = record { turns = sym a.turns; text = sym a.text }

module _ {p q : List Stretch} (a : AreAlike p q) where
  pub same_alike : (x y : Placed) → IsSame p x y → IsSame q x y
  same_alike x y same = record {
    piece = same.piece;
    first = same.first;
    last = same.last;
    cut = record { turns = same.cut.turns ∙ a.turns; text = same.cut.text ∙ a.text };
    old_at = same.old_at;
    new_at = same.new_at;
  }

  pub stays_alike : (others : List Placed) (x : Placed) → StaysAmong p others x → StaysAmong q others x
  stays_alike others x (i, y, there, is, same) = (i, y, there, is, same_alike x y same)

  pub was_alike : (others : List Placed) (y : Placed) → WasAmong p others y → WasAmong q others y
  was_alike others y (i, x, there, is, same) = (i, x, there, is, same_alike x y same)

  pub whole_alike : (one other : PlacedRecord) → IsWhole p one other → IsWhole q one other
  whole_alike one other whole = record { fields = zip_map (IsSame p) (IsSame q) same_alike one.fields other.fields whole.fields; types = whole.types }

pub left_alike : {p q : List Stretch} (a : AreAlike p q) (text : PlacedText) (one : PlacedRecord) (left : PlacedText) (record_left : PlacedRecord)
    → HasWhatIsLeft p text one left record_left → HasWhatIsLeft q text one left record_left
left_alike {p} {q} a text one left record_left has = record {
  all =
      all_map (λ x. StaysAmong p left.elements x → StaysAmong p record_left.fields x) (λ x. StaysAmong q left.elements x → StaysAmong q record_left.fields x)
      one.fields (λ x goes stays. stays_alike a record_left.fields x (goes (stays_alike (alike_back a) left.elements x stays))) has.all;
  nothing_else =
      all_map (λ y. WasAmong p text.elements y → WasAmong p one.fields y) (λ y. WasAmong q text.elements y → WasAmong q one.fields y)
      record_left.fields (λ y goes was. was_alike a one.fields y (goes (was_alike (alike_back a) text.elements y was))) has.nothing_else;
}

-- ---- the whole

module _ (steps later_steps : List EditStep) (change later : List Stretch) {ahead others_ahead back others_back : List Stretch} (a : AreAlike ahead others_ahead) (b : AreAlike back others_back)
    (before after here left : PlacedText) where
  put_alike : (record_left : PlacedRecord) → IsPutTogether steps later_steps change later ahead back before after here left record_left
      → IsPutTogether steps later_steps change later others_ahead others_back before after here left record_left
  put_alike record_left put = record {
    old = put.old;
    is_old = put.is_old;
    between = put.between;
    is_between = put.is_between;
    new = put.new;
    is_new = put.is_new;
    made = put.made;
    kept = put.kept;
    of_old = left_alike a before put.old left record_left put.of_old;
    of_new = left_alike b here put.new left record_left put.of_new;
    old_type = put.old_type;
    new_type = put.new_type;
  }

  known_alike : (record_left : PlacedRecord) → IsKnown steps later_steps change later ahead back before after here left record_left
      → IsKnown steps later_steps change later others_ahead others_back before after here left record_left
  known_alike record_left (inl (i, new, there, is, whole)) = inl (i, new, there, is, whole_alike b new record_left whole)
  known_alike record_left (inr (inl (i, old, there, is, whole))) = inr (inl (i, old, there, is, whole_alike a old record_left whole))
  known_alike record_left (inr (inr put)) = inr (inr (put_alike record_left put))

  back_alike : (x : Placed) → StaysAmong change after.elements x ⊎ StaysAmong ahead left.elements x → StaysAmong change after.elements x ⊎ StaysAmong others_ahead left.elements x
  back_alike x (inl stays) = inl stays
  back_alike x (inr stays) = inr (stays_alike a left.elements x stays)

  there_alike : (x : Placed) → WasAmong later after.elements x ⊎ StaysAmong back left.elements x → WasAmong later after.elements x ⊎ StaysAmong others_back left.elements x
  there_alike x (inl was) = inl was
  there_alike x (inr stays) = inr (stays_alike b left.elements x stays)

  of_two_alike : (y : Placed) → WasAmong back here.elements y ⊎ WasAmong ahead before.elements y → WasAmong others_back here.elements y ⊎ WasAmong others_ahead before.elements y
  of_two_alike y (inl was) = inl (was_alike b here.elements y was)
  of_two_alike y (inr was) = inr (was_alike a before.elements y was)

  pub places_alike : ArePlacesKept steps later_steps change later ahead back before after here left → ArePlacesKept steps later_steps change later others_ahead others_back before after here left
  places_alike kept = record {
    back_again = all_map _ _ before.elements back_alike kept.back_again;
    still_there = all_map _ _ here.elements there_alike kept.still_there;
    no_other = all_map _ _ left.elements of_two_alike kept.no_other;
    records = all_map _ _ left.records known_alike kept.records;
    all = kept.all;
    all_is = kept.all_is;
    still_out = kept.still_out;
  }

pub keeps_alike : (steps later_steps : List EditStep) (change later ahead others_ahead back others_back : List Stretch) → AreAlike ahead others_ahead → AreAlike back others_back
    → after_of back ≡ after_of others_back → KeepsPlaces steps later_steps change later ahead back → KeepsPlaces steps later_steps change later others_ahead others_back
keeps_alike steps later_steps change later ahead others_ahead back others_back a b text keeps = record {
  before = keeps.before;
  is_before = keeps.is_before;
  after = keeps.after;
  is_after = keeps.is_after;
  here = keeps.here;
  is_here = keeps.is_here;
  left = keeps.left;
  is_left = subst (λ t. IsPlaced t keeps.left) text keeps.is_left;
  keeps = places_alike steps later_steps change later a b keeps.before keeps.after keeps.here keeps.left keeps.keeps;
}
