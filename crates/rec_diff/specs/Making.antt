-- Which elements of a text a change leaves, and which records it makes of which.
use Rattle.std.specs.Prelude.{◌≡◌, ◌≢◌, ◌⊎◌, ℕ, ◌+◌, ◌≤◌, ◌&&◌, nat_lt, false, List, [], ◌∷◌, ◌++◌, Any, length, filter}
use Rattle.std.specs.List.{AllByRecursion}
use Rattle.rec_journal.specs.declared.event.EditStep.{EditStep}
use Rattle.rec_diff.specs.Changes.{Stretch, stays, turns, before_of, after_of, hunks_at}
use Rattle.rec_diff.specs.Placed.{Placed, PlacedRecord, PlacedText, IsPlaced, is_blank, size}
use Rattle.rec_diff.specs.WholeLines.{IsChange}

-- ---- elements

-- the same turns of the same text, whatever else is cut
pub record AreAlike (parts others : List Stretch) : Type 0 where
  pub turns : hunks_at 0 parts ≡ hunks_at 0 others
  pub text : before_of parts ≡ before_of others

-- one element of both texts: its bytes stay, as one piece, from its place in the old text to its place in the new one
pub record IsSame (parts : List Stretch) (old new : Placed) : Type 0 where
  pub piece : old.piece ≡ new.piece
  pub first : List Stretch
  pub last : List Stretch
  pub cut : AreAlike (first ++ stays old.piece.bytes ∷ last) parts
  pub old_at : length (before_of first) ≡ old.at
  pub new_at : length (after_of first) ≡ new.at

-- it stays, as one of these
abbrev pub StaysAmong : List Stretch → List Placed → Placed → Type 0
StaysAmong parts others x = Any (IsSame parts x) others

-- it was one of these
abbrev pub WasAmong : List Stretch → List Placed → Placed → Type 0
WasAmong parts others y = Any (λ x. IsSame parts x y) others

-- it goes, and nothing comes in its place
pub record IsTakenOut (parts : List Stretch) (x : Placed) : Type 0 where
  pub first : List Stretch
  pub old : List ℕ
  pub last : List Stretch
  pub cut : AreAlike (first ++ turns old [] ∷ last) parts
  pub begins : length (before_of first) ≤ x.at
  pub ends : x.at + size x ≤ length (before_of first) + length old

-- ---- records

-- a field stays: it was one's, and is the other's
abbrev pub Shares : List Stretch → PlacedRecord → PlacedRecord → Type 0
Shares parts one other = Any (StaysAmong parts other.fields) one.fields

-- those that have bytes of a part of their text, which begins at this place and has this length
abbrev pub touched : ℕ → ℕ → List Placed → List Placed
touched at count elements = filter (λ x. nat_lt x.at (at + count) && nat_lt at (x.at + size x)) elements

abbrev pub IsFull : Placed → Type 0
IsFull x = is_blank x ≡ false

-- fields of the one go and fields of the other come, by one turn, with no blank line in it
pub record IsInPlace (parts : List Stretch) (before after : PlacedText) (one other : PlacedRecord) : Type 0 where
  pub first : List Stretch
  pub old : List ℕ
  pub new : List ℕ
  pub last : List Stretch
  pub cut : parts ≡ first ++ turns old new ∷ last
  pub old_lines : AllByRecursion IsFull (touched (length (before_of first)) (length old) before.elements)
  pub new_lines : AllByRecursion IsFull (touched (length (after_of first)) (length new) after.elements)
  pub old_fields : touched (length (before_of first)) (length old) one.fields ≢ []
  pub new_fields : touched (length (after_of first)) (length new) other.fields ≢ []

-- the first of these that has P
pub record IsFirst {X : Type 0} (P : X → Type 0) (xs : List X) (x : X) : Type 0 where
  pub before : List X
  pub rest : List X
  pub cut : xs ≡ before ++ x ∷ rest
  pub others : AllByRecursion (λ other. P other → ⊥) before
  pub is : P x

-- a change makes of a record the first one that shares a field with it, or is put instead of it
abbrev pub Makes : List Stretch → PlacedText → PlacedText → PlacedRecord → PlacedRecord → Type 0
Makes parts before after one other =
    IsFirst (λ record_after. Shares parts one record_after ⊎ IsInPlace parts before after one record_after)
    after.records other

-- one step does, from one text to the next
pub record StepMakes (step : EditStep) (before after : List ℕ) (one other : PlacedRecord) : Type 0 where
  pub parts : List Stretch
  pub change : IsChange step.patch before after parts
  pub old : PlacedText
  pub is_old : IsPlaced before old
  pub new : PlacedText
  pub is_new : IsPlaced after new
  pub makes : Makes parts old new one other

-- steps do, one after another
abbrev pub StepsMake : List EditStep → List ℕ → List ℕ → PlacedRecord → PlacedRecord → Type 0
StepsMake [] before after one other = (before ≡ after) × (one ≡ other)
StepsMake (step ∷ steps) before after one other = (between : List ℕ) × (next : PlacedRecord)
    × StepMakes step before between one next × StepsMake steps between after next other
