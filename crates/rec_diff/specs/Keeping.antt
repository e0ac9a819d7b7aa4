-- What is left of a text without one of its edits keeps its places: each field is in its record, and each record in its
-- set.
use Rattle.std.specs.Prelude.{◌≡◌, ◌⊎◌, ℕ, List, ◌++◌, Any, filter}
use Rattle.std.specs.List.{AllByRecursion, AllZip}
use Rattle.rec_journal.specs.declared.patch.Hunk.{Hunk}
use Rattle.rec_journal.specs.declared.event.EditStep.{EditStep}
use Rattle.rec_diff.specs.Changes.{Stretch, hunks_at, before_of, after_of}
use Rattle.rec_diff.specs.Composing.{ComposesAll, patches_of}
use Rattle.rec_diff.specs.Making.{IsSame, StaysAmong, WasAmong, IsTakenOut, Shares, IsFirst, StepsMake}
use Rattle.rec_diff.specs.Placed.{PlacedRecord, PlacedText, IsPlaced, is_field}
use Rattle.rec_diff.specs.WholeLines.{IsChange}

-- what steps change, taken together, by bytes
pub record IsCutBy (steps : List EditStep) (before after : List ℕ) (parts : List Stretch) : Type 0 where
  pub patch : List Hunk
  pub composed : ComposesAll (patches_of steps) patch
  pub by_patch : hunks_at 0 parts ≡ patch
  pub from : before_of parts ≡ before
  pub to : after_of parts ≡ after

-- and in whole lines
pub record IsChangeBy (steps : List EditStep) (before after : List ℕ) (parts : List Stretch) : Type 0 where
  pub patch : List Hunk
  pub composed : ComposesAll (patches_of steps) patch
  pub change : IsChange patch before after parts

-- a record is one of the other text: it has the same fields, and is of the same set
pub record IsWhole (parts : List Stretch) (old new : PlacedRecord) : Type 0 where
  pub fields : AllZip (IsSame parts) old.fields new.fields
  pub types : old.record_type ≡ new.record_type

-- All that is left of a record's fields is in one of what is left, and nothing else of their text is.
pub record HasWhatIsLeft (parts : List Stretch) (text : PlacedText) (one : PlacedRecord) (left : PlacedText)
    (record_left : PlacedRecord) : Type 0 where
  pub all : AllByRecursion (λ x. StaysAmong parts left.elements x → StaysAmong parts record_left.fields x) one.fields
  pub nothing_else : AllByRecursion (λ y. WasAmong parts text.elements y → WasAmong parts one.fields y)
      record_left.fields

-- An edit and later ones: their steps; what leads from the text before it to the one after it, from there to the text
-- here, and from the text before and the one here to what is left; and these texts.
module _ (steps later_steps : List EditStep) (change later ahead back : List Stretch)
    (before after here left : PlacedText) where
  -- The later edits have kept a record: they didn't touch one of its fields, or all of them are there again; or they
  -- made the one of the other, step by step.
  abbrev pub AreKept : PlacedRecord → PlacedRecord → Type 0
  AreKept between new =
      ((parts : List Stretch) × IsCutBy later_steps (after_of change) (after_of later) parts
      × IsFirst (Shares parts between) here.records new)
      ⊎ (AllByRecursion (StaysAmong later new.fields) between.fields
      ⊎ StepsMake later_steps (after_of change) (after_of later) between new)

  -- The edit made one record of another, and the later ones have kept it. What is left has what is left of both.
  pub record IsPutTogether (record_left : PlacedRecord) : Type 0 where
    pub old : PlacedRecord
    pub is_old : Any (◌≡◌ old) before.records
    pub between : PlacedRecord
    pub is_between : Any (◌≡◌ between) after.records
    pub new : PlacedRecord
    pub is_new : Any (◌≡◌ new) here.records
    pub made : StepsMake steps (before_of change) (after_of change) old between
    pub kept : AreKept between new
    pub of_old : HasWhatIsLeft ahead before old left record_left
    pub of_new : HasWhatIsLeft back here new left record_left
    pub old_type : old.record_type ≡ record_left.record_type
    pub new_type : new.record_type ≡ record_left.record_type

  -- each record that is left is one of here, or one that was before, or is put together of two
  abbrev pub IsKnown : PlacedRecord → Type 0
  IsKnown record_left =
      Any (λ new. IsWhole back new record_left) here.records
      ⊎ (Any (λ old. IsWhole ahead old record_left) before.records ⊎ IsPutTogether record_left)

  -- what the edit changed or took out is back, what the later ones changed or put in is still there, and nothing else
  -- comes about
  pub record ArePlacesKept : Type 0 where
    pub back_again : AllByRecursion (λ x. StaysAmong change after.elements x ⊎ StaysAmong ahead left.elements x)
        before.elements
    pub still_there : AllByRecursion (λ x. WasAmong later after.elements x ⊎ StaysAmong back left.elements x)
        here.elements
    pub no_other : AllByRecursion (λ y. WasAmong back here.elements y ⊎ WasAmong ahead before.elements y) left.elements
    pub records : AllByRecursion IsKnown left.records
    -- no field that the edit only took out is there again already
    pub all : List Stretch
    pub all_is : IsChangeBy (steps ++ later_steps) (before_of change) (after_of later) all
    pub still_out : AllByRecursion (λ x. IsTakenOut change x → StaysAmong all here.elements x → ⊥)
        (filter is_field before.elements)

-- all four texts read, and what is left keeps its places
pub record KeepsPlaces (steps later_steps : List EditStep) (change later ahead back : List Stretch) : Type 0 where
  pub before : PlacedText
  pub is_before : IsPlaced (before_of change) before
  pub after : PlacedText
  pub is_after : IsPlaced (after_of change) after
  pub here : PlacedText
  pub is_here : IsPlaced (after_of later) here
  pub left : PlacedText
  pub is_left : IsPlaced (after_of back) left
  pub keeps : ArePlacesKept steps later_steps change later ahead back before after here left
