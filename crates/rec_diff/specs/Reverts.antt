-- One edit of a text, made before later ones, is taken back alone.
use Rattle.std.specs.Prelude.{◌≡◌, ◌≢◌, ◌↔◌, ◌⊎◌, ℕ, true, List, [], ◌∷◌, Any, map, Option, if◌then◌else◌}
use Rattle.std.specs.Str.{bytes_eq}
use Rattle.rec_journal.specs.declared.event.EditStep.{EditStep}
use Rattle.rec_journal.specs.declared.patch.Hunk.{Hunk}
use Rattle.rec_journal.specs.Patch.{Splices, IsPatch}
use Rattle.rec_journal.specs.Revisions.{LeadsBy}
use Rattle.rec_diff.specs.Changes.{Stretch, turns, hunks_at}
use Rattle.rec_diff.specs.Composing.{deeds_of, deed_hunks}
use Rattle.rec_diff.specs.Keeping.{IsChangeBy, KeepsPlaces}
use Rattle.rec_diff.specs.Making.{IsSame, WasAmong}
use Rattle.rec_diff.specs.Placed.{IsPlaced, Placed, PlacedRecord, PlacedText}
use Rattle.rec_diff.specs.Strands.{Strand, ahead_in, back_in, hunks_back, mine_part, AreWoven}

-- ---- what takes the edit back

-- without the hunks that change nothing
abbrev pub changing : List Hunk → List Hunk
changing [] = []
changing (h ∷ hunks) = if bytes_eq h.old h.new then changing hunks else h ∷ changing hunks

-- those that touch are one
abbrev pub as_patch : List Hunk → List Hunk
as_patch hunks = changing (deed_hunks (deeds_of hunks))

-- from the text that has both to the one that has the later ones alone
abbrev pub hunks_without : List Strand → List Hunk
hunks_without strands = as_patch (hunks_back (map (mine_part true) strands))

-- the hunks take an edit, which made these steps, back out of the text here, to which later ones led on from it
pub record Reverts
    (steps : List EditStep) (before after : List ℕ) (later : List EditStep) (here : List ℕ) (hunks : List Hunk)
    : Type 0 where
  pub parts : List Stretch
  pub change_is : IsChangeBy steps before after parts
  pub others : List Stretch
  pub later_is : IsChangeBy later after here others
  pub strands : List Strand
  pub woven : AreWoven (hunks_back parts) (hunks_at 0 others) after strands
  pub is : hunks ≡ hunks_without strands
  -- where the text stays as it is, nothing is asked
  pub places : hunks ≢ [] → KeepsPlaces steps later parts others (ahead_in strands) (back_in strands)

-- nothing does: a later change overlaps this one, or nobody knows which comes first, or what is left would not keep its
-- places
abbrev pub NothingReverts : List EditStep → List ℕ → List ℕ → List EditStep → List ℕ → Type 0
NothingReverts steps before after later here = (hunks : List Hunk) → Reverts steps before after later here hunks → ⊥

-- ---- laws

-- there is one way
abbrev pub OneRevert : Type 0
OneRevert = (steps : List EditStep) (before after : List ℕ) (later : List EditStep) (here : List ℕ)
    (one other : List Hunk) → Reverts steps before after later here one → Reverts steps before after later here other
    → one ≡ other

-- the texts that hunks take out and put in, one hunk after another
abbrev pub texts_of : List Hunk → List Stretch
texts_of hunks = map (λ (h : Hunk). turns h.old h.new) hunks

-- The later ones, with the same texts out and in, lead from the text before the change to what is left; and the change,
-- with the same texts, leads from there to the text here.
pub record IsWithout (change later : List Hunk) (before left here : List ℕ) : Type 0 where
  pub later_ones : List Hunk
  pub same_later : texts_of later_ones ≡ texts_of later
  pub later_lead : Splices later_ones before left
  pub mine : List Hunk
  pub same_mine : texts_of mine ≡ texts_of change
  pub mine_leads : Splices mine left here

-- what is taken back is a patch, and leaves what there is without the change
pub record LeavesTheRest (change later : List Hunk) (before here : List ℕ) (hunks : List Hunk) : Type 0 where
  pub left : List ℕ
  pub leads : Splices hunks here left
  pub is_patch : IsPatch hunks
  pub without : IsWithout change later before left here

abbrev pub RevertsLeaveTheRest : Type 0
RevertsLeaveTheRest = (steps : List EditStep) (before after : List ℕ) (later : List EditStep) (here : List ℕ)
    (hunks : List Hunk) → (reverts : Reverts steps before after later here hunks)
    → LeavesTheRest (hunks_at 0 reverts.parts) (hunks_at 0 reverts.others) before here hunks

-- Without later edits an edit is taken back wherever its two texts read, and what is left is the text before it.
abbrev pub NewestReverts : Type 0
NewestReverts = (steps : List EditStep) (before after : List ℕ) → LeadsBy steps before after
    → (old new : PlacedText) → IsPlaced before old → IsPlaced after new
    → (hunks : List Hunk) × Reverts steps before after [] after hunks × Splices hunks after before

-- ---- fields that are left

-- a field of a record
abbrev pub IsFieldOf : PlacedText → Placed → Type 0
IsFieldOf text x = Any (λ (r : PlacedRecord). Any (◌≡◌ x) r.fields) text.records

-- two fields are in one record of a text
abbrev pub AreTogether : PlacedText → Placed → Placed → Type 0
AreTogether text x y = Any (λ (r : PlacedRecord). Any (◌≡◌ x) r.fields × Any (◌≡◌ y) r.fields) text.records

-- both came from this text, and are in one record exactly where they were in one there
pub record AreAsIn (parts : List Stretch) (text left : PlacedText) (x y : Placed) : Type 0 where
  pub one : Placed
  pub one_there : Any (◌≡◌ one) text.elements
  pub one_is : IsSame parts one x
  pub other : Placed
  pub other_there : Any (◌≡◌ other) text.elements
  pub other_is : IsSame parts other y
  pub as_there : AreTogether left x y ↔ AreTogether text one other

-- a field was in a record of this text that had this type
abbrev pub HadType : List Stretch → PlacedText → Placed → Option (List ℕ) → Type 0
HadType parts text x record_type =
    Any (λ (r : PlacedRecord). WasAmong parts r.fields x × (r.record_type ≡ record_type)) text.records

-- What is left keeps its places: so of two of its fields that both came from the text here, or both from the one before
-- the edit, it is as it was in one of these texts whether they are in one record; a record has the type that one of
-- these had in which a field of it was; and each element is one of theirs, so no line comes about of two.
module _ (steps later_steps : List EditStep) (change later ahead back : List Stretch)
    (keeps : KeepsPlaces steps later_steps change later ahead back) where
  pub record KeepsFields : Type 0 where
    pub two : (x y : Placed) → IsFieldOf keeps.left x → IsFieldOf keeps.left y
        → (WasAmong back keeps.here.elements x × WasAmong back keeps.here.elements y)
        ⊎ (WasAmong ahead keeps.before.elements x × WasAmong ahead keeps.before.elements y)
        → AreAsIn back keeps.here keeps.left x y ⊎ AreAsIn ahead keeps.before keeps.left x y
    pub types : (own : PlacedRecord) (x : Placed) → Any (◌≡◌ own) keeps.left.records → Any (◌≡◌ x) own.fields
        → HadType back keeps.here x own.record_type ⊎ HadType ahead keeps.before x own.record_type
    pub pieces : (y : Placed) → Any (◌≡◌ y) keeps.left.elements
        → Any (λ x. x.piece ≡ y.piece) keeps.here.elements ⊎ Any (λ x. x.piece ≡ y.piece) keeps.before.elements

abbrev pub FieldsAreKept : Type 0
FieldsAreKept = (steps later_steps : List EditStep) (change later ahead back : List Stretch)
    (keeps : KeepsPlaces steps later_steps change later ahead back)
    → KeepsFields steps later_steps change later ahead back keeps
