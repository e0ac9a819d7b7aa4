-- A change of a text and later ones, told apart.
use Rattle.std.specs.Prelude.{◌≡◌, ◌≢◌, ℕ, ◌+◌, Bool, true, false, List, [], length, map, if◌then◌else◌}
use Rattle.std.specs.List.{flat_map, AllByRecursion}
use Rattle.rec_journal.specs.declared.patch.Hunk.{Hunk}
use Rattle.rec_diff.specs.Changes.{Stretch, stays, turns, turned, hunks_at}

-- what one of four texts has in its place: the text before the change or after it, with the later ones or without them
pub data Strand : Type 0 where
  -- a text that neither changes
  same : List ℕ → Strand
  -- what this change does
  mine : List ℕ → List ℕ → Strand
  -- what the later ones do
  later : List ℕ → List ℕ → Strand

-- the text of a strand, with this change made or not, and with the later ones or not
abbrev pub woven_one : Bool → Bool → Strand → List ℕ
woven_one made then_made (same t) = t
woven_one made then_made (mine old new) = if made then new else old
woven_one made then_made (later old new) = if then_made then new else old

abbrev pub woven : Bool → Bool → List Strand → List ℕ
woven made then_made strands = flat_map (woven_one made then_made) strands

-- what this change does, with the later ones made or not
abbrev pub mine_part : Bool → Strand → Stretch
mine_part then_made (mine old new) = turns old new
mine_part then_made strand = stays (woven_one true then_made strand)

-- what the later ones do, with this change made or not
abbrev pub later_part : Bool → Strand → Stretch
later_part made (later old new) = turns old new
later_part made strand = stays (woven_one made true strand)

-- from the text before the change to what is left, which has the later ones alone
abbrev pub ahead_in : List Strand → List Stretch
ahead_in strands = map (later_part false) strands

-- from the text here, which has both, to what is left
abbrev pub back_in : List Strand → List Stretch
back_in strands = map turned (map (mine_part true) strands)

-- ---- how they are told apart

-- the hunks that take parts back
abbrev pub hunks_back : List Stretch → List Hunk
hunks_back parts = hunks_at 0 (map turned parts)

-- Where the change only took out, a later hunk that puts something doesn't begin or end: which of the two comes first,
-- nobody knows. Both hunks are of the text between the change and the later ones.
abbrev pub DontMeet : Hunk → Hunk → Type 0
DontMeet back other = back.old ≡ [] → other.new ≢ []
    → (other.at ≢ back.at) × (other.at + length other.old ≢ back.at)

abbrev pub AreSettled : List Hunk → List Hunk → Type 0
AreSettled backs others = AllByRecursion (λ back. AllByRecursion (DontMeet back) others) backs

-- The text between is cut into strands: these hunks lead from it back to the text before the change, and the others
-- lead on from it. So no two of them overlap.
pub record AreWoven (backs others : List Hunk) (between : List ℕ) (strands : List Strand) : Type 0 where
  pub mine_is : hunks_back (map (mine_part false) strands) ≡ backs
  pub later_is : hunks_at 0 (map (later_part true) strands) ≡ others
  pub text : woven true false strands ≡ between
  pub settled : AreSettled backs others
