-- What takes an edit back, as the code finds it.
use Rattle.std.specs.Prelude.{◌≡◌, ℕ, List}
use Rattle.rec_journal.specs.declared.patch.Hunk.{Hunk}
use Rattle.rec_diff.specs.declared.reverting.edits.Edits.{Edits}
use Rattle.rec_diff.specs.declared.reverting.weaving.Woven.{Woven}
use Rattle.rec_diff.specs.Changes.{Stretch, hunks_at}
use Rattle.rec_diff.specs.Keeping.{KeepsPlaces}
use Rattle.rec_diff.specs.Strands.{AreWoven, Strand, ahead_in, back_in, hunks_back}
use Rattle.rec_diff.specs.Reverts.{hunks_without}
use Rattle.rec_diff.specs.proving.Keeping.{AreLed, later_steps}

-- by strands that tell the edit and the later ones apart, and the turns among the four texts
pub record IsTakenBack (edits : Edits) (hunks : List Hunk) (woven : Woven) : Type 0 where
  pub parts : List Stretch
  pub others : List Stretch
  pub strands : List Strand
  pub left : List ℕ
  pub led : AreLed edits woven left parts others (ahead_in strands) (back_in strands)
  pub are_woven : AreWoven (hunks_back parts) (hunks_at 0 others) edits.after.now strands
  pub hunks_are : hunks ≡ hunks_without strands

-- what is left keeps its places
abbrev pub TakenKeeps : (edits : Edits) (hunks : List Hunk) (woven : Woven) → IsTakenBack edits hunks woven → Type 0
TakenKeeps edits hunks woven taken =
    KeepsPlaces edits.steps.now (later_steps edits) taken.parts taken.others (ahead_in taken.strands)
    (back_in taken.strands)
