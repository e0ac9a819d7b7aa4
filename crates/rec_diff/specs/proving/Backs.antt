-- Hunks that are turned one by one, so that they lead back.
use Rattle.std.specs.Prelude.{◌≡◌, ℕ, ◌+◌, ◌<◌, ◌^◌, List, ◌++◌, length}
use Rattle.rec_journal.specs.declared.patch.Hunk.{Hunk}
use Rattle.rec_journal.specs.Patch.{SplicesFrom}
use Rattle.rec_diff.specs.Diffs.{turned_from, turned_hunks}

-- the hunks before these were turned, and these lead on from the places in both texts
pub record IsTurnedTo (hunks back : List Hunk) (before after : ℕ) (left : List Hunk) : Type 0 where
  pub parts : turned_hunks hunks ≡ back ++ turned_from before after left
  pub here : List ℕ
  pub there : List ℕ
  pub splices : SplicesFrom before left here there
  pub here_fits : before + length here < 2 ^ 64
  pub there_fits : after + length there < 2 ^ 64
