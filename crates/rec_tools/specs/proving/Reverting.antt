-- An edit that stands before the file, with those that were made later.
use Rattle.std.specs.Prelude.{ℕ, ◌^◌, ◌<◌, List, length}
use Rattle.std.specs.Borrow.{Bor}
use Rattle.rec_journal.specs.declared.event.EditStep.{EditStep}
use Rattle.rec_journal.specs.Event.{AreStepsBy}
use Rattle.rec_journal.specs.EditTexts.{WithLater, LeadOn}
use Rattle.rec_journal.specs.Revisions.{LeadsBy, step_lists}

-- edits were made one after another, of a text that fits into memory
abbrev pub AreInARow : List (Bor (List EditStep)) → Type 0
AreInARow edits = (here there : List ℕ) × (length here < 2 ^ 64) × LeadOn (step_lists edits) here there

-- its steps are those of an edit by its tool, and lead to its text after; the later ones lead on from there to the file
pub record StandsBefore (file : List ℕ) (found : WithLater) : Type 0 where
  pub by_tool : AreStepsBy found.made.edit.tool found.made.edit.steps
  pub leads : LeadsBy found.made.edit.steps found.made.before found.made.after
  pub later : LeadOn found.later found.made.after file
