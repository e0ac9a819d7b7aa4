use Rattle.std.proofs.Common.{◌≡◌, ℕ, List, drop, length, take}
use Rattle.rec_journal.specs.Revisions.{LeadsBy, joined_steps, step_lists}
use Rattle.rec_diff.specs.Placed.{IsPlaced, PlacedText}
use Rattle.rec_diff.specs.proving.Making.{AreMadeBySteps}
use Rattle.rec_diff.proofs.reverting.making.made_by_edits.Given as goal

-- what the edits so far make
abbrev pub invariant-loop-steps : goal.invariant-loop-steps
invariant-loop-steps l = record {
  made : (own : PlacedText) → IsPlaced l.text own → length own.records ≡ l.count
      → AreMadeBySteps (joined_steps (step_lists (take l.steps-index l.edits))) l.text own l.here l.made.items;
  leads : LeadsBy (joined_steps (step_lists (take l.steps-index l.edits))) l.text l.here;
  left : (after : List ℕ) × LeadsBy (joined_steps (step_lists (drop l.steps-index l.edits))) l.here after;
}
