use Rattle.std.proofs.Common.{◌++◌, ℕ, List, drop, take}
use Rattle.rec_journal.specs.declared.event.EditStep.{EditStep}
use Rattle.rec_journal.specs.Revisions.{LeadsBy}
use Rattle.rec_diff.specs.Placed.{IsPlaced, PlacedText}
use Rattle.rec_diff.specs.proving.Making.{AreMadeBySteps}
use Rattle.rec_diff.proofs.reverting.making.made_by_steps.Given as goal

-- what the steps so far make
abbrev pub invariant-loop-step : goal.invariant-loop-step
invariant-loop-step l = record {
  made : (first : List EditStep) (start : List ℕ) (own : PlacedText) → IsPlaced start own → LeadsBy first start l.initial.text → AreMadeBySteps first start own l.initial.text l.initial.made.items
      → AreMadeBySteps (first ++ take l.step-index l.steps) start own l.text l.made.items;
  leads : LeadsBy (take l.step-index l.steps) l.initial.text l.text;
  left : (after : List ℕ) × LeadsBy (drop l.step-index l.steps) l.text after;
}
