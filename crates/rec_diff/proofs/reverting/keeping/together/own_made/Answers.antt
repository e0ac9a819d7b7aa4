use Rattle.std.proofs.Common.{◌≡◌, ◌++◌, [], List, Option, Vec, Global, MatchOption, ℕ, append-nil, length, subst, sym}
use Rattle.rec_journal.specs.Revisions.{LeadsBy}
use Rattle.rec_diff.specs.Making.{StepsMake}
use Rattle.rec_diff.specs.Placed.{IsPlaced, PlacedRecord, PlacedText}
use Rattle.rec_diff.specs.proving.Making.{AreMadeBySteps, MakeNothing}
use Rattle.rec_diff.specs.proving.Reading.{AreMade, placed_of}
use Rattle.rec_diff.proofs.lemmas.reverting.ListLemmas.{match_map, ok_map}
use Rattle.rec_diff.proofs.lemmas.reverting.ReadingLemmas.{is_placed_of}
use Rattle.rec_diff.proofs.reverting.keeping.together.own_made.Goals as goal

pub returns-clause-made : goal.returns-clause-made
returns-clause-made c =
    let edits = c.args.edits in
    let steps = edits.steps.now in
    let before = edits.before.now in
    let after = edits.after.now in
    let r = c.args.readings.now in
    let (left, read) = c.requires.read in
    let all = steps ++ [] in
    let same : steps ++ [] ≡ steps = append-nil steps in
    let is = subst (λ t. IsPlaced t (placed_of r.before)) read.is_before (is_placed_of r.before read.before) in
    let is_too = subst (λ t. IsPlaced t (placed_of r.after)) read.is_after (is_placed_of r.after read.after) in
    ok_map c.made_by_edits.result
    (λ (answer : Option (Vec (Option ℕ) Global)). MatchOption answer (MakeNothing (steps ++ []) before)
    (λ made. (own : PlacedText) (there : List ℕ) → IsPlaced before own → length own.records ≡ c.count.result → LeadsBy (steps ++ []) before there
    → AreMadeBySteps (steps ++ []) before own there made.items))
    (λ (answer : Option (Vec (Option ℕ) Global)). MatchOption answer ((one other : PlacedRecord) → StepsMake steps before after one other → ⊥)
    (λ made. AreMade (StepsMake steps before after) (placed_of r.before) (placed_of r.after) made.items)) c.made_by_edits.ensures.made
    (λ answer told.
    match_map answer (MakeNothing (steps ++ []) before) ((one other : PlacedRecord) → StepsMake steps before after one other → ⊥)
    (λ made. (own : PlacedText) (there : List ℕ) → IsPlaced before own → length own.records ≡ c.count.result → LeadsBy (steps ++ []) before there
    → AreMadeBySteps (steps ++ []) before own there made.items)
    (λ made. AreMade (StepsMake steps before after) (placed_of r.before) (placed_of r.after) made.items) told
    (λ none one other makes. none after one other (subst (λ s. StepsMake s before after one other) (sym same) makes))
    (λ made are.
    subst (λ s. AreMade (StepsMake s before after) (placed_of r.before) (placed_of r.after) made.items) same
    (are (placed_of r.before) after is (sym c.count.ensures) (subst (λ s. LeadsBy s before after) (sym same) c.requires.own) (placed_of r.after) is_too)))
