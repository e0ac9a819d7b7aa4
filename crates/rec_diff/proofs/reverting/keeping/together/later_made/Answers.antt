use Rattle.std.proofs.Common.{◌≡◌, Option, Vec, Global, MatchOption, List, ℕ, length, subst, sym}
use Rattle.rec_journal.specs.Revisions.{LeadsBy}
use Rattle.rec_diff.specs.Placed.{IsPlaced, PlacedRecord, PlacedText}
use Rattle.rec_diff.specs.proving.Keeping.{IsLedOn, later_steps}
use Rattle.rec_diff.specs.proving.Making.{AreMadeBySteps, MakeNothing}
use Rattle.rec_diff.specs.proving.Reading.{AreMade, placed_of}
use Rattle.rec_diff.proofs.lemmas.reverting.ListLemmas.{match_map, ok_map}
use Rattle.rec_diff.proofs.lemmas.reverting.ReadingLemmas.{is_placed_of}
use Rattle.rec_diff.proofs.reverting.keeping.together.later_made.Goals as goal

pub returns-clause-made : goal.returns-clause-made
returns-clause-made c =
    let edits = c.args.edits in
    let steps = later_steps edits in
    let after = edits.after.now in
    let here = edits.here.now in
    let r = c.args.readings.now in
    let (left, read) = c.requires.read in
    let is = subst (λ t. IsPlaced t (placed_of r.after)) read.is_after (is_placed_of r.after read.after) in
    let is_too = subst (λ t. IsPlaced t (placed_of r.here)) read.is_here (is_placed_of r.here read.here) in
    ok_map c.made_by_edits.result
    (λ (answer : Option (Vec (Option ℕ) Global)). MatchOption answer (MakeNothing steps after)
    (λ made. (own : PlacedText) (there : List ℕ) → IsPlaced after own → length own.records ≡ c.count.result → LeadsBy steps after there → AreMadeBySteps steps after own there made.items))
    (λ (answer : Option (Vec (Option ℕ) Global)). MatchOption answer ((one other : PlacedRecord) → IsLedOn edits one other → ⊥)
    (λ made. AreMade (IsLedOn edits) (placed_of r.after) (placed_of r.here) made.items)) c.made_by_edits.ensures.made
    (λ answer told.
    match_map answer (MakeNothing steps after) ((one other : PlacedRecord) → IsLedOn edits one other → ⊥)
    (λ made. (own : PlacedText) (there : List ℕ) → IsPlaced after own → length own.records ≡ c.count.result → LeadsBy steps after there → AreMadeBySteps steps after own there made.items)
    (λ made. AreMade (IsLedOn edits) (placed_of r.after) (placed_of r.here) made.items) told
    (λ none one other makes. none here one other makes)
    (λ made are. are (placed_of r.after) here is (sym c.count.ensures) c.requires.later (placed_of r.here) is_too))
