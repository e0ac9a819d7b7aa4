use Rattle.std.proofs.Common.{◌≡◌, subst, sym}
use Rattle.std.proofs.lemmas.Option.{MatchOption-at_none, MatchOption-at_some}
use Rattle.rec_journal.specs.Patch.{Splices}
use Rattle.rec_diff.specs.Changes.{cut_from}
use Rattle.rec_diff.specs.Making.{Makes}
use Rattle.rec_diff.specs.Placed.{IsPlaced, PlacedText}
use Rattle.rec_diff.specs.WholeLines.{IsChange, whole_lines}
use Rattle.rec_diff.specs.proving.Reading.{AreMade, AreTurnsOf, IsReading, placed_of, text_of_reading}
use Rattle.rec_diff.proofs.lemmas.reverting.ReadingLemmas.{is_placed_of}
use Rattle.rec_diff.proofs.lemmas.reverting.StepLemmas.{all_of_step, none_of, step_turns}
use Rattle.rec_diff.proofs.reverting.making.made_by_step.Goals as goal

pub returns-in_default-clause-made : goal.returns-in_default-clause-made
returns-in_default-clause-made c = λ a b makes.
    let before = c.args.before.now in
    MatchOption-at_none ((p : PlacedText) → IsPlaced before p → ⊥) (λ r. IsReading r × (text_of_reading r ≡ before)) (none_of c.in_ok-one.field-0 c.in_default.not-Some) c.in_ok-one.ensures.read
    makes.old makes.is_old

pub returns-in_default-2-clause-made : goal.returns-in_default-2-clause-made
returns-in_default-2-clause-made c = λ a b makes.
    let after = c.args.after.now in
    MatchOption-at_none ((p : PlacedText) → IsPlaced after p → ⊥) (λ r. IsReading r × (text_of_reading r ≡ after)) (none_of c.in_ok-other.field-0 c.in_default-2.not-Some) c.in_ok-other.ensures.read
    makes.new makes.is_new

pub made_by-requires-clause-turns : goal.made_by-requires-clause-turns
made_by-requires-clause-turns c =
    let before = c.args.before.now in
    let after = c.args.after.now in
    let one = c.in-Some.one in
    let other = c.in-Some-2.other in
    let read : IsReading one × (text_of_reading one ≡ before) =
    MatchOption-at_some ((p : PlacedText) → IsPlaced before p → ⊥) (λ r. IsReading r × (text_of_reading r ≡ before)) one c.in-Some.is c.in_ok-one.ensures.read in
    let read_too : IsReading other × (text_of_reading other ≡ after) =
    MatchOption-at_some ((p : PlacedText) → IsPlaced after p → ⊥) (λ r. IsReading r × (text_of_reading r ≡ after)) other c.in-Some-2.is c.in_ok-other.ensures.read in
    let hunks = c.hunks.result.now in
    let parts = whole_lines (cut_from 0 hunks before) in
    let turns = c.in_ok-turns.turns.items in
    let (change, are) = step_turns hunks before after turns (subst (λ h. Splices h before after) (sym c.hunks.ensures.hunks) c.requires) c.in_ok-turns.ensures.places c.in_ok-turns.ensures.order in (
      parts,
      subst (AreTurnsOf parts (text_of_reading one) (text_of_reading other)) (sym c.deref.ensures.value)
          (subst (λ t. AreTurnsOf parts t (text_of_reading other) turns) (sym read.1) (subst (λ t. AreTurnsOf parts before t turns) (sym read_too.1) are)),
    )

pub returns-clause-made : goal.returns-clause-made
returns-clause-made c =
    let before = c.args.before.now in
    let after = c.args.after.now in
    let one = c.in-Some.one in
    let other = c.in-Some-2.other in
    let read : IsReading one × (text_of_reading one ≡ before) =
    MatchOption-at_some ((p : PlacedText) → IsPlaced before p → ⊥) (λ r. IsReading r × (text_of_reading r ≡ before)) one c.in-Some.is c.in_ok-one.ensures.read in
    let read_too : IsReading other × (text_of_reading other ≡ after) =
    MatchOption-at_some ((p : PlacedText) → IsPlaced after p → ⊥) (λ r. IsReading r × (text_of_reading r ≡ after)) other c.in-Some-2.is c.in_ok-other.ensures.read in
    let hunks = c.hunks.result.now in
    let parts = whole_lines (cut_from 0 hunks before) in
    let turns = c.in_ok-turns.turns.items in
    let (change, are) = step_turns hunks before after turns (subst (λ h. Splices h before after) (sym c.hunks.ensures.hunks) c.requires) c.in_ok-turns.ensures.places c.in_ok-turns.ensures.order in
    let is : IsPlaced before (placed_of one) = subst (λ t. IsPlaced t (placed_of one)) read.1 (is_placed_of one read.0) in
    let is_too : IsPlaced after (placed_of other) = subst (λ t. IsPlaced t (placed_of other)) read_too.1 (is_placed_of other read_too.0) in
    let are_of : AreTurnsOf parts (text_of_reading one) (text_of_reading other) c.deref.result.now =
    subst (AreTurnsOf parts (text_of_reading one) (text_of_reading other)) (sym c.deref.ensures.value)
    (subst (λ t. AreTurnsOf parts t (text_of_reading other) turns) (sym read.1) (subst (λ t. AreTurnsOf parts before t turns) (sym read_too.1) are)) in
    let made : AreMade (Makes parts (placed_of one) (placed_of other)) (placed_of one) (placed_of other) c.in_ok-made_by.field-0.items = c.in_ok-made_by.ensures parts are_of in (
      placed_of one,
      placed_of other,
      is,
      is_too,
      all_of_step c.args.step.now before after parts (placed_of one) (placed_of other) c.in_ok-made_by.field-0.items
          (subst (λ h. IsChange h before after parts) c.hunks.ensures.hunks change) is is_too made,
    )
