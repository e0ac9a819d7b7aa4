use Rattle.std.proofs.Common.{List, subst, sym}
use Rattle.std.specs.List.{AllByRecursion}
use Rattle.std.proofs.Common.{Option, Vec, Global, ℕ}
use Rattle.rec_diff.specs.declared.turn.Turn.{Turn}
use Rattle.rec_diff.specs.Changes.{Stretch}
use Rattle.rec_diff.specs.Making.{StaysAmong}
use Rattle.rec_diff.specs.proving.Reading.{AreMade, AreNumbers, AreTurnsOf, placed_of, text_of_reading}
use Rattle.rec_diff.proofs.lemmas.reverting.ListLemmas.{ok_map}
use Rattle.rec_diff.proofs.reverting.keeping.together.again.Goals as goal

pub returns : goal.returns
returns c =
    let after = c.args.readings.now.after in
    let here = c.args.readings.now.here in
    ok_map c.all_again.result
    (λ (made : Vec (Option ℕ) Global). (parts : List Stretch) (turns : List Turn) → AreTurnsOf parts (text_of_reading after) (text_of_reading here) turns
    → AreNumbers parts (placed_of after) (placed_of here) c.deref-2.result.now
    → AreMade (λ own its. AllByRecursion (StaysAmong parts its.fields) own.fields) (placed_of after) (placed_of here) made.items)
    (λ (made : Vec (Option ℕ) Global). (parts : List Stretch) → AreTurnsOf parts (text_of_reading after) (text_of_reading here) c.args.woven.now.later.items
    → AreMade (λ between new. AllByRecursion (StaysAmong parts new.fields) between.fields) (placed_of after) (placed_of here) made.items) c.all_again.ensures
    (λ made told parts are.
    let turned = subst (AreTurnsOf parts (text_of_reading after) (text_of_reading here)) (sym c.deref.ensures.value) are in
    told parts c.deref.result.now turned (subst (AreNumbers parts (placed_of after) (placed_of here)) (sym c.deref-2.ensures.value) (c.in_ok-numbers.ensures parts turned)))
