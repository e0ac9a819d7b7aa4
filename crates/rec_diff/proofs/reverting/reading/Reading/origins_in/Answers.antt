use Rattle.std.proofs.Common.{◌∙◌, List, map, subst, sym}
use Rattle.std.proofs.lemmas.Result.{IfOk-weaker}
use Rattle.rec_diff.specs.Changes.{Stretch, turned}
use Rattle.rec_diff.specs.proving.Reading.{AreNumbers, AreOrigins, AreTurnsOf, placed_of, text_of_reading}
use Rattle.rec_diff.proofs.lemmas.reverting.NumberedLemmas.{origins_of}
use Rattle.rec_diff.proofs.lemmas.reverting.TurnedLemmas.{turns_turned}
use Rattle.rec_diff.proofs.reverting.reading.Reading.origins_in.Goals as goal

pub numbers_in-requires-clause-turns : goal.numbers_in-requires-clause-turns
numbers_in-requires-clause-turns c =
    let r = c.args.self.now in
    let s = c.args.other.now in
    let is = c.requires.turns in (
      map turned is.0,
      subst (AreTurnsOf (map turned is.0) (text_of_reading s) (text_of_reading r)) (sym (c.deref.ensures.value ∙ c.in_ok-back.ensures))
          (turns_turned is.0 (text_of_reading r) (text_of_reading s) c.args.turns.now is.1),
    )

pub returns : goal.returns
returns c =
    let r = c.args.self.now in
    let s = c.args.other.now in
    IfOk-weaker c.numbers_in.result
    (λ numbers. (parts : List Stretch) → AreTurnsOf parts (text_of_reading s) (text_of_reading r) c.deref.result.now → AreNumbers parts (placed_of s) (placed_of r) numbers.items)
    (λ numbers. (parts : List Stretch) → AreTurnsOf parts (text_of_reading r) (text_of_reading s) c.args.turns.now → AreOrigins parts (placed_of r) (placed_of s) numbers.items)
    (λ numbers all parts are. origins_of parts r s numbers.items
    (all (map turned parts) (subst (AreTurnsOf (map turned parts) (text_of_reading s) (text_of_reading r)) (sym (c.deref.ensures.value ∙ c.in_ok-back.ensures))
    (turns_turned parts (text_of_reading r) (text_of_reading s) c.args.turns.now are))))
    c.numbers_in.ensures
