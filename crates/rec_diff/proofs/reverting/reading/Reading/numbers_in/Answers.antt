use Rattle.std.proofs.Common.{◌≡◌, List}
use Rattle.std.proofs.lemmas.Result.{IfOk-weaker}
use Rattle.rec_diff.specs.Changes.{Stretch}
use Rattle.rec_diff.specs.proving.Numbering.{numbers_there, places_there}
use Rattle.rec_diff.specs.proving.Reading.{AreNumbers, AreTurnsOf, placed_of, text_of_reading}
use Rattle.rec_diff.specs.proving.Weaving.{at_start}
use Rattle.rec_diff.proofs.lemmas.reverting.NumberedLemmas.{all_within, numbers_are}
use Rattle.rec_diff.proofs.reverting.reading.Reading.numbers_in.Goals as goal

pub numbers-requires-clause-within : goal.numbers-requires-clause-within
numbers-requires-clause-within c =
    all_within c.args.self.now c.elements.result.now c.text.result.now c.requires.one c.elements.ensures.elements c.text.ensures.text

pub returns : goal.returns
returns c =
    let r = c.args.self.now in
    let s = c.args.other.now in
    IfOk-weaker c.numbers.result
    (λ found. found.items ≡ numbers_there c.elements-2.result.now c.elements.result.now (places_there at_start c.args.turns.now c.elements.result.now))
    (λ numbers. (parts : List Stretch) → AreTurnsOf parts (text_of_reading r) (text_of_reading s) c.args.turns.now → AreNumbers parts (placed_of r) (placed_of s) numbers.items)
    (λ found is. numbers_are r s c.args.turns.now c.elements.result.now c.elements-2.result.now found.items c.requires.one c.requires.other c.elements.ensures.elements
    c.elements-2.ensures.elements c.elements-2.ensures.places is)
    c.numbers.ensures
