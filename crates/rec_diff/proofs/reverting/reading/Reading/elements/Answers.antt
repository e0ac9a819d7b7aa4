use Rattle.std.proofs.Common.{◌∙◌, ap}
use Rattle.rec_diff.specs.Placed.{placed_from}
use Rattle.rec_diff.proofs.lemmas.reverting.PlacedLemmas.{placed_elements}
use Rattle.rec_diff.proofs.reverting.reading.Reading.elements.Goals as goal

pub returns-clause-elements : goal.returns-clause-elements
returns-clause-elements c = placed_elements 0 c.elements.result.now c.elements.ensures.places ∙ ap (placed_from 0) c.elements.ensures.pieces
