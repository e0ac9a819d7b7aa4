use Rattle.rec_diff.specs.proving.Reading.{placed}
use Rattle.rec_diff.proofs.lemmas.reverting.TogetherLemmas.{no_turns, none_taken, taken_first}
use Rattle.rec_diff.proofs.reverting.keeping.gone.is_taken_out.Goals as goal

pub returns-in-Some : goal.returns-in-Some
returns-in-Some c =
    let (least, order) = c.requires.order in
    taken_first least c.args.turns.now c.in-Some.field-0-1.now c.in-Some.turn.now (placed c.args.element.now) c.goes_by.result c.in-Some.ensures.cases.0 order c.requires.first c.goes_by.ensures

pub returns-in-None : goal.returns-in-None
returns-in-None c = none_taken c.args.turns.now (placed c.args.element.now) (no_turns c.args.turns.now c.in-None.ensures.cases)
