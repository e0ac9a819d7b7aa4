use Rattle.std.proofs.Common.{List}
use Rattle.std.proofs.lemmas.Result.{IfOk-weaker}
use Rattle.rec_diff.specs.declared.turn.Turn.{Turn}
use Rattle.rec_diff.specs.Changes.{Stretch}
use Rattle.rec_diff.specs.proving.Reading.{AreNumbers, AreOrigins, AreSpreads, AreSpreadsBy, AreTurnsOf, StaysIn, WasIn, placed_of, text_of_reading}
use Rattle.rec_diff.proofs.lemmas.reverting.SpreadLemmas.{stay_spreads, were_spreads}
use Rattle.rec_diff.proofs.reverting.spread.spreads.Goals as goal

pub returns : goal.returns
returns c =
    let one = c.args.one.now in
    let other = c.args.other.now in
    let numbers = c.args.numbers.now in
    record {
      stay =
          IfOk-weaker c.spreads_by.result (λ spreads. AreSpreadsBy numbers (placed_of one) (placed_of other) (placed_of one).records spreads.items)
          (λ spreads. (parts : List Stretch) (turns : List Turn) → AreTurnsOf parts (text_of_reading one) (text_of_reading other) turns
          → AreNumbers parts (placed_of one) (placed_of other) numbers → AreSpreads (StaysIn parts (placed_of other)) (placed_of one) spreads.items)
          (λ spreads by parts turns are all. stay_spreads one other c.requires.own c.requires.other numbers parts turns are all spreads.items by) c.spreads_by.ensures;
      were =
          IfOk-weaker c.spreads_by.result (λ spreads. AreSpreadsBy numbers (placed_of one) (placed_of other) (placed_of one).records spreads.items)
          (λ spreads. (parts : List Stretch) (turns : List Turn) → AreTurnsOf parts (text_of_reading other) (text_of_reading one) turns
          → AreOrigins parts (placed_of other) (placed_of one) numbers → AreSpreads (WasIn parts (placed_of other)) (placed_of one) spreads.items)
          (λ spreads by parts turns are all. were_spreads one other c.requires.own c.requires.other numbers parts turns are all spreads.items by) c.spreads_by.ensures;
    }
