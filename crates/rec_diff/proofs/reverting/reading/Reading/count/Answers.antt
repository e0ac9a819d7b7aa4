use Rattle.std.proofs.Common.{arith}
use Rattle.rec_diff.proofs.lemmas.reverting.PlacedLemmas.{length-records}
use Rattle.rec_diff.proofs.reverting.reading.Reading.count.Goals as goal

pub returns : goal.returns
returns c = omega (arith, length-records c.args.self.now.database c.args.self.now.records.each.items)
