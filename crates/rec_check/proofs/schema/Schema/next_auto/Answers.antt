use Rattle.std.proofs.Common.{arith}
use Rattle.rec_check.proofs.lemmas.automatic.CounterLemmas.{automatic, place_of_rules}
use Rattle.rec_check.proofs.schema.Schema.next_auto.Goals as goal

pub index-requires : goal.index-requires
index-requires c =
    omega (arith, c.args.self.now.rules.ok.0, place_of_rules c.args.database.now c.args.self.now.sets.items c.args.self.now.rules.items c.args.set c.requires.schema c.requires.place)

pub returns : goal.returns
returns c =
    automatic c.args.database.now c.args.self.now.sets.items c.args.self.now.rules.items c.args.set c.args.name.now _ c.members-records.result.now c.index.result.now c.next_value.result
    c.requires.schema c.requires.place c.elements.ensures.pieces c.members-records.ensures.members c.index.ensures c.next_value.ensures
