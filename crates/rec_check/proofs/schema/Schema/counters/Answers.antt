use Rattle.std.proofs.Common.{◌∙◌, Some, ap, arith, option_map, sym}
use Rattle.std.proofs.lemmas.Option.{slice_get-get_or, slice_get-map}
use Rattle.rec_check.specs.Stored.{described, rules_stored}
use Rattle.rec_check.proofs.lemmas.automatic.CountLemmas.{counters_at}
use Rattle.rec_check.proofs.lemmas.automatic.CounterLemmas.{place_of_rules}
use Rattle.rec_check.proofs.schema.Schema.counters.Goals as goal

pub index-requires : goal.index-requires
index-requires c =
    omega (arith, c.args.self.now.rules.ok.0, place_of_rules c.args.database.now c.args.self.now.sets.items c.args.self.now.rules.items c.args.set c.requires.schema c.requires.place)

pub returns-clause-counters : goal.returns-clause-counters
returns-clause-counters c =
    let rules = c.args.self.now.rules.items in
    let own = c.index.result.now in
    let few = place_of_rules c.args.database.now c.args.self.now.sets.items rules c.args.set c.requires.schema c.requires.place in
    counters_at c.args.database.now _ (described c.args.self.now) c.args.set
    (rules_stored own) c.members-records.result.now c.counters_of.result c.elements.ensures.pieces c.members-records.ensures.members
    (slice_get-map rules_stored rules c.args.set ∙ ap (option_map rules_stored) (slice_get-get_or rules c.args.set own few ∙ ap Some (sym c.index.ensures))) c.counters_of.ensures.counters
