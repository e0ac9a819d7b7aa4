use Rattle.std.proofs.Common.{map, sym, subst}
use Rattle.rec_check.specs.Automatic.{readings}
use Rattle.rec_check.specs.Counters.{AreCounters}
use Rattle.rec_check.specs.Stored.{described}
use Rattle.rec_check.specs.Violations.{members}
use Rattle.rec_edit.specs.Task.{Pair}
use Rattle.rec_edit.proofs.lemmas.automatic.NumberLemmas.{set_there, rules_there, given_at, refused_at}
use Rattle.rec_edit.proofs.automatic.given_at.Goals as goal

pub counters-requires-clause-schema : goal.counters-requires-clause-schema
counters-requires-clause-schema c = rw (c.database.ensures.elements, c.schema.ensures.schema) c.database.ensures.together

pub counters-requires-clause-place : goal.counters-requires-clause-place
counters-requires-clause-place c = rw c.schema.ensures.schema c.requires

pub returns-clause-given : goal.returns-clause-given
returns-clause-given c =
    let pieces = c.args.file.now.pieces in
    let schema = described c.args.file.now.schema in
    let elements = c.database.ensures.elements in
    let same = c.schema.ensures.schema in
    let is = c.database.ensures.together in
    let (s, is_set) = set_there schema c.args.place c.requires in
    let (rules, are_rules) = rules_there pieces schema c.args.place is c.requires in
    let own = map (λ (pair : Pair). pair.name) c.args.pairs.now in
    let numbers = readings pieces (members is.records s) in
    given_at pieces schema c.args.place is.records is.are s is_set rules are_rules own c.give.result c.give.new.counters
    (c.give.ensures.given rules numbers own (subst (AreCounters rules numbers) (sym c.deref_mut.ensures.value)
    ((rw (elements, same) at c.in_ok-counters.ensures.counters) is.records s rules is.are is_set are_rules)) c.in_ok-names.ensures.names)

pub returns-clause-refused : goal.returns-clause-refused
returns-clause-refused c =
    let pieces = c.args.file.now.pieces in
    let schema = described c.args.file.now.schema in
    let elements = c.database.ensures.elements in
    let same = c.schema.ensures.schema in
    let is = c.database.ensures.together in
    let (s, is_set) = set_there schema c.args.place c.requires in
    let (rules, are_rules) = rules_there pieces schema c.args.place is c.requires in
    let own = map (λ (pair : Pair). pair.name) c.args.pairs.now in
    let numbers = readings pieces (members is.records s) in
    refused_at pieces schema c.args.place is.records is.are s is_set rules are_rules own c.give.result
    (c.give.ensures.refused rules numbers own (subst (AreCounters rules numbers) (sym c.deref_mut.ensures.value)
    ((rw (elements, same) at c.in_ok-counters.ensures.counters) is.records s rules is.are is_set are_rules)) c.in_ok-names.ensures.names)
