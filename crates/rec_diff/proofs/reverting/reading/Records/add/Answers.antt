use Rattle.std.proofs.Common.{◌∙◌}
use Rattle.rec_diff.proofs.lemmas.reverting.ReadingLemmas.{next_read}
use Rattle.rec_diff.proofs.reverting.reading.Records.add.Goals as goal

pub returns-clause-so_far : goal.returns-clause-so_far
returns-clause-so_far c =
    let r = c.args.self.now in
    next_read c.args.elements.now c.args.range.now c.elements_in-own.result.now r.each.items c.push.new.self.items r.fields.items c.add_fields.new.fields.items r.owners.items
    c.resize.new.self.items c.add_owners.new.owners.items r.types.items c.add_type.new.types.items c.in_ok-named.named c.in_ok-record_type.record_type c.len.result r.owners.len
    c.len-start.result c.len-2.result c.requires.so_far c.requires.places c.requires.order c.requires.within c.requires.after c.elements_in-own.ensures.elements c.in_ok-named.ensures.found
    (c.len.ensures ∙ r.each.ok.0) r.owners.ok.0 (c.len-start.ensures ∙ r.fields.ok.0) (c.len-2.ensures ∙ c.add_fields.new.fields.ok.0) c.in_ok-resize.ensures.items c.in_ok-add_owners.ensures
    c.in_ok-add_fields.ensures c.in_ok-record_type.ensures.types c.in_ok-record_type.ensures.last c.in_ok-push.ensures.items
