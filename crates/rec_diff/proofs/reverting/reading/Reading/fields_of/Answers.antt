use Rattle.std.proofs.Common.{◌≤◌, ◌∙◌, sym, ap, subst, length}
use Rattle.std.specs.List.{between}
use Rattle.rec_diff.specs.proving.Reading.{ArePicked, fields_at, placed_of}
use Rattle.rec_diff.proofs.lemmas.reverting.ReadingLemmas.{at_read, fields_in_order, fields_picked, fields_within, none_picked, past_read}
use Rattle.rec_diff.proofs.reverting.reading.Reading.fields_of.Goals as goal

pub part_of-requires-clause-order : goal.part_of-requires-clause-order
part_of-requires-clause-order c =
    let r = c.args.self.now in
    fields_in_order r c.requires c.args.number c.in-Some.own.now
    (at_read r.records.each.items c.deref.result.now c.args.number c.in-Some.own.now c.deref.ensures.value c.in-Some.ensures.lookup.3.0 c.in-Some.ensures.lookup.1)

pub part_of-requires-clause-within : goal.part_of-requires-clause-within
part_of-requires-clause-within c =
    let r = c.args.self.now in
    subst (λ fields. c.in-Some.own.now.fields.end ≤ length fields) (sym c.deref-in-Some.ensures.value)
    (fields_within r c.requires c.args.number c.in-Some.own.now
    (at_read r.records.each.items c.deref.result.now c.args.number c.in-Some.own.now c.deref.ensures.value c.in-Some.ensures.lookup.3.0 c.in-Some.ensures.lookup.1))

pub returns-in-Some : goal.returns-in-Some
returns-in-Some c =
    let r = c.args.self.now in
    let own = c.in-Some.own.now in
    subst (λ numbers. ArePicked (placed_of r).elements numbers (fields_at (placed_of r) c.args.number))
    (sym (c.part_of.ensures ∙ ap (between own.fields.start own.fields.end) c.deref-in-Some.ensures.value))
    (fields_picked r c.requires c.args.number own
    (at_read r.records.each.items c.deref.result.now c.args.number own c.deref.ensures.value c.in-Some.ensures.lookup.3.0 c.in-Some.ensures.lookup.1))

pub returns-in-None : goal.returns-in-None
returns-in-None c =
    let r = c.args.self.now in
    none_picked r c.requires c.args.number (past_read r.records.each.items c.deref.result.now c.args.number c.deref.ensures.value c.in-None.ensures.lookup.3)
