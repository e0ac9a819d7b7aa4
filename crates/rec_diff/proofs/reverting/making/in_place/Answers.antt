use Rattle.rec_diff.specs.proving.Reading.{placed_of}
use Rattle.rec_diff.proofs.lemmas.reverting.AmongLemmas.{are_in_place, has_fields, lacks_fields, not_in_place}
use Rattle.rec_diff.proofs.reverting.making.in_place.Goals as goal

pub returns-in_default : goal.returns-in_default
returns-in_default c =
    let t = c.args.turn in
    not_in_place (placed_of c.args.one.now) (placed_of c.args.other.now) t
    (λ r k is.
    lacks_fields c.args.one.now c.requires.own c.args.old t.start.old t.end.old c.requires.old_order c.requires.old_passed c.requires.old_next c.among_from.result c.among_from.ensures
    c.in_default.not-Fields is.old_lines r is.old_fields)

pub returns-in_default-among_from : goal.returns-in_default-among_from
returns-in_default-among_from c =
    let t = c.args.turn in
    not_in_place (placed_of c.args.one.now) (placed_of c.args.other.now) t
    (λ r k is.
    lacks_fields c.args.other.now c.requires.other c.args.new t.start.new t.end.new c.requires.new_order c.requires.new_passed c.requires.new_next c.among_from-2.result c.among_from-2.ensures
    c.in_default-among_from.not-Fields is.new_lines k is.new_fields)

pub returns : goal.returns
returns c =
    let t = c.args.turn in
    are_in_place (placed_of c.args.one.now) (placed_of c.args.other.now) t c.in-Fields.record c.in-Fields-among_from.another
    (has_fields c.args.one.now c.requires.own c.args.old t.start.old t.end.old c.requires.old_order c.requires.old_passed c.requires.old_next c.among_from.result c.in-Fields.record c.in-Fields.is
    c.among_from.ensures)
    (has_fields c.args.other.now c.requires.other c.args.new t.start.new t.end.new c.requires.new_order c.requires.new_passed c.requires.new_next c.among_from-2.result c.in-Fields-among_from.another
    c.in-Fields-among_from.is c.among_from-2.ensures)
