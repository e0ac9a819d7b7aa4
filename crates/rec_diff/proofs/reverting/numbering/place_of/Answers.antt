use Rattle.std.proofs.Common.{arith, length, sym, ◌∙◌}
use Rattle.rec_diff.proofs.lemmas.reverting.NumberLemmas.{place_fits, place_is, place_is_none}
use Rattle.rec_diff.proofs.reverting.numbering.place_of.Goals as goal

pub overflow_add-result : goal.overflow_add-result
overflow_add-result c =
    let walk = c.args.walk in
    let element = c.args.element.now in
    let r = c.requires in
    let fits = place_fits c.args.last walk.place walk.turns.now element.at (length element.raw.now) r.in_step r.reached r.within (sym c.is_touched.ensures ∙ c.if-is_touched.false) in
    omega (arith, fits)

pub returns-then-is_touched : goal.returns-then-is_touched
returns-then-is_touched c =
    let walk = c.args.walk in
    let element = c.args.element.now in
    sym (place_is_none walk.place walk.turns.now element.at (length element.raw.now) c.requires.first (sym c.is_touched.ensures ∙ c.if-is_touched.true))

pub returns : goal.returns
returns c =
    let walk = c.args.walk in
    let element = c.args.element.now in
    sym (place_is walk.place walk.turns.now element.at (length element.raw.now) c.requires.first (sym c.is_touched.ensures ∙ c.if-is_touched.false))
