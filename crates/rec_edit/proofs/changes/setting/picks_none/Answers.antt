use Rattle.std.proofs.Common.{◌∙◌, ◌||◌, ap, sym, leb, ltb}
use Rattle.std.proofs.lemmas.Bool.{or_left, le-leb, lt-leb}
use Rattle.rec_text.specs.Places.{pieces_of}
use Rattle.rec_edit.proofs.lemmas.layouts.PickLemmas.{item_picks-all, item_picks-some}
use Rattle.rec_edit.proofs.changes.setting.picks_none.Goals as goal

pub returns-in-None : goal.returns-in-None
returns-in-None c =
    item_picks-all (pieces_of c.args.own.now) c.args.item.now _ c.count_of-count.result c.as_slice.ensures c.count_of-count.ensures.count c.in-None.is

pub returns-then-count-span : goal.returns-then-count-span
returns-then-count-span c =
    let few = le-leb c.count_of-count.result c.in-Some.span.first c.if-count-span.true in
    few ∙ sym (or_left (leb c.count_of-count.result c.in-Some.span.first) (ltb c.in-Some.span.last c.in-Some.span.first) few)
    ∙ item_picks-some (pieces_of c.args.own.now) c.args.item.now _ c.count_of-count.result c.as_slice.ensures c.count_of-count.ensures.count c.in-Some.span c.in-Some.is

pub returns-else-count-span : goal.returns-else-count-span
returns-else-count-span c =
    ap (λ b. b || ltb c.in-Some.span.last c.in-Some.span.first) (sym (lt-leb c.count_of-count.result c.in-Some.span.first c.if-count-span.false))
    ∙ item_picks-some (pieces_of c.args.own.now) c.args.item.now _ c.count_of-count.result c.as_slice.ensures c.count_of-count.ensures.count c.in-Some.span c.in-Some.is
