use Rattle.std.proofs.Common.{◌∙◌, subst, sym}
use Rattle.rec_diff.specs.proving.Reading.{AreNumbers, placed_of}
use Rattle.rec_diff.proofs.lemmas.reverting.SharingLemmas.{makes_first}
use Rattle.rec_diff.proofs.reverting.making.made_by.Goals as goal

pub returns : goal.returns
returns c = λ parts are.
    let one = c.args.one.now in
    let other = c.args.other.now in
    let numbers = c.deref.result.now in
    makes_first one other c.requires.own c.requires.other parts c.args.turns.now are numbers
    (subst (AreNumbers parts (placed_of one) (placed_of other)) (sym c.deref.ensures.value) (c.in_ok-numbers.ensures parts are)) c.note_places.new.made.items
    (c.note_places.ensures.length ∙ c.in_ok-made.ensures.length) (c.note_places.ensures.least numbers c.in_ok-made.ensures.least)
