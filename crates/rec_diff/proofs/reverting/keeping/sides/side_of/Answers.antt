use Rattle.std.proofs.Common.{subst, sym}
use Rattle.rec_diff.specs.proving.Reading.{AreNumbers, AreOrigins, placed_of}
use Rattle.rec_diff.proofs.reverting.keeping.sides.side_of.Goals as goal

pub returns : goal.returns
returns c = λ parts are.
    let text = c.args.text.now in
    let left = c.args.left.now in
    let turns = c.args.turns.now in
    let numbered = c.in_ok-in_left.ensures parts are in
    let origins = c.in_ok-of_left.ensures parts are in
    record {
      in_left = numbered;
      of_left = origins;
      to_left = c.in_ok-to_left.ensures.stay parts turns are (subst (AreNumbers parts (placed_of text) (placed_of left)) (sym c.deref.ensures.value) numbered);
      from_text = c.in_ok-from_text.ensures.were parts turns are (subst (AreOrigins parts (placed_of text) (placed_of left)) (sym c.deref-2.ensures.value) origins);
    }
