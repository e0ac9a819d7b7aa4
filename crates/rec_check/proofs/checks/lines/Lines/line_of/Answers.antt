use Rattle.std.proofs.Common.{◌∙◌, ap, sym}
use Rattle.rec_text.specs.Places.{pieces_of}
use Rattle.rec_check.proofs.lemmas.checks.LineLemmas.{line_from, place, place_inside, place_rises}
use Rattle.rec_check.proofs.checks.lines.Lines.line_of.Goals as goal

pub newlines-requires : goal.newlines-requires
newlines-requires c =
    let own = c.args.self.now in
    let from = c.place_of-from.ensures ∙ ap (λ pieces. place pieces own.passed) (sym own.same) in
    let to = c.place_of-to.ensures ∙ ap (λ pieces. place pieces c.args.index) (sym own.same) in
    record {
      ordered = place_rises (pieces_of own.elements.now) own.text.now own.passed c.args.index _ _ own.whole c.requires.forward from to;
      within = place_inside (pieces_of own.elements.now) own.text.now own.passed c.args.index _ _ own.whole c.requires.forward from to;
    }

pub invariant_of-self : goal.invariant_of-self
invariant_of-self c =
    let own = c.args.self.now in
    let from = c.place_of-from.ensures ∙ ap (λ pieces. place pieces own.passed) (sym own.same) in
    let to = c.place_of-to.ensures ∙ ap (λ pieces. place pieces c.args.index) (sym own.same) in
    record {
      same = own.same;
      whole = own.whole;
      counted = line_from (pieces_of own.elements.now) own.text.now own.passed c.args.index _ _ own.whole c.requires.forward from to own.line c.newlines.result own.counted c.newlines.ensures.count;
    }
