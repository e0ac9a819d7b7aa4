use Rattle.std.proofs.Common.{refl, sym, ap, ◌∙◌}
use Rattle.rec_text.specs.Elements.{text_of}
use Rattle.rec_check.proofs.checks.lines.Lines.of.Goals as goal

pub invariant_of-result : goal.invariant_of-result
invariant_of-result c = record {
  same = c.elements.ensures.pieces;
  whole = c.text.ensures.text ∙ ap text_of (sym c.elements.ensures.pieces);
  counted = refl;
}
