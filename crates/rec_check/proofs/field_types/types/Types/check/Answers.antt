use Rattle.std.proofs.Common.{◌+◌, ◌∙◌, get_or, sym, ap, arith}
use Rattle.rec_text.specs.Places.{piece_of, pieces_of}
use Rattle.rec_check.specs.proving.Tests.{type_in}
use Rattle.rec_check.specs.Violations.{line_at}
use Rattle.rec_check.proofs.lemmas.field_types.FittingLemmas.{misfits-same, misfit_passed, misfit_added}
use Rattle.rec_check.proofs.lemmas.checks.NameLemmas.{no_element}
use Rattle.rec_check.proofs.field_types.types.Types.check.Goals as goal

pub loop-i-preserved-then-not-branch : goal.loop-i-preserved-then-not-branch
loop-i-preserved-then-not-branch c = record {
  found = misfit_passed (pieces_of c.args.lines.now.elements.now) (type_in c.args.self.now) c.args.start c.args.fields.now c.loop-i.i no_element c.args.found.now.items c.loop-i.found.items
      c.loop-i-test.true c.loop-i.invariant.found
      (sym (misfits-same (type_in c.args.self.now) (type_in c.loop-i.self) (piece_of (get_or c.args.fields.now c.loop-i.i no_element)) c.loop-i.invariant.same) ∙ sym c.in_ok-is_misfit.ensures.misfit
      ∙ c.if-not-branch.true);
  same = λ name. c.is_misfit.ensures.same name ∙ c.loop-i.invariant.same name;
  passed = omega (arith, c.loop-i.invariant.passed);
  elements = c.loop-i.invariant.elements;
}

pub loop-i-preserved : goal.loop-i-preserved
loop-i-preserved c = record {
  found = misfit_added (pieces_of c.args.lines.now.elements.now) (type_in c.args.self.now) c.args.start c.args.fields.now c.loop-i.i no_element c.args.found.now.items c.loop-i.found.items
      c.loop-i-test.true c.loop-i.invariant.found
      c.line_of-line.result c.name.result.now c.add_violation.new.found.items
      (sym (misfits-same (type_in c.args.self.now) (type_in c.loop-i.self) (piece_of (get_or c.args.fields.now c.loop-i.i no_element)) c.loop-i.invariant.same) ∙ sym c.in_ok-is_misfit.ensures.misfit
      ∙ c.if-not-branch.false)
      (c.line_of-line.ensures.line ∙ ap (λ l. line_at (pieces_of l) (c.args.start + c.loop-i.i)) c.loop-i.invariant.elements)
      c.name.ensures c.in_ok-add_violation.ensures.added;
  same = λ name. c.is_misfit.ensures.same name ∙ c.loop-i.invariant.same name;
  passed = omega (arith, c.line_of-line.ensures.passed);
  elements = c.line_of-line.ensures.same ∙ c.loop-i.invariant.elements;
}
