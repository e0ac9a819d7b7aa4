use Rattle.std.proofs.Common.{refl, sym, ap, ◌∙◌, ◌-◌, ◌+◌, ◌≡◌, arith}
use Rattle.rec_text.specs.Lines.{after_lines}
use Rattle.rec_text.proofs.lemmas.elements.FromLineLemmas.{after_lines-cut, after_lines-end}
use Rattle.rec_text.proofs.reading.lines.from_line.Goals as goal

pub loop-init : goal.loop-init
loop-init c = refl

pub loop-preserved : goal.loop-preserved
loop-preserved c = sym (after_lines-cut (c.args.number - c.loop.counter) (c.args.number - (c.loop.counter + 1)) _ _ _ (omega arith) c.in-Some.ensures) ∙ c.loop.invariant

pub returns-in-None : goal.returns-in-None
returns-in-None c = sym (after_lines-end (c.args.number - c.loop.counter) (c.args.number - (c.loop.counter + 1)) _ (omega arith) c.in-None.ensures) ∙ c.loop.invariant

pub returns : goal.returns
returns c = let none : c.args.number - c.loop.counter ≡ 0 = omega arith in sym (ap (λ n. after_lines n c.loop.rest.now) none) ∙ c.loop.invariant
