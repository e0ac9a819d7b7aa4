use Rattle.std.proofs.Common.{◌∙◌, length, sym}
use Rattle.std.proofs.lemmas.Bool.{eqb-true}
use Rattle.rec_diff.proofs.lemmas.reverting.KeepingLemmas.{all_are_numbered, eqb_same, numbered_all}
use Rattle.rec_diff.proofs.reverting.keeping.sides.are_numbered.Goals as goal

pub returns-then-elements-wanted : goal.returns-then-elements-wanted
returns-then-elements-wanted c =
    let numbers = c.args.numbers.now in
    let es = c.args.elements.now in
    let ns = c.args.wanted.now in
    (λ e. numbered_all numbers es ns c.if-elements-wanted.true (sym c.have_numbers.ensures ∙ e), λ all. c.have_numbers.ensures ∙ (all_are_numbered numbers es ns all).1)

pub returns-else-elements-wanted : goal.returns-else-elements-wanted
returns-else-elements-wanted c =
    let es = c.args.elements.now in
    let ns = c.args.wanted.now in
    (λ e. absurd (c.if-elements-wanted.false (eqb-true (length es) (length ns) e)), λ all. eqb_same (length es) (length ns) (all_are_numbered c.args.numbers.now es ns all).0)
