use Rattle.std.proofs.Common.{◌∙◌, sym}
use Rattle.rec_check.specs.proving.Names.{allows}
use Rattle.rec_check.proofs.lemmas.checks.NameLemmas.{no_element, others_passed, others_taken}
use Rattle.rec_check.proofs.checks.allowed.Allowed.others.Goals as goal
use Rattle.rec_check.proofs.checks.allowed.Allowed.others.Goals.{then-refuses+in_ok-add, else-refuses}

pub loop-field-preserved : goal.loop-field-preserved
loop-field-preserved c = elim c.if-refuses.branch [
  | then-refuses+in_ok-add w ↦
      others_taken (allows c.args.self.now) c.args.fields.now c.loop-field.field-index no_element c.loop-field.names c.loop-field-test.true c.loop-field.invariant
      w.name.result.now c.if-refuses.names (sym c.refuses.ensures ∙ w.if-refuses.true) w.name.ensures (w.names-is ∙ w.in_ok-add.ensures)
  | else-refuses w ↦
      w.names-is
      ∙ others_passed (allows c.args.self.now) c.args.fields.now c.loop-field.field-index no_element c.loop-field.names c.loop-field-test.true c.loop-field.invariant (sym c.refuses.ensures
      ∙ w.if-refuses.false)
]
