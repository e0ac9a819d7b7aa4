use Rattle.rec_select.proofs.filter.Filter.passes.Goals as goal

pub returns-in-Expr-clause-passes : goal.returns-in-Expr-clause-passes
returns-in-Expr-clause-passes c = rw (c.in-Expr.is, ← c.elements.ensures) c.selects.ensures.selects

pub returns-in-Quick-clause-passes : goal.returns-in-Quick-clause-passes
returns-in-Quick-clause-passes c = rw c.in-Quick.is c.any_has_text.ensures.has

pub returns-in-Where-clause-passes : goal.returns-in-Where-clause-passes
returns-in-Where-clause-passes c = rw c.in-Where.is c.any_has_value.ensures.has
