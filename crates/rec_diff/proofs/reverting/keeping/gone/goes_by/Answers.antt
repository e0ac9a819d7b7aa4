use Rattle.std.proofs.Common.{◌∙◌, sym}
use Rattle.std.proofs.lemmas.Bool.{eqb-true}
use Rattle.rec_diff.proofs.reverting.keeping.gone.goes_by.Goals as goal

pub returns : goal.returns
returns c =
    let t = c.args.turn in (
      λ e. (eqb-true t.start.new t.end.new (sym c.takes_out.ensures ∙ c.if-not-takes_out.false), sym c.is_field.ensures ∙ c.if-not-is_field.false, c.if-element-turn.false, c.ends_by.ensures.0 e),
      λ (gone, field, low, high). c.ends_by.ensures.1 high,
    )
