use Rattle.std.proofs.Common.{◌∙◌, arith}
use Rattle.rec_diff.proofs.lemmas.ContextLemmas.{first_between}
use Rattle.rec_diff.proofs.passages.end_after.Goals as goal

pub overflow_add-result : goal.overflow_add-result
overflow_add-result c =
    omega (
      arith,
      c.requires.order_old,
      c.requires.fits_old,
      first_between c.args.context c.args.from.old c.args.to.old c.args.texts.before.now c.kept.result.now c.first_lines-bytes.result c.requires.fits_old c.kept.ensures
          c.first_lines-bytes.ensures,
    )

pub overflow_add-result-2 : goal.overflow_add-result-2
overflow_add-result-2 c =
    omega (
      arith,
      c.requires.order_new,
      c.requires.fits_new,
      first_between c.args.context c.args.from.new c.args.to.new c.args.texts.after.now c.kept.result.now c.first_lines-bytes.result c.requires.fits_new
          (c.kept.ensures ∙ c.requires.same) c.first_lines-bytes.ensures,
    )
