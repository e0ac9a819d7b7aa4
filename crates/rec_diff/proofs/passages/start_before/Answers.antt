use Rattle.std.proofs.Common.{◌≡◌, ◌∙◌, ap, length, arith}
use Rattle.std.specs.List.{between}
use Rattle.rec_diff.specs.Lines.{last_lines}
use Rattle.rec_diff.proofs.lemmas.ContextLemmas.{last_between}
use Rattle.rec_diff.proofs.passages.start_before.Goals as goal

pub overflow_sub-result : goal.overflow_sub-result
overflow_sub-result c =
    omega (
      arith,
      last_between c.args.context c.args.from.old c.args.to.old c.args.texts.before.now c.kept.result.now c.last_lines-bytes.result c.requires.fits_old c.kept.ensures
          c.last_lines-bytes.ensures,
    )

pub overflow_sub-result-2 : goal.overflow_sub-result-2
overflow_sub-result-2 c =
    omega (
      arith,
      last_between c.args.context c.args.from.new c.args.to.new c.args.texts.after.now c.kept.result.now c.last_lines-bytes.result c.requires.fits_new
          (c.kept.ensures ∙ c.requires.same) c.last_lines-bytes.ensures,
    )

pub returns : goal.returns
returns c =
    let bytes = c.last_lines-bytes.result in
    let count : bytes ≡ length (last_lines c.args.context (between c.args.from.old c.args.to.old c.args.texts.before.now)) =
    c.last_lines-bytes.ensures ∙ ap (λ t. length (last_lines c.args.context t)) c.kept.ensures in
    let old =
    last_between c.args.context c.args.from.old c.args.to.old c.args.texts.before.now c.kept.result.now bytes c.requires.fits_old c.kept.ensures c.last_lines-bytes.ensures in
    let new =
    last_between c.args.context c.args.from.new c.args.to.new c.args.texts.after.now c.kept.result.now bytes c.requires.fits_new (c.kept.ensures ∙ c.requires.same)
    c.last_lines-bytes.ensures in
    record { old = omega (arith, count, old); new = omega (arith, count, new) }
