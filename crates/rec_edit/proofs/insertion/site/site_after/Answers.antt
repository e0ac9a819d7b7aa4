use Rattle.std.proofs.Common.{ap, arith, ◌∷◌, ℕ, sym}
use Rattle.rec_edit.specs.Rules.{empty_line}
use Rattle.rec_edit.specs.Insertions.{Insertion}
use Rattle.rec_edit.proofs.lemmas.insertions.SiteLemmas.{full_after, full_fits}
use Rattle.rec_edit.proofs.insertion.site.site_after.Goals as goal

pub overflow_add-result : goal.overflow_add-result
overflow_add-result c = omega (arith, full_fits c.args.elements.now c.args.range.now.end c.full_count.result c.full_count.ensures c.requires)

pub returns : goal.returns
returns c = λ fields.
    let at : ℕ → Insertion = λ n. record { place = n; new = empty_line ∷ fields } in
    ap at (sym (full_after c.args.elements.now c.args.range.now.end c.full_count.result c.full_count.ensures))
