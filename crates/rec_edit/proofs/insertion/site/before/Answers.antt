use Rattle.std.proofs.Common.{ap, arith, ◌∷◌, [], ◌++◌, ℕ, sym}
use Rattle.rec_edit.specs.Rules.{empty_line}
use Rattle.rec_edit.specs.Insertions.{Insertion}
use Rattle.rec_edit.proofs.lemmas.insertions.SiteLemmas.{full_before, full_before_fits}
use Rattle.rec_edit.proofs.insertion.site.before.Goals as goal

pub overflow_sub-result : goal.overflow_sub-result
overflow_sub-result c = omega (arith, full_before_fits c.args.elements.now c.args.range.now.start c.full_count_back.result c.full_count_back.ensures)

pub returns : goal.returns
returns c = λ fields.
    let at : ℕ → Insertion = λ n. record { place = n; new = fields ++ empty_line ∷ [] } in
    ap at (sym (full_before c.args.elements.now c.args.range.now.start c.full_count_back.result c.full_count_back.ensures))
