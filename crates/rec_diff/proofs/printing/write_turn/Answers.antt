use Rattle.std.proofs.Common.{◌++◌, ap₂}
use Rattle.std.specs.Prelude.{codes}
use Rattle.rec_select.proofs.lemmas.printing.PutsLemmas.{Prints-append, Prints-as}
use Rattle.rec_diff.specs.Diff.{marked}
use Rattle.rec_diff.proofs.printing.write_turn.Goals as goal

pub returns-clause-printed : goal.returns-clause-printed
returns-clause-printed g c =
    let both = ap₂ (λ old new. marked (codes "-") old ++ marked (codes "+") new) c.old_of.ensures.part c.new_of.ensures.part in
    Prints-append c.in_ok-write_marked.ensures.printed _ _ c.write_both.result (Prints-as _ _ _ _ both c.write_both.result c.write_both.ensures.printed)
