use Rattle.std.proofs.Common.{[], ◌∷◌}
use Rattle.rec_select.proofs.lemmas.printing.PutsLemmas.{Prints-put, Prints-append}
use Rattle.rec_select.proofs.block.write_value_line.Goals as goal

pub returns : goal.returns
returns g c =
    let put = c.put_all.ensures in
    Prints-append c.in_ok-write_value.ensures _ (10 ∷ []) c.put_all.result
    (Prints-put _ _ _ _ (10 ∷ []) c.put_all.result put.all put.prefix put.kept put.counted put.failed put.refusals)
