use Rattle.std.proofs.Common.{[], ◌∷◌}
use Rattle.rec_select.proofs.lemmas.printing.PutsLemmas.{Prints-put, Prints-append, Prints-stopped, HasTaken-append, HasStopped-within}
use Rattle.rec_select.proofs.lemmas.printing.BlockLemmas.{row_parts}
use Rattle.rec_select.proofs.block.write_row.Goals as goal

pub returns-in_err-write_elements : goal.returns-in_err-write_elements
returns-in_err-write_elements g c =
    let parts = row_parts c.args.elements.now _ _ c.in-Some.ensures.cases.0 in
    let stopped = HasStopped-within _ (10 ∷ []) parts c.in_ok-write_value.ensures c.in_err-write_elements.ensures in
    let end = c.from_residual-in_err-write_elements in
    Prints-stopped end.result end.ensures.1 stopped

pub returns : goal.returns
returns g c =
    let parts = row_parts c.args.elements.now _ _ c.in-Some.ensures.cases.0 in
    let put = c.put_all.ensures in
    rw parts
    (Prints-append (HasTaken-append c.in_ok-write_value.ensures c.in_ok-write_elements.ensures) _ (10 ∷ []) c.put_all.result
    (Prints-put _ _ _ _ (10 ∷ []) c.put_all.result put.all put.prefix put.kept put.counted put.failed put.refusals))
