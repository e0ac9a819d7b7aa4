use Rattle.std.proofs.Common.{[], ◌∷◌}
use Rattle.rec_select.proofs.lemmas.printing.PutsLemmas.{Prints-put, Prints-append}
use Rattle.rec_select.proofs.lemmas.printing.BlockLemmas.{closed-open}
use Rattle.rec_select.proofs.block.write_closed.Goals as goal

pub returns-clause-printed : goal.returns-clause-printed
returns-clause-printed g c =
    let first = c.in_ok-put_all.ensures in
    let put = c.put_all-2.ensures in
    rw (closed-open c.args.text.now c.if-ends_newline.ensures)
    (Prints-append (record { whole = first.all; sound = first.kept }) _ (10 ∷ []) c.put_all-2.result
    (Prints-put _ _ _ _ (10 ∷ []) c.put_all-2.result put.all put.prefix put.kept put.counted put.failed put.refusals))
