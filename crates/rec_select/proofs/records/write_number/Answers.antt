use Rattle.std.proofs.Common.{[], ◌∷◌, ◌∙◌}
use Rattle.rec_select.proofs.lemmas.printing.PutsLemmas.{HasTaken-as, Prints-put, Prints-append}
use Rattle.rec_select.proofs.records.write_number.Goals as goal

pub returns-clause-printed : goal.returns-clause-printed
returns-clause-printed g c =
    let first = c.in_ok-put_all.ensures in
    let put = c.put_all-2.ensures in
    let digits = c.as_bytes.ensures.value ∙ c.format.ensures.text in
    Prints-append (HasTaken-as digits (record { whole = first.all; sound = first.kept })) _ (10 ∷ []) c.put_all-2.result
    (Prints-put _ _ _ _ (10 ∷ []) c.put_all-2.result put.all put.prefix put.kept put.counted put.failed put.refusals)
