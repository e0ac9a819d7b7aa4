use Rattle.std.proofs.Common.{◌∙◌, ◌++◌, ap}
use Rattle.rec_select.proofs.lemmas.printing.PutsLemmas.{Prints-as, Prints-put}
use Rattle.rec_diff.specs.Diff.{names}
use Rattle.rec_diff.proofs.printing.write_names.Goals as goal

pub returns : goal.returns
returns g c =
    let put = c.put_all.ensures in
    let head = c.deref.ensures.value ∙ c.in_ok-put_names.ensures ∙ ap (λ items. items ++ names c.args.name.now) c.new-head.ensures.items in
    Prints-as _ _ _ _ head c.put_all.result
    (Prints-put _ _ _ _ c.deref.result.now c.put_all.result put.all put.prefix put.kept put.counted put.failed put.refusals)
