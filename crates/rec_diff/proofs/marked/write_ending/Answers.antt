use Rattle.std.proofs.Common.{◌∙◌, [], sym}
use Rattle.std.specs.Prelude.{codes}
use Rattle.std.proofs.lemmas.Bool.{cond-false}
use Rattle.rec_select.proofs.lemmas.printing.PutsLemmas.{Prints-as, Prints-put}
use Rattle.rec_diff.specs.Lines.{at_line}
use Rattle.rec_diff.proofs.marked.write_ending.Goals as goal

pub returns-clause-printed : goal.returns-clause-printed
returns-clause-printed g c =
    let put = c.put_all.ensures in
    let end = codes "\n\\ No newline at end of file\n" in
    Prints-as _ _ _ _ (sym (cond-false (at_line c.args.text.now) [] end (sym c.at_line.ensures ∙ c.if-at_line.false))) c.put_all.result
    (Prints-put _ _ _ _ end c.put_all.result put.all put.prefix put.kept put.counted put.failed put.refusals)
