use Rattle.std.proofs.Common.{◌++◌, ◌∙◌, sym, ap}
use Rattle.rec_text.specs.Bytes.{is_nil}
use Rattle.rec_select.proofs.lemmas.printing.PutsLemmas.{HasStopped-as, HasStopped-append, Prints-stopped}
use Rattle.rec_select.proofs.lemmas.printing.PrintingLemmas.{led_by-full}
use Rattle.rec_select.proofs.records.write_block.Goals as goal

pub returns-in_err-write-clause-printed : goal.returns-in_err-write-clause-printed
returns-in_err-write-clause-printed g c =
    let before = c.args.before.now in
    let text = c.in_ok-block.ensures.text in
    let first = c.in_ok-put_all.ensures in
    let end = c.from_residual-in_err-write in
    let same = ap (λ t. before ++ t) text ∙ sym (led_by-full before _ (sym (c.if-is_empty.ensures ∙ ap is_nil text))) in
    Prints-stopped end.result end.ensures.1 (HasStopped-as same (HasStopped-append (record { whole = first.all; sound = first.kept }) c.in_err-write.ensures))
