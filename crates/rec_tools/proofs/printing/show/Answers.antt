use Rattle.rec_text.proofs.lemmas.ErrorLemmas.{kept_error}
use Rattle.rec_tools.proofs.lemmas.printing.PutsLemmas.{PutsPrintout-weaker, IsTextWith-weaker, printed_weaker}
use Rattle.rec_tools.proofs.lemmas.printing.ShowLemmas.{show-no_text, show-not_asked, show-printed}
use Rattle.rec_tools.proofs.printing.show.Goals as goal

pub returns-in_err-read-clause-written : goal.returns-in_err-read-clause-written
returns-in_err-read-clause-written g c =
    rw (kept_error c.from_residual.ensures.1) (show-no_text c.args.file.now c.args.pick.now c.args.form.now c.args.collapse _ _ c.in_err-read.ensures.refused)

pub returns-in_err-wanted-clause-written : goal.returns-in_err-wanted-clause-written
returns-in_err-wanted-clause-written g c =
    rw (kept_error c.from_residual-in_err-wanted.ensures.1)
    (show-not_asked c.args.file.now c.args.pick.now c.args.form.now c.args.collapse _ c.in_ok-read.ensures.found _ _ c.in_err-wanted.ensures.refused)

pub returns-clause-written : goal.returns-clause-written
returns-clause-written g c =
    let found = c.in_ok-wanted.ensures.found in
    printed_weaker c.print_wanted.ensures.written
    (PutsPrintout-weaker _ _ _ _ c.print_wanted.result
    (IsTextWith-weaker _ _ _ (show-printed c.args.file.now c.args.pick.now c.args.form.now c.args.collapse _ c.in_ok-read.ensures.found _ _ _ c.in_ok-wanted.ensures.record_type found.0 found.1)))
