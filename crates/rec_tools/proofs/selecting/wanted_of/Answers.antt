use Rattle.rec_text.proofs.lemmas.ErrorLemmas.{kept_error}
use Rattle.rec_tools.proofs.lemmas.printing.ShowLemmas.{wanted-no_shape}
use Rattle.rec_tools.proofs.selecting.wanted_of.Goals as goal

pub returns-in_err-shape-clause-refused : goal.returns-in_err-shape-clause-refused
returns-in_err-shape-clause-refused c =
    rw (kept_error c.from_residual-in_err-shape.ensures.1) (wanted-no_shape c.args.pick.now c.args.form.now _ _ c.in_ok-selection.ensures.found c.in_err-shape.ensures.refused)
