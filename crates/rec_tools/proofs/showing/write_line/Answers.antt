use Rattle.std.proofs.Common.{ap, sym}
use Rattle.rec_select.proofs.lemmas.printing.PutsLemmas.{HasTaken-as, HasStopped-as, HasStopped-prefix, Prints-append, Prints-as, Prints-stopped}
use Rattle.rec_tools.specs.proving.Listed.{line_of}
use Rattle.rec_tools.proofs.showing.write_line.Goals as goal

pub returns-in_err-write_step-clause-printed : goal.returns-in_err-write_step-clause-printed
returns-in_err-write_step-clause-printed g c = λ text (diff, is, e).
    Prints-stopped c.from_residual.result c.from_residual.ensures.1 (HasStopped-as (sym e) (HasStopped-prefix diff (HasStopped-as (ap line_of c.step.ensures) c.in_err-write_step.ensures.printed)))

pub returns-clause-printed : goal.returns-clause-printed
returns-clause-printed g c = λ text (diff, is, e).
    Prints-as _ _ _ _ (sym e) _ (Prints-append (HasTaken-as (ap line_of c.step.ensures) c.in_ok-write_step.ensures.printed) _ diff _ (c.write_edit.ensures.printed diff is))
