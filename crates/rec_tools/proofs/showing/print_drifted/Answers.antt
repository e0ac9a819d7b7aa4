use Rattle.std.proofs.Common.{◌≡◌, Ok, refl}
use Rattle.std.specs.Prelude.{codes}
use Rattle.rec_text.proofs.lemmas.ErrorLemmas.{kept_error}
use Rattle.rec_select.proofs.lemmas.printing.PutsLemmas.{HasStopped-failed}
use Rattle.rec_tools.specs.declared.request.Reply.TheVariants.{Drifted as HasDrifted}
use Rattle.rec_tools.specs.Printouts.{IsTextWith}
use Rattle.rec_tools.proofs.lemmas.printing.ListedLemmas.{printout-cut_short, printout-whole}
use Rattle.rec_tools.proofs.showing.print_drifted.Goals as goal

pub returns-in_err-put_all-clause-printed : goal.returns-in_err-put_all-clause-printed
returns-in_err-put_all-clause-printed g c =
    let put = c.in_err-put_all.ensures in
    rw (kept_error c.from_residual.ensures.1)
    (printout-cut_short (IsTextWith HasDrifted (λ answer. answer ≡ Ok (codes "drifted\n"))) (codes "drifted\n") HasDrifted (refl, refl)
    (HasStopped-failed put.prefix put.counted put.failed put.refusals))

pub returns-clause-printed : goal.returns-clause-printed
returns-clause-printed g c =
    let put = c.in_ok-put_all.ensures in
    printout-whole (IsTextWith HasDrifted (λ answer. answer ≡ Ok (codes "drifted\n"))) (codes "drifted\n") HasDrifted (refl, refl) (record { whole = put.all; sound = put.kept })
