use Rattle.std.proofs.Common.{refl}
use Rattle.rec_text.proofs.lemmas.ErrorLemmas.{kept_error}
use Rattle.rec_tools.proofs.lemmas.printing.PutsLemmas.{PutsPrintout-err_shown, refused_within, printed_all}
use Rattle.rec_tools.proofs.lemmas.printing.InformLemmas.{info-no_text, info-printed}
use Rattle.rec_tools.proofs.printing.inform.Goals as goal

pub returns-in_err-read-clause-written : goal.returns-in_err-read-clause-written
returns-in_err-read-clause-written g c =
    rw (kept_error c.from_residual.ensures.1) (info-no_text c.args.file.now c.args.record_type.now c.args.form _ _ c.in_err-read.ensures.refused)

pub returns-in_err-write_info-clause-written : goal.returns-in_err-write_info-clause-written
returns-in_err-write_info-clause-written g c =
    rw (kept_error c.from_residual-in_err-write_info.ensures.1) (refused_within c.in_err-write_info.ensures.written (PutsPrintout-err_shown (Unit {0}) _ _ _ _ _
    (info-printed c.args.file.now c.args.record_type.now c.args.form _ c.in_ok-read.ensures.found _ c.slice_of.ensures)))

pub returns-clause-written : goal.returns-clause-written
returns-clause-written g c =
    printed_all c.in_ok-write_info.ensures.written (λ printed. (
      printed.0,
      (info-printed c.args.file.now c.args.record_type.now c.args.form _ c.in_ok-read.ensures.found _ c.slice_of.ensures _ printed.1, refl),
      printed.2,
    ))
