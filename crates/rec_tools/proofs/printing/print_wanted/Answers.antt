use Rattle.std.proofs.Common.{refl}
use Rattle.rec_select.specs.Selection.{filter_of}
use Rattle.rec_check.specs.DescribedTexts.{described_text}
use Rattle.rec_text.proofs.lemmas.ErrorLemmas.{kept_error}
use Rattle.rec_tools.proofs.lemmas.printing.PutsLemmas.{PutsPrintout-err_shown, refused_within, printed_all}
use Rattle.rec_tools.proofs.lemmas.printing.ShowLemmas.{show_of-refused, show_of-printed}
use Rattle.rec_tools.proofs.printing.print_wanted.Goals as goal

pub returns-in_err-selected-clause-written : goal.returns-in_err-selected-clause-written
returns-in_err-selected-clause-written g c =
    rw (kept_error c.from_residual.ensures.1)
    (show_of-refused (described_text c.args.file.now) c.args.wanted.now.selection.kind (filter_of c.args.wanted.now.selection.by) c.args.wanted.now.shape c.args.collapse _ _
    c.in_err-selected.ensures.refused)

pub returns-in_err-write_records-clause-written : goal.returns-in_err-write_records-clause-written
returns-in_err-write_records-clause-written g c =
    rw (kept_error c.from_residual-in_err-write_records.ensures.1) (refused_within c.in_err-write_records.ensures.written (PutsPrintout-err_shown (Unit {0}) _ _ _ _ _
    (show_of-printed (described_text c.args.file.now) c.args.wanted.now.selection.kind
    (filter_of c.args.wanted.now.selection.by) c.args.wanted.now.shape c.args.collapse _ _ c.deref.ensures.value c.in_ok-selected.ensures.selected)))

pub returns-clause-written : goal.returns-clause-written
returns-clause-written g c =
    printed_all c.in_ok-write_records.ensures.written (λ printed. (
      printed.0,
      (
        show_of-printed (described_text c.args.file.now) c.args.wanted.now.selection.kind
            (filter_of c.args.wanted.now.selection.by) c.args.wanted.now.shape c.args.collapse _ _ c.deref.ensures.value c.in_ok-selected.ensures.selected _ printed.1,
        refl,
      ),
      printed.2,
    ))
