use Rattle.std.proofs.Common.{ap}
use Rattle.rec_check.specs.Stored.{described}
use Rattle.rec_edit.specs.Insertions.{fields_at}
use Rattle.rec_edit.specs.proving.Filling.{filled_of}
use Rattle.rec_text.proofs.lemmas.ErrorLemmas.{kept_error}
use Rattle.rec_edit.proofs.lemmas.automatic.AutoFillLemmas.{TakesAll-filled}
use Rattle.rec_edit.proofs.lemmas.automatic.FillLemmas.{auto_fill-refused, auto_fill-made}
use Rattle.rec_edit.proofs.outcome.auto_fill.Goals as goal

pub returns-in_err-filled : goal.returns-in_err-filled
returns-in_err-filled c = λ force.
    rw (kept_error c.from_residual.ensures.1) (auto_fill-refused c.args.file.now.pieces (described c.args.file.now.schema) force c.in_err-filled.field-0.0 c.in_err-filled.ensures.refused)

pub carried_out_on_all-requires : goal.carried_out_on_all-requires
carried_out_on_all-requires c = TakesAll-filled (fields_at (filled_of c.deref.result.now))

pub returns : goal.returns
returns c = λ force.
    auto_fill-made c.args.file.now.pieces (described c.args.file.now.schema) force (filled_of c.in_ok-filled.filled.items) (filled_of c.deref.result.now)
    c.in_ok-carried_out_on_all.field-0 c.in_ok-filled.ensures.filled (ap filled_of c.deref.ensures.value) c.in_ok-carried_out_on_all.ensures
