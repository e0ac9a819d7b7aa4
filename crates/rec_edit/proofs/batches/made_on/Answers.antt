use Rattle.rec_check.specs.DescribedTexts.{described_text}
use Rattle.rec_edit.specs.Task.{task_of}
use Rattle.rec_text.proofs.lemmas.ErrorLemmas.{kept_error}
use Rattle.rec_edit.proofs.lemmas.outcomes.BatchLemmas.{undescribed_edit, edit_of_described}
use Rattle.rec_edit.proofs.batches.made_on.Goals as goal

pub returns-in_err-file : goal.returns-in_err-file
returns-in_err-file c =
    rw (kept_error c.from_residual.ensures.1) (undescribed_edit c.args.force (task_of c.args.edit.now) c.args.text.now c.in_err-file.field-0.0 c.in_err-file.ensures.refused)

pub returns : goal.returns
returns c = edit_of_described c.args.force (task_of c.args.edit.now) c.args.text.now (described_text c.in_ok-file.file) c.made.result c.in_ok-file.ensures.found c.made.ensures
