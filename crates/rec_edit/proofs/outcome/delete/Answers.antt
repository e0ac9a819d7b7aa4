use Rattle.rec_check.specs.Stored.{described}
use Rattle.rec_edit.specs.Outcome.{AreRemovable, IsMade}
use Rattle.rec_edit.specs.Rules.{deleted}
use Rattle.rec_edit.specs.Task.{wanted_by}
use Rattle.rec_text.proofs.lemmas.ErrorLemmas.{kept_error}
use Rattle.rec_edit.proofs.lemmas.blocks.DeletionLemmas.{TakesAll-deleted}
use Rattle.rec_edit.proofs.lemmas.outcomes.EditLemmas.{carried_on, made-carried_out, refused_first}
use Rattle.rec_edit.proofs.outcome.delete.Goals as goal

pub returns-in_err-selected : goal.returns-in_err-selected
returns-in_err-selected c =
    rw (kept_error c.from_residual.ensures.1)
    (refused_first (AreRemovable c.args.file.now.pieces (described c.args.file.now.schema).sets (wanted_by c.args.selection.now) c.args.force) (IsMade c.args.file.now.pieces deleted)
    c.in_err-selected.field-0.0 c.in_err-selected.ensures.refused)

pub carried_out-requires : goal.carried_out-requires
carried_out-requires c = TakesAll-deleted

pub returns : goal.returns
returns c =
    let pieces = c.args.file.now.pieces in
    let selected = c.in_ok-selected.selected.items in
    carried_on (AreRemovable pieces (described c.args.file.now.schema).sets (wanted_by c.args.selection.now) c.args.force) (IsMade pieces deleted) selected _ c.in_ok-selected.ensures.found
    (made-carried_out pieces deleted selected c.deref.result.now c.in_ok-carried_out.field-0 c.deref.ensures.value c.in_ok-carried_out.ensures)
