use Rattle.std.proofs.Common.{ℕ, List}
use Rattle.rec_check.specs.Stored.{described}
use Rattle.rec_edit.specs.Outcome.{AreChosen, IsMade}
use Rattle.rec_edit.specs.Rules.{edited}
use Rattle.rec_edit.specs.Task.{wanted_by}
use Rattle.rec_edit.specs.Wording.{AreItemsFor}
use Rattle.rec_text.specs.Steps.{Then}
use Rattle.rec_text.proofs.lemmas.ErrorLemmas.{kept_error}
use Rattle.rec_edit.proofs.lemmas.blocks.SettingLemmas.{TakesAll-edited}
use Rattle.rec_edit.proofs.lemmas.outcomes.EditLemmas.{carried_on, made-carried_out, refused_first, refused_next}
use Rattle.rec_edit.proofs.outcome.set.Goals as goal

pub returns-in_err-list : goal.returns-in_err-list
returns-in_err-list c = λ force.
    let pieces = c.args.file.now.pieces in
    let sets = (described c.args.file.now.schema).sets in
    rw (kept_error c.from_residual.ensures.1)
    (refused_first (AreItemsFor c.args.action.now c.args.list.now) (λ others. Then (AreChosen pieces sets (wanted_by c.args.selection.now)) (IsMade pieces (edited c.args.action.now others)))
    c.in_err-list.field-0.0 c.in_err-list.ensures)

pub returns-in_err-selected : goal.returns-in_err-selected
returns-in_err-selected c = λ force.
    let pieces = c.args.file.now.pieces in
    let sets = (described c.args.file.now.schema).sets in
    rw (kept_error c.from_residual-in_err-selected.ensures.1)
    (refused_next {B = List ℕ} (AreItemsFor c.args.action.now c.args.list.now) (λ others. AreChosen pieces sets (wanted_by c.args.selection.now))
    (λ others. IsMade pieces (edited c.args.action.now others))
    c.in_ok-list.list c.in_err-selected.field-0.0 c.in_ok-list.ensures c.in_err-selected.ensures.refused)

pub carried_out-requires : goal.carried_out-requires
carried_out-requires c = TakesAll-edited c.args.action.now c.in_ok-list.list

pub returns : goal.returns
returns c = λ force.
    let pieces = c.args.file.now.pieces in
    let sets = (described c.args.file.now.schema).sets in
    let wanted = wanted_by c.args.selection.now in
    let action = c.args.action.now in
    let items = c.in_ok-list.list in
    let selected = c.in_ok-selected.selected.items in
    carried_on (AreItemsFor action c.args.list.now) (λ others. Then (AreChosen pieces sets wanted) (IsMade pieces (edited action others))) items _ c.in_ok-list.ensures
    (carried_on (AreChosen pieces sets wanted) (IsMade pieces (edited action items)) selected _ c.in_ok-selected.ensures.selected
    (made-carried_out pieces (edited action items) selected c.deref.result.now c.in_ok-carried_out.field-0 c.deref.ensures.value c.in_ok-carried_out.ensures))
