use Rattle.std.proofs.Common.{◌∙◌, ◌+◌, ◌∷◌, ap, drop, sym}
use Rattle.std.proofs.lemmas.List.{drop_more}
use Rattle.rec_tools.proofs.lemmas.outcomes.LaterLemmas.{first_leads, rest_in_a_row}
use Rattle.rec_tools.proofs.obstacles.deeds.deeds_of.Goals as goal

pub deed_of-requires : goal.deed_of-requires
deed_of-requires c =
    let edits = c.args.edits.now in
    let i = c.loop-edit.edit-index in
    let edit = c.edit-item.result in
    first_leads (drop i edits) c.loop-edit.invariant edit (drop (i + 1) edits) (drop_more edits i edit c.loop-edit-test.true ∙ ap (λ e. e ∷ drop (i + 1) edits) (sym c.edit-item.is))

pub loop-edit-preserved : goal.loop-edit-preserved
loop-edit-preserved c =
    let edits = c.args.edits.now in
    let i = c.loop-edit.edit-index in
    let edit = c.edit-item.result in
    rest_in_a_row (drop i edits) c.loop-edit.invariant edit (drop (i + 1) edits) (drop_more edits i edit c.loop-edit-test.true ∙ ap (λ e. e ∷ drop (i + 1) edits) (sym c.edit-item.is))
