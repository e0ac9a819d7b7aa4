use Rattle.std.proofs.Common.{◌∙◌, ◌∷◌, ◌^◌, ◌<◌, ℕ, List, ap, ap₂, length, subst}
use Rattle.rec_journal.specs.EditTexts.{WithTexts}
use Rattle.rec_journal.specs.Revisions.{step_lists}
use Rattle.rec_tools.proofs.lemmas.outcomes.LaterLemmas.{row_of}
use Rattle.rec_tools.proofs.obstacles.place_of.Goals as goal

-- the edit's steps, and then those of the later ones
pub deeds_of-requires : goal.deeds_of-requires
deeds_of-requires c =
    let made = c.args.standing.now.made in
    let own = c.steps.ensures ∙ ap (λ (m : WithTexts). m.edit.steps) c.texts-texts.ensures in
    let later = ap step_lists c.deref.ensures.value ∙ c.in_ok-later.ensures in
    let all = ap step_lists c.deref-2.ensures.value ∙ c.in_ok-all.ensures ∙ ap₂ (λ one others. one ∷ others) own later in
    row_of c.deref-2.result.now made.edit.steps c.args.standing.now.later made.before made.after c.args.here.now all
    (subst (λ (t : List ℕ). length t < 2 ^ 64) (c.before-before.ensures ∙ ap (λ (m : WithTexts). m.before) c.texts-texts.ensures) c.before-before.type_inv.0)
    (subst (λ (t : List ℕ). length t < 2 ^ 64) (c.after-after.ensures ∙ ap (λ (m : WithTexts). m.after) c.texts-texts.ensures) c.after-after.type_inv.0)
    c.requires.leads c.requires.later
