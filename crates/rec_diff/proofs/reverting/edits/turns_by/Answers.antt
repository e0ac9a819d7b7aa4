use Rattle.std.proofs.Common.{◌≡◌, ◌∙◌, List, [], ap, map, subst, sym}
use Rattle.rec_journal.specs.declared.event.EditStep.{EditStep}
use Rattle.rec_journal.specs.Patch.{Splices}
use Rattle.rec_journal.specs.Revisions.{joined_steps, step_lists}
use Rattle.rec_diff.specs.Changes.{cut_from}
use Rattle.rec_diff.specs.WholeLines.{whole_lines}
use Rattle.rec_diff.specs.proving.Turns.{AreIn, site_of, sites}
use Rattle.rec_diff.specs.proving.Weaving.{AreTurnsBy, patch_by}
use Rattle.rec_diff.proofs.lemmas.composing.LeadingLemmas.{composes_splices}
use Rattle.rec_diff.proofs.lemmas.reverting.FoundLemmas.{if_ok_both}
use Rattle.rec_diff.proofs.reverting.edits.turns_by.Goals as goal

pub turns_of-requires : goal.turns_of-requires
turns_of-requires c =
    let steps : List EditStep = joined_steps (step_lists c.args.edits.now) in
    let before = c.args.texts.before.now in
    let after = c.args.texts.after.now in
    subst (λ hs. Splices hs before after) (sym c.deref.ensures.value)
    (composes_splices steps c.in_ok-hunks.hunks.items before after c.requires c.in_ok-hunks.ensures.composed)

pub returns : goal.returns
returns c =
    let steps : List EditStep = joined_steps (step_lists c.args.edits.now) in
    let before = c.args.texts.before.now in
    let after = c.args.texts.after.now in
    let hunks_are : c.deref.result.now ≡ patch_by steps = c.deref.ensures.value ∙ c.in_ok-hunks.ensures.composed in
    let leads : Splices (patch_by steps) before after =
    subst (λ hs. Splices hs before after) c.in_ok-hunks.ensures.composed
    (composes_splices steps c.in_ok-hunks.hunks.items before after c.requires c.in_ok-hunks.ensures.composed) in
    if_ok_both (λ turns. map (site_of before after) turns.items ≡ sites [] [] (whole_lines (cut_from 0 c.deref.result.now before))) (λ turns. AreIn before after 0 0 turns.items)
    (λ turns. AreTurnsBy steps before after turns.items)
    (λ turns are order. record { leads = leads; are = are ∙ ap (λ hs. sites [] [] (whole_lines (cut_from 0 hs before))) hunks_are; order = order }) c.turns_of.result
    c.turns_of.ensures.places c.turns_of.ensures.order
