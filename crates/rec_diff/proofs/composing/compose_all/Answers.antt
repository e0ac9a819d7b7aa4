use Rattle.std.proofs.Common.{◌≡◌, ◌≤◌, ◌∙◌, ap, length, arith, List}
use Rattle.rec_journal.specs.declared.event.EditStep.{EditStep}
use Rattle.rec_journal.specs.Revisions.{joined_steps, step_lists}
use Rattle.rec_diff.specs.Composing.{all_deeds, patches_of}
use Rattle.rec_diff.specs.proving.Runs.{steps_at, run_deeds, old_count}
use Rattle.rec_diff.proofs.lemmas.composing.StepLemmas.{old_count-steps}
use Rattle.rec_diff.proofs.composing.compose_all.Goals as goal

pub hunks_of-requires : goal.hunks_of-requires
hunks_of-requires c =
    let steps : List EditStep = joined_steps (step_lists c.args.edits.now) in
    let within : old_count (all_deeds (patches_of steps)) ≤ length c.requires.leads.0 = old_count-steps steps c.requires.leads.0 c.requires.leads.1 c.requires.leads.3 in
    let same : run_deeds c.deref-2.result.now ≡ all_deeds (patches_of steps) =
    ap run_deeds c.deref-2.ensures.value ∙ c.in_ok-runs.ensures ∙ ap (λ s. all_deeds (patches_of (steps_at s))) c.deref.ensures.value
    ∙ ap (λ s. all_deeds (patches_of s)) c.in_ok-steps.ensures in
    omega (arith, ap old_count same)
