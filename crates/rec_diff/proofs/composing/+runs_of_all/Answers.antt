use Rattle.std.proofs.Common.{◌≡◌, ◌∙◌, List, IfOk, subst, ap, arith}
use Rattle.rec_diff.specs.Composing.{Deed, deeds_of, then_others, all_deeds, patches_of}
use Rattle.rec_diff.specs.proving.Runs.{steps_at, run_deeds}
use Rattle.rec_diff.proofs.lemmas.composing.StepLemmas.{deeds_of-step, deeds_of-halves}
use Rattle.rec_diff.proofs.composing.+runs_of_all.Goals as goal

pub returns-in-len1 : goal.returns-in-len1
returns-in-len1 t c =
    subst (λ (deeds : List Deed). IfOk c.runs_of.result (λ runs. run_deeds runs.items ≡ deeds))
    (ap deeds_of c.hunks.ensures.hunks ∙ deeds_of-step c.args.steps.now c.step-item.result (omega (arith, c.in-len1.len_at_least)) (omega (arith, c.in-len1.len_below)) c.step-item.is)
    c.runs_of.ensures

pub returns-in_ok-other-in_default : goal.returns-in_ok-other-in_default
returns-in_ok-other-in_default t c =
    subst (λ (deeds : List Deed). IfOk c.merge.result (λ runs. run_deeds runs.items ≡ deeds))
    (ap (λ d. then_others (run_deeds d) (run_deeds c.deref-in_default.result.now)) c.deref.ensures.value
    ∙ ap (λ d. then_others d (run_deeds c.deref-in_default.result.now)) c.in_ok-one-in_default.ensures
    ∙ ap (then_others (all_deeds (patches_of (steps_at c.split_at.result.0.now)))) (ap run_deeds c.deref-in_default.ensures.value ∙ c.in_ok-other-in_default.ensures)
    ∙ deeds_of-halves c.args.steps.now c.split_at.result.0.now c.split_at.result.1.now c.split_at.ensures.by_index.0)
    c.merge.ensures
