use Rattle.std.proofs.Common.{◌≡◌, ◌∙◌, List, IfOk, subst}
use Rattle.rec_journal.specs.declared.patch.Hunk.{Hunk}
use Rattle.rec_journal.specs.Revisions.{single_step}
use Rattle.rec_diff.proofs.lemmas.comparing.StepLemmas.{hunks_fit}
use Rattle.rec_diff.proofs.comparing.step_by_lines.Goals as goal

pub unreachable-requires : goal.unreachable-requires
unreachable-requires c = c.in_default.ensures (hunks_fit c.args.old.now c.args.new.now c.in_ok-hunks.hunks.items c.in_ok-hunks.ensures)

pub returns : goal.returns
returns c = subst (λ (hunks : List Hunk). IfOk c.single.result (λ steps. steps ≡ single_step c.args.tool hunks)) (c.in-Some.ensures.1 ∙ c.in_ok-hunks.ensures) c.single.ensures
