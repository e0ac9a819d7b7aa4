use Rattle.std.proofs.Common.{[], ◌∷◌}
use Rattle.rec_tools.specs.declared.home.Which.TheVariants.{Journal as TheJournal}
use Rattle.rec_tools.proofs.lemmas.calls.AttemptLemmas.{refused_with, read-stopped, next_read-stopped}
use Rattle.rec_tools.proofs.runner.read_both.Goals as goal

pub returns-in_err-file-clause-calls : goal.returns-in_err-file-clause-calls
returns-in_err-file-clause-calls g c =
    rw (refused_with _ _ c.from_residual.ensures.1) (read-stopped _ _ _ _ (TheJournal ∷ []) _ c.in_err-file.ensures.call c.in_err-file.ensures.refusals)

pub returns-in_err-journal-clause-calls : goal.returns-in_err-journal-clause-calls
returns-in_err-journal-clause-calls g c =
    rw (refused_with _ _ c.from_residual-in_err-journal.ensures.1)
    (next_read-stopped _ _ _ _ _ _ [] _ _ c.in_ok-file.ensures.call c.in_err-journal.ensures.call c.in_err-journal.ensures.refusals)
