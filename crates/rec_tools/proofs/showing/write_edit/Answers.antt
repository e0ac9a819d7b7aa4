use Rattle.rec_journal.specs.declared.patch.Direction.TheVariants.{Forward}
use Rattle.rec_diff.specs.Diffs.{IsDiff}
use Rattle.rec_diff.proofs.lemmas.DiffLemmas.{one_diff, no_refused_diff}
use Rattle.rec_tools.proofs.lemmas.printing.LogLemmas.{prints_the}
use Rattle.rec_tools.proofs.showing.write_edit.Goals as goal

pub returns-clause-printed : goal.returns-clause-printed
returns-clause-printed g c =
    let made = c.args.made.now in
    prints_the g.S.Sink.contents g.S.Sink.failure_count _ _ (IsDiff Forward c.args.style.now made.edit.steps made.before made.after)
    (one_diff Forward c.args.style.now made.edit.steps made.before made.after) (no_refused_diff Forward c.args.style.now made.edit.steps made.before made.after)
    _ (rw (c.steps-steps.ensures, c.before-before.ensures, c.after-after.ensures) at c.write_diff.ensures.written)
