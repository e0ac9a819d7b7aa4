use Rattle.std.proofs.Common.{◌∙◌, sym}
use Rattle.rec_command.proofs.RefusalLemmas.{refuses-passed}
use Rattle.rec_command.proofs.WordsLemmas.{journal_of_same}
use Rattle.rec_command.proofs.args.paths.paths_of.Goals as goal

pub returns-clause-file : goal.returns-clause-file
returns-clause-file c = c.in_ok-file.ensures ∙ c.file-file.ensures

pub returns-clause-journal : goal.returns-clause-journal
returns-clause-journal c = journal_of_same c.args.order.now _ _ _ _ _ c.file-file.ensures c.given.ensures c.in_ok-journal.ensures

pub returns-in_err-journal-clause-journal : goal.returns-in_err-journal-clause-journal
returns-in_err-journal-clause-journal c =
    refuses-passed _ _ _ c.from_residual.result c.from_residual.ensures.1 c.in_err-journal.ensures
    (λ paths is. (
      paths.journal,
      journal_of_same c.args.order.now _ _ _ _ _ (sym c.file-file.ensures) (sym c.given.ensures) is,
    ))
