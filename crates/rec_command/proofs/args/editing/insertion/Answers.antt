use Rattle.clap.specs.Words.{found_of, rows_of}
use Rattle.rec_command.specs.declared.tools.Tool.TheVariants.{RecIns}
use Rattle.rec_command.specs.Words.{IsPick, AsksEdit}
use Rattle.rec_command.proofs.OrderLemmas.{insertion-picks}
use Rattle.rec_command.proofs.RefusalLemmas.{refuses-passed}
use Rattle.rec_command.proofs.args.editing.insertion.Goals as goal

pub returns-in_err-kind : goal.returns-in_err-kind
returns-in_err-kind c =
    let rows = rows_of (found_of c.args.options.now) in
    refuses-passed (IsPick rows) (AsksEdit RecIns rows) _ c.from_residual.result c.from_residual.ensures.1
    c.in_err-kind.ensures (insertion-picks rows)
