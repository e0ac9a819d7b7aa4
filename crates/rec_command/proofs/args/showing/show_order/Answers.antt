use Rattle.std.proofs.Common.{subst, sym}
use Rattle.clap.specs.Words.{found_of, rows_of}
use Rattle.rec_command.specs.declared.tools.Tool.TheVariants.{Show}
use Rattle.rec_command.specs.Words.{IsEditGiven, Orders}
use Rattle.rec_command.proofs.OrderLemmas.{order-needs}
use Rattle.rec_command.proofs.RefusalLemmas.{refuses-passed}
use Rattle.rec_command.proofs.args.showing.show_order.Goals as goal

pub returns-in_err-edit : goal.returns-in_err-edit
returns-in_err-edit c =
    let rows = rows_of (found_of c.args.options.now) in
    refuses-passed _ (Orders Show rows) _ c.from_residual.result c.from_residual.ensures.1 c.in_err-edit.ensures
    (λ order is.
    let needed = order-needs Show rows order is in
    (needed.0.0, subst (λ word. IsEditGiven word needed.0.0) (sym c.before_file.ensures) needed.0.1))
