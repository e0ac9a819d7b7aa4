use Rattle.std.proofs.Common.{subst, sym}
use Rattle.std.specs.Prelude.{Some}
use Rattle.clap.specs.Words.{found_of, rows_of}
use Rattle.rec_command.specs.declared.tools.Tool.TheVariants.{Revert}
use Rattle.rec_command.specs.Words.{IsEditGiven, Orders}
use Rattle.rec_command.proofs.OrderLemmas.{order-needs}
use Rattle.rec_command.proofs.RefusalLemmas.{refuses-passed}
use Rattle.rec_command.proofs.args.reverting.revert_order.Goals as goal

pub returns-in_err-number : goal.returns-in_err-number
returns-in_err-number c =
    let rows = rows_of (found_of c.args.options.now) in
    refuses-passed _ (Orders Revert rows) _ c.from_residual.result c.from_residual.ensures.1 c.in_err-number.ensures
    (λ order is.
    let needed = order-needs Revert rows order is in
    (Some needed.0, subst (λ word. IsEditGiven word (Some needed.0)) (sym c.given.ensures) needed.1))
