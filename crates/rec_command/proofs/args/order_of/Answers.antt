use Rattle.clap.specs.Words.{found_of, rows_of}
use Rattle.rec_command.specs.declared.tools.Tool.TheVariants.{RecIns, RecDel, RecSet}
use Rattle.rec_command.specs.Words.{AsksEdit, Orders}
use Rattle.rec_command.proofs.OrderLemmas.{order-needs}
use Rattle.rec_command.proofs.RefusalLemmas.{refuses-passed}
use Rattle.rec_command.proofs.args.order_of.Goals as goal

pub returns-in_ok-insertion-in-RecIns : goal.returns-in_ok-insertion-in-RecIns
returns-in_ok-insertion-in-RecIns c = rw c.in-RecIns.is (c.edit_order.ensures RecIns c.in_ok-insertion-in-RecIns.ensures)

pub returns-in_err-insertion-in-RecIns : goal.returns-in_err-insertion-in-RecIns
returns-in_err-insertion-in-RecIns c =
    let rows = rows_of (found_of c.args.options.now) in
    rw c.in-RecIns.is (refuses-passed (AsksEdit RecIns rows) (Orders RecIns rows) _ c.from_residual.result
    c.from_residual.ensures.1 c.in_err-insertion-in-RecIns.ensures (order-needs RecIns rows))

pub returns-in_ok-deletion-in-RecDel : goal.returns-in_ok-deletion-in-RecDel
returns-in_ok-deletion-in-RecDel c = rw c.in-RecDel.is (c.edit_order-in-RecDel.ensures RecDel c.in_ok-deletion-in-RecDel.ensures)

pub returns-in_err-deletion-in-RecDel : goal.returns-in_err-deletion-in-RecDel
returns-in_err-deletion-in-RecDel c =
    let rows = rows_of (found_of c.args.options.now) in
    rw c.in-RecDel.is (refuses-passed (AsksEdit RecDel rows) (Orders RecDel rows) _ c.from_residual-in_err-deletion-in-RecDel.result
    c.from_residual-in_err-deletion-in-RecDel.ensures.1 c.in_err-deletion-in-RecDel.ensures (order-needs RecDel rows))

pub returns-in_ok-setting-in-RecSet : goal.returns-in_ok-setting-in-RecSet
returns-in_ok-setting-in-RecSet c = rw c.in-RecSet.is (c.edit_order-in-RecSet.ensures RecSet c.in_ok-setting-in-RecSet.ensures)

pub returns-in_err-setting-in-RecSet : goal.returns-in_err-setting-in-RecSet
returns-in_err-setting-in-RecSet c =
    let rows = rows_of (found_of c.args.options.now) in
    rw c.in-RecSet.is (refuses-passed (AsksEdit RecSet rows) (Orders RecSet rows) _ c.from_residual-in_err-setting-in-RecSet.result
    c.from_residual-in_err-setting-in-RecSet.ensures.1 c.in_err-setting-in-RecSet.ensures (order-needs RecSet rows))
