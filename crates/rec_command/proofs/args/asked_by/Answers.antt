use Rattle.std.proofs.Common.{codes}
use Rattle.clap.specs.Words.{first_of, found_of, rows_of}
use Rattle.rec_command.specs.declared.args.CommandLine.{CommandLine}
use Rattle.rec_command.specs.declared.args.paths.Paths.{Paths}
use Rattle.rec_command.specs.Words.{FitsDiff, IsAskedBy, IsJournal, Orders, OrdersOrPreviews, file_given}
use Rattle.rec_command.proofs.OrderLemmas.{asked-orders, same-journal}
use Rattle.rec_command.proofs.RefusalLemmas.{refuses-passed}
use Rattle.rec_command.proofs.args.asked_by.Goals as goal

pub returns : goal.returns
returns c =
    record {
      order = c.in_ok-order.ensures c.args.tool c.in_ok-order_of.ensures;
      unified = c.in_ok-require_diff.ensures;
      file = c.in_ok-file.ensures.file;
      journal = c.in_ok-file.ensures.journal;
    }

pub returns-in_err-require_diff : goal.returns-in_err-require_diff
returns-in_err-require_diff c =
    let rows = rows_of (found_of c.args.options.now) in
    refuses-passed (λ (_ : Unit {0}). FitsDiff c.args.tool rows) (IsAskedBy c.args.tool rows) _ c.from_residual.result c.from_residual.ensures.1
    c.in_err-require_diff.ensures (λ line is. (tt, is.unified))

pub returns-in_err-order_of : goal.returns-in_err-order_of
returns-in_err-order_of c =
    let rows = rows_of (found_of c.args.options.now) in
    refuses-passed (Orders c.args.tool rows) (IsAskedBy c.args.tool rows) _ c.from_residual-in_err-order_of.result c.from_residual-in_err-order_of.ensures.1
    c.in_err-order_of.ensures (λ line is. asked-orders c.args.tool rows line.order is.order)

pub returns-in_err-order : goal.returns-in_err-order
returns-in_err-order c =
    let rows = rows_of (found_of c.args.options.now) in
    refuses-passed (OrdersOrPreviews c.args.tool rows) (IsAskedBy c.args.tool rows) _ c.from_residual-in_err-order.result
    c.from_residual-in_err-order.ensures.1 (c.in_err-order.ensures c.args.tool c.in_ok-order_of.ensures)
    (λ line is. (line.order, is.order))

pub returns-in_err-file : goal.returns-in_err-file
returns-in_err-file c =
    let rows = rows_of (found_of c.args.options.now) in
    let order = c.in_ok-order.order in
    refuses-passed
    (λ (paths : Paths). IsJournal order (file_given rows) (first_of (codes "journal") rows) paths.journal)
    (IsAskedBy c.args.tool rows) _ c.from_residual-in_err-file.result c.from_residual-in_err-file.ensures.1
    c.in_err-file.ensures.journal
    (λ (line : CommandLine) is. (
      record { file = line.file; journal = line.journal },
      same-journal c.args.tool rows order line.order (c.in_ok-order.ensures c.args.tool c.in_ok-order_of.ensures) is.order _ _ _ is.journal,
    ))
