use Rattle.std.proofs.Common.{◌∙◌, sym}
use Rattle.clap.specs.Words.{found_of, rows_of}
use Rattle.rec_command.specs.Words.{IsStyle, OrdersOrPreviews}
use Rattle.rec_command.proofs.OrderLemmas.{preview-needs}
use Rattle.rec_command.proofs.RefusalLemmas.{refuses-passed}
use Rattle.rec_command.proofs.args.previewing.change_or_preview.Goals as goal

pub returns-in_err-style : goal.returns-in_err-style
returns-in_err-style c = λ tool asks.
    let rows = rows_of (found_of c.args.options.now) in
    refuses-passed (IsStyle rows) (OrdersOrPreviews tool rows) _ c.from_residual.result c.from_residual.ensures.1 c.in_err-style.ensures
    (preview-needs tool rows c.args.change asks (sym c.is_given.ensures ∙ c.if-not-is_given.false))
