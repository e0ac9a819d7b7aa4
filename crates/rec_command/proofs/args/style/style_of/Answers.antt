use Rattle.std.proofs.Common.{subst, sym}
use Rattle.clap.specs.Words.{found_of, rows_of}
use Rattle.rec_command.specs.Words.{IsContextGiven, IsStyle}
use Rattle.rec_command.proofs.RefusalLemmas.{refuses-passed}
use Rattle.rec_command.proofs.args.style.style_of.Goals as goal

pub returns-in_err-context : goal.returns-in_err-context
returns-in_err-context c =
    refuses-passed _ (IsStyle (rows_of (found_of c.args.options.now))) _ c.from_residual.result c.from_residual.ensures.1 c.in_err-context.ensures
    (λ style is. (style.context, subst (λ word. IsContextGiven word style.context) (sym c.given.ensures) is.1))
