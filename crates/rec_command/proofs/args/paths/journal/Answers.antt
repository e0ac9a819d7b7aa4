use Rattle.std.specs.Prelude.{Some}
use Rattle.rec_command.specs.Words.{IsJournal}
use Rattle.rec_command.proofs.OrderLemmas.{apart-given}
use Rattle.rec_command.proofs.RefusalLemmas.{refuses-passed}
use Rattle.rec_command.proofs.args.paths.journal.Goals as goal

pub returns-in_err-require_apart : goal.returns-in_err-require_apart
returns-in_err-require_apart c =
    rw (c.in-Some-Some.is-0, c.in-Some-Some.is-1) (refuses-passed _
    (IsJournal c.args.order.now (Some c.in-Some-Some.file.now) (Some c.in-Some-Some.given.now)) _
    c.from_residual.result c.from_residual.ensures.1 c.in_err-require_apart.ensures
    (λ journal is. (tt, apart-given c.args.order.now c.in-Some-Some.file.now c.in-Some-Some.given.now _ is)))

pub returns-in_err-require_apart-2 : goal.returns-in_err-require_apart-2
returns-in_err-require_apart-2 c =
    rw (c.in-Some.is, c.in-Some-given.is) (refuses-passed _ (IsJournal c.args.order.now (Some c.in-Some.file.now) (Some c.in-Some-given.given.now)) _
    c.from_residual-in_err-require_apart-2.result c.from_residual-in_err-require_apart-2.ensures.1 c.in_err-require_apart-2.ensures
    (λ journal is. (tt, apart-given c.args.order.now c.in-Some.file.now c.in-Some-given.given.now _ is)))
