use Rattle.std.proofs.Common.{[], ◌∷◌}
use Rattle.rec_text.specs.Places.{piece_of}
use Rattle.rec_text.specs.Values.{value_of}
use Rattle.rec_select.proofs.lemmas.printing.PutsLemmas.{Prints-append, Prints-stopped, HasStopped-prefix, HasStopped-failed}
use Rattle.rec_select.proofs.block.write_spaced_value.Goals as goal

pub returns-in_err-put_all : goal.returns-in_err-put_all
returns-in_err-put_all g c =
    let put = c.in_err-put_all.ensures in
    Prints-stopped c.from_residual.result c.from_residual.ensures.1
    (HasStopped-prefix {a = 32 ∷ []} (value_of (piece_of c.args.element.now)) (HasStopped-failed put.prefix put.counted put.failed put.refusals))

pub returns : goal.returns
returns g c =
    let put = c.in_ok-put_all.ensures in
    Prints-append {a = 32 ∷ []} (record { whole = put.all; sound = put.kept }) _ _ c.write_value.result c.write_value.ensures
