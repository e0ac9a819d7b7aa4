use Rattle.std.proofs.Common.{ℕ, List, ◌++◌, ap, flat_map}
use Rattle.rec_select.proofs.lemmas.printing.PutsLemmas.{Prints-stopped}
use Rattle.rec_select.proofs.lemmas.info.InfoLemmas.{IsTakenTo-more, IsTakenTo-stopped}
use Rattle.rec_diff.proofs.marked.write_lines.Goals as goal

pub returns-in_err-write_line-clause-printed : goal.returns-in_err-write_line-clause-printed
returns-in_err-write_line-clause-printed g c =
    Prints-stopped c.from_residual.result c.from_residual.ensures.1
    (IsTakenTo-stopped _ _ c.loop-line.invariant (ap (flat_map (λ (line : List ℕ). c.args.mark.now ++ line)) c.in-Some.ensures.lines) c.in_err-write_line.ensures.printed)

pub loop-line-preserved : goal.loop-line-preserved
loop-line-preserved g c =
    IsTakenTo-more _ _ c.loop-line.invariant (ap (flat_map (λ (line : List ℕ). c.args.mark.now ++ line)) c.in-Some.ensures.lines) c.in_ok-write_line.ensures.printed
