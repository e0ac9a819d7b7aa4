use Rattle.std.proofs.Common.{ℕ, List, ◌++◌, length, flat_map}
use Rattle.rec_select.proofs.lemmas.info.InfoLemmas.{IsTakenTo}
use Rattle.rec_diff.specs.Lines.{lines}
use Rattle.rec_diff.proofs.marked.write_lines.Given as goal

abbrev pub invariant-loop-line : goal.invariant-loop-line
invariant-loop-line g l =
    IsTakenTo g.S.Sink.contents g.S.Sink.failure_count l.fn.out l.out (flat_map (λ (line : List ℕ). l.mark ++ line) (lines l.text)) (flat_map (λ (line : List ℕ). l.mark ++ line) (lines l.rest))

abbrev pub decreases-loop-line : goal.decreases-loop-line
decreases-loop-line g l = length l.rest
