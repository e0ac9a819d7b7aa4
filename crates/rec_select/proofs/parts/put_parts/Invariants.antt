use Rattle.std.proofs.Common.{drop, flat_map}
use Rattle.rec_select.proofs.lemmas.info.InfoLemmas.{IsTakenTo}
use Rattle.rec_select.proofs.parts.put_parts.Given as goal

abbrev pub invariant-loop-part : goal.invariant-loop-part
invariant-loop-part g l =
    IsTakenTo g.S.Sink.contents g.S.Sink.failure_count l.fn.out l.out (flat_map (λ part. part.now) l.parts) (flat_map (λ part. part.now) (drop l.part-index l.parts))
