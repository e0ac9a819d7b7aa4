use Rattle.std.proofs.Common.{drop, flat_map}
use Rattle.rec_select.specs.Info.{name_line}
use Rattle.rec_select.proofs.lemmas.info.InfoLemmas.{IsTakenTo}
use Rattle.rec_select.proofs.info.write_names.Given as goal

abbrev pub invariant-loop-set : goal.invariant-loop-set
invariant-loop-set g l =
    IsTakenTo g.S.Sink.contents g.S.Sink.failure_count l.fn.out l.out (flat_map name_line l.sets) (flat_map name_line (drop l.set-index l.sets))
