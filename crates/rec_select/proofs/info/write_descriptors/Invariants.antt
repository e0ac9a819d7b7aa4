use Rattle.std.proofs.Common.{drop}
use Rattle.rec_select.proofs.lemmas.info.InfoLemmas.{AreHeadsTo}
use Rattle.rec_select.proofs.info.write_descriptors.Given as goal

abbrev pub invariant-loop-set : goal.invariant-loop-set
invariant-loop-set g l =
    AreHeadsTo l.database l.initial.records g.S.Sink.contents g.S.Sink.failure_count l.fn.out l.out l.sets l.passed l.records (drop l.set-index l.sets)
