use Rattle.std.proofs.Common.{drop, flat_map}
use Rattle.rec_select.proofs.lemmas.info.InfoLemmas.{IsTakenTo}
use Rattle.rec_diff.specs.proving.Headings.{IsPassed}
use Rattle.rec_diff.specs.proving.Passages.{ArePassages, passage_text}
use Rattle.rec_diff.proofs.printing.write_hunks.Given as goal

abbrev pub invariant-loop-passage : goal.invariant-loop-passage
invariant-loop-passage g l = record {
  taken :
      IsTakenTo g.S.Sink.contents g.S.Sink.failure_count l.fn.out l.out (flat_map (passage_text l.texts.before.now l.texts.after.now) l.passages)
      (flat_map (passage_text l.texts.before.now l.texts.after.now) (drop l.passage-index l.passages));
  known : IsPassed l.texts.before.now l.texts.after.now l.passed;
  order : ArePassages l.texts.before.now l.texts.after.now l.passed.place.old l.passed.place.new (drop l.passage-index l.passages);
}
