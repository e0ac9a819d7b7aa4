use Rattle.std.proofs.Common.{take}
use Rattle.rec_select.specs.Taken.{HasTaken}
use Rattle.rec_select.proofs.lemmas.printing.ExcerptLemmas.{IsFieldRun, fields_text}
use Rattle.rec_select.proofs.excerpt.Excerpt.write_fields.Given as goal

abbrev pub invariant-loop-at : goal.invariant-loop-at
invariant-loop-at g l = record {
  run : IsFieldRun l.self l.start l.at;
  printed :
      HasTaken g.S.Sink.contents g.S.Sink.failure_count l.fn.out l.out (fields_text (take l.start l.self));
}
