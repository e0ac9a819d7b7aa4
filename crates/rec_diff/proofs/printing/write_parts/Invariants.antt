use Rattle.std.proofs.Common.{◌≡◌, drop}
use Rattle.rec_select.proofs.lemmas.info.InfoLemmas.{IsTakenTo}
use Rattle.rec_diff.specs.proving.Passages.{end_from, lines_to}
use Rattle.rec_diff.specs.proving.Turns.{AreIn}
use Rattle.rec_diff.proofs.printing.write_parts.Given as goal

abbrev pub invariant-loop-turn : goal.invariant-loop-turn
invariant-loop-turn g l = record {
  taken :
      IsTakenTo g.S.Sink.contents g.S.Sink.failure_count l.fn.out l.out
      (lines_to l.texts.before.now l.texts.after.now l.passage.start l.passage.turns.now l.passage.end)
      (lines_to l.texts.before.now l.texts.after.now l.place (drop l.turn-index l.passage.turns.now) l.passage.end);
  order : AreIn l.texts.before.now l.texts.after.now l.place.old l.place.new (drop l.turn-index l.passage.turns.now);
  ends : end_from l.place (drop l.turn-index l.passage.turns.now) ≡ end_from l.passage.start l.passage.turns.now;
}
