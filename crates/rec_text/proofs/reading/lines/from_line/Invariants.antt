use Rattle.std.proofs.Common.{◌≡◌, ◌-◌}
use Rattle.rec_text.specs.Lines.{after_lines}
use Rattle.rec_text.proofs.reading.lines.from_line.Given as goal

abbrev pub invariant-loop : goal.invariant-loop
invariant-loop l = after_lines (l.number - l.counter) l.rest ≡ after_lines (l.number - 1) l.text
