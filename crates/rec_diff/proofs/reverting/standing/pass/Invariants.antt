use Rattle.std.proofs.Common.{◌≡◌, ◌≤◌, List, Option, length}
use Rattle.rec_journal.specs.declared.patch.Hunk.{Hunk}
use Rattle.rec_diff.specs.declared.turn.Place.{Place}
use Rattle.rec_diff.specs.declared.turn.Turn.{Turn}
use Rattle.rec_diff.specs.proving.Weaving.{AreInStep, turns_past}
use Rattle.rec_diff.proofs.reverting.standing.pass.Given as goal

-- the turns that were passed come before, and those that are left go on from them
abbrev pub invariant-loop-other : goal.invariant-loop-other
invariant-loop-other l = record {
  past : (rest : List Turn → Place → Option (List Hunk))
      → turns_past l.turn rest l.fn.ahead.turns.now l.fn.ahead.place ≡ turns_past l.turn rest l.next.turns.now l.next.place;
  in_step : AreInStep l.fn.last l.next.place l.next.turns.now;
  reached : l.next.place.old ≤ l.turn.start.new;
}

abbrev pub decreases-loop-other : goal.decreases-loop-other
decreases-loop-other l = length l.next.turns.now
