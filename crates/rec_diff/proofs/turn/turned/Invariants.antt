use Rattle.std.proofs.Common.{◌≡◌, map, take}
use Rattle.rec_diff.specs.proving.Weaving.{turn_turned}
use Rattle.rec_diff.proofs.turn.turned.Given as goal

-- those so far
abbrev pub invariant-loop-turn : goal.invariant-loop-turn
invariant-loop-turn l = l.back.items ≡ map turn_turned (take l.turn-index l.turns)
