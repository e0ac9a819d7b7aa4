use Rattle.std.proofs.Common.{◌≡◌, drop}
use Rattle.rec_diff.specs.proving.Keeping.{some_take_out}
use Rattle.rec_diff.proofs.reverting.keeping.gone.take_out.Given as goal

-- none of those so far does
abbrev pub invariant-loop-turn : goal.invariant-loop-turn
invariant-loop-turn l = some_take_out (drop l.turn-index l.turns) ≡ some_take_out l.turns
