use Rattle.std.proofs.Common.{◌≡◌, map, take}
use Rattle.rec_diff.specs.proving.Cutting.{hunk_at}
use Rattle.rec_diff.specs.proving.Turns.{site_of}
use Rattle.rec_diff.proofs.comparing.hunks_by.Given as goal

abbrev pub invariant-loop-turn : goal.invariant-loop-turn
invariant-loop-turn l = l.hunks.items ≡ map hunk_at (map (site_of l.texts.before.now l.texts.after.now) (take l.turn-index l.turns))
