use Rattle.rec_diff.specs.proving.Turns.{IsIn}
use Rattle.rec_diff.proofs.lemmas.comparing.BetweenLemmas.{all_in}
use Rattle.rec_diff.proofs.lemmas.comparing.LandmarkLemmas.{at_each}
use Rattle.rec_diff.proofs.comparing.hunks_by.Goals as goal

pub hunk_of-requires : goal.hunk_of-requires
hunk_of-requires c =
    at_each (IsIn c.args.texts.before.now c.args.texts.after.now 0 0) c.args.turns.now (all_in _ _ 0 0 c.args.turns.now c.requires) c.loop-turn.turn-index _ c.loop-turn-test.true
