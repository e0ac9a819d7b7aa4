use Rattle.std.proofs.Common.{refl}
use Rattle.rec_diff.proofs.lemmas.comparing.LandmarkLemmas.{read_more}
use Rattle.rec_diff.proofs.comparing.landmarks.lines_of.Goals as goal

pub loop-line-preserved : goal.loop-line-preserved
loop-line-preserved c =
    read_more c.args.text.now c.loop-line.lines.items _ c.loop-line.rest.now c.in-Some.following.now _ c.loop-line.invariant c.in-Some.ensures refl c.in_ok-push.ensures.items
