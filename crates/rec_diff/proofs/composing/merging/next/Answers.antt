use Rattle.rec_diff.specs.proving.Runs.{deeds_ahead}
use Rattle.rec_diff.proofs.lemmas.composing.RunLemmas.{deeds_ahead-done, none_first, none_then}
use Rattle.rec_diff.proofs.composing.merging.next.Goals as goal
use Rattle.rec_diff.proofs.composing.merging.next.Goals.{then-is_done-via-then-is_done, then-is_done-via-else-is_done+then-is_done-2}

pub returns-then-is_done : goal.returns-then-is_done
returns-then-is_done c = elim c.then-is_done.branch [
  | then-is_done-via-then-is_done w ↦
      none_first (deeds_ahead c.args.one.now) (deeds_ahead c.args.other.now) (deeds_ahead-done c.args.one.now (c.is_done.ensures.0 w.if-is_done.true))
  | then-is_done-via-else-is_done+then-is_done-2 w ↦
      none_then (deeds_ahead c.args.one.now) (deeds_ahead c.args.other.now) (deeds_ahead-done c.args.other.now (w.is_done-else-is_done.ensures.0 w.if-is_done-2.true))
]
