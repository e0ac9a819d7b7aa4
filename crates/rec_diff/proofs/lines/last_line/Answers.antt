use Rattle.rec_diff.proofs.lemmas.LineLemmas.{last_ended}
use Rattle.rec_diff.proofs.lines.last_line.Goals as goal

pub returns : goal.returns
returns c =
    rw (c.split_at.ensures.front, c.split_at.ensures.back)
    (last_ended c.args.text.now _ _ c.open_start.result c.in_ok-inner.ensures.cases.0 c.open_start.ensures)
