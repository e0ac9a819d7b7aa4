use Rattle.std.proofs.Common.{◌∙◌, sym}
use Rattle.rec_text.proofs.lemmas.ListLemmas.{is_nil-length}
use Rattle.rec_diff.proofs.lemmas.LineLemmas.{first_ended, first_open}
use Rattle.rec_diff.proofs.lines.first_line.Goals as goal

pub returns-in-Some : goal.returns-in-Some
returns-in-Some c = rw (c.split_at.ensures.front, c.split_at.ensures.back) (first_ended c.args.text.now _ _ c.in-Some.ensures)

pub returns : goal.returns
returns c =
    rw (c.split_at-2.ensures.front, c.split_at-2.ensures.back)
    (first_open c.args.text.now c.in_default.ensures (is_nil-length c.args.text.now ∙ sym c.is_empty.ensures ∙ c.if-is_empty.false))
