use Rattle.memchr.specs.Find.{is_byte}
use Rattle.memchr.proofs.lemmas.CallerLemmas.{length-places}
use Rattle.rec_diff.proofs.lines.newlines.Goals as goal

pub returns-clause-count : goal.returns-clause-count
returns-clause-count c = rw (c.count.ensures, c.memchr_iter.ensures.value) (length-places (is_byte 10) c.args.bytes.now)
