use Rattle.std.proofs.Common.{◌-◌, ◌==◌, ◌∙◌, ap, drop, length, take}
use Rattle.memchr.proofs.lemmas.CallerLemmas.{length-places}
use Rattle.rec_check.proofs.checks.lines.newlines.Goals as goal

pub returns : goal.returns
returns c = record {
  count = c.count.ensures ∙ ap length c.memchr_iter.ensures.value ∙ length-places (λ b. b == 10) (take (c.args.to - c.args.from) (drop c.args.from c.args.text.now));
}
