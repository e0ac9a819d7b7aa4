use Rattle.std.proofs.Common.{ap, rules}
use Rattle.std.specs.Vec.Iter.{into_iter_items}
use Rattle.std.proofs.lemmas.Iterator.{items_from_collect}
use Rattle.std.proofs.lemmas.Iterator.Adapters.{YieldsList-from_skip, YieldsList-from_vec}
use Rattle.rec_command.proofs.args.after_first.Goals as goal

pub returns : goal.returns
returns c =
    items_from_collect c.collect.result (search rules)
    (YieldsList-from_skip {s = c.skip.result} 1 (YieldsList-from_vec (into_iter_items c.args.words) (ap into_iter_items c.skip.ensures.source) (search rules))
    c.skip.ensures.count)
