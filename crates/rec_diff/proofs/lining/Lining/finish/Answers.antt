use Rattle.rec_diff.proofs.lemmas.LiningLemmas.{are_all}
use Rattle.rec_diff.proofs.lining.Lining.finish.Goals as goal

pub returns : goal.returns
returns c = are_all _ _ c.args.self c.close.new.self c.put_turn.new.self c.in_ok-close.ensures c.in_ok-put_turn.ensures
