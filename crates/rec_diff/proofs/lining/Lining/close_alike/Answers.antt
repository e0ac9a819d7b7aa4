use Rattle.std.proofs.Common.{refl}
use Rattle.std.proofs.lemmas.Bool.{and_parts}
use Rattle.rec_diff.proofs.lemmas.LiningLemmas.{closes_alike}
use Rattle.rec_diff.proofs.lemmas.RestLemmas.{not_true}
use Rattle.rec_diff.proofs.lining.Lining.close_alike.Goals as goal

pub returns : goal.returns
returns c =
    let parts = and_parts _ _ c.requires.alike in
    closes_alike _ _ c.args.self.now c.put_turn.new.self _ c.requires.lining c.in_ok-put_turn.ensures parts.0 (not_true _ parts.1) refl refl refl refl
