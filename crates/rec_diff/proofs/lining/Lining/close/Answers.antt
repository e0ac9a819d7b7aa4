use Rattle.std.proofs.Common.{◌∙◌, sym, refl}
use Rattle.rec_diff.proofs.lemmas.LiningLemmas.{closes_apart}
use Rattle.rec_diff.proofs.lining.Lining.close.Goals as goal

pub returns : goal.returns
returns c = closes_apart _ _ c.args.self.now _ c.requires (sym c.is_open_alike.ensures ∙ c.if-is_open_alike.false) refl refl refl refl
