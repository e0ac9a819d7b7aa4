use Rattle.std.proofs.Common.{◌∙◌, sym, refl, eqb-true}
use Rattle.std.proofs.lemmas.Bool.{and_parts}
use Rattle.rec_diff.proofs.lemmas.LiningLemmas.{puts_none, puts_one, some_turn}
use Rattle.rec_diff.proofs.lining.Lining.put_turn.Goals as goal

pub returns-then-is_empty : goal.returns-then-is_empty
returns-then-is_empty c =
    let parts = and_parts _ _ (sym c.is_empty.ensures ∙ c.if-is_empty.true) in
    puts_none _ _ c.args.self.now c.trimmed-turn.result c.requires c.trimmed-turn.ensures (eqb-true _ _ parts.0) (eqb-true _ _ parts.1)

pub returns : goal.returns
returns c =
    puts_one _ _ c.args.self.now _ c.trimmed-turn.result c.requires c.trimmed-turn.ensures
    (some_turn _ _ c.args.self.now c.trimmed-turn.result c.requires c.trimmed-turn.ensures (sym c.is_empty.ensures ∙ c.if-is_empty.false))
    c.in_ok-push.ensures.items refl refl refl
