use Rattle.std.proofs.Common.{◌≡◌, ◌∙◌, ◌++◌, ◌∷◌, [], ap, sym}
use Rattle.rec_text.specs.Bytes.{texts}
use Rattle.rec_check.specs.Words.{distinct}
use Rattle.rec_check.proofs.lemmas.checks.NameLemmas.{distinct-distinct, texts-added}
use Rattle.rec_check.proofs.checks.names.Names.add.Goals as goal
use Rattle.rec_check.proofs.checks.names.Names.add.Goals.{In_ok-insert}

added : (c : In_ok-insert) → texts c.insert.new.self.keys ≡ distinct (texts c.self.inside.names.keys ++ c.args.name.now ∷ [])
added c = ap texts c.in_ok-insert.ensures.keys ∙ texts-added c.self.inside.names.keys c.args.name c.self.invariant

pub invariant_of-self-2 : goal.invariant_of-self-2
invariant_of-self-2 c =
    let at = goal.at.invariant_of-self-2 c in
    let names = added at.In_ok-insert in
    ap distinct names ∙ distinct-distinct (texts c.self.inside.names.keys ++ c.args.name.now ∷ []) ∙ sym names

pub returns : goal.returns
returns c =
    let at = goal.at.returns c in
    added at.In_ok-insert ∙ ap (λ names. distinct (names ++ c.args.name.now ∷ [])) c.self.view_is
