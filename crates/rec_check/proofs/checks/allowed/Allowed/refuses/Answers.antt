use Rattle.std.proofs.Common.{◌∙◌, ◌&&◌, not, ap, sym}
use Rattle.rec_text.specs.Elements.{name_of}
use Rattle.rec_text.specs.Places.{piece_of}
use Rattle.rec_check.specs.proving.Names.{allows}
use Rattle.rec_text.proofs.lemmas.elements.ElementLemmas.{field_test, no_field_test}
use Rattle.rec_check.proofs.checks.allowed.Allowed.refuses.Goals as goal

pub returns-in_default : goal.returns-in_default
returns-in_default c =
    sym (ap (λ b. b && not (allows c.args.self.now (name_of (piece_of c.args.element.now)))) (no_field_test c.args.element.now.kind c.args.element.now.raw.now c.in_default.not-Field))

pub returns : goal.returns
returns c =
    ap not (c.allows.ensures ∙ ap (allows c.args.self.now) c.name.ensures)
    ∙ sym (ap (λ b. b && not (allows c.args.self.now (name_of (piece_of c.args.element.now)))) (field_test (piece_of c.args.element.now) c.in-Field.is))
