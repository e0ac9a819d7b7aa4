use Rattle.std.proofs.Common.{◌∙◌}
use Rattle.std.proofs.lemmas.Bool.{false≢true}
use Rattle.rec_text.specs.Places.{piece_of}
use Rattle.rec_select.proofs.lemmas.selection.FilterLemmas.{no_field, text_found}
use Rattle.rec_select.proofs.filter.has_text.Goals as goal

pub returns-in_default : goal.returns-in_default
returns-in_default c = record {
  has = (λ no. absurd (false≢true no), λ has. absurd (no_field (piece_of c.args.element.now) c.args.text.now c.in_default.not-Field has));
  refusals = tt;
}

pub returns-clause-has : goal.returns-clause-has
returns-clause-has c =
    text_found (piece_of c.args.element.now) c.bytes.result.now c.args.text.now c.find.result c.is_some.result c.in-Field.is (c.bytes.ensures
    ∙ c.in_ok-value.ensures.value) c.find.ensures c.is_some.ensures
