use Rattle.std.proofs.Common.{◌∙◌, map, sym}
use Rattle.rec_text.specs.Places.{piece_of}
use Rattle.rec_text.proofs.lemmas.ListLemmas.{contained_is_among}
use Rattle.rec_tools.proofs.lemmas.batches.BatchLemmas.{is_known-field}
use Rattle.rec_tools.proofs.batches.is_known.Goals as goal

pub returns-then-is_field : goal.returns-then-is_field
returns-then-is_field c =
    is_known-field (map (λ name. name.now) c.args.names.now) (piece_of c.args.element.now) c.name.result.now _
    (sym c.is_field.ensures ∙ c.if-is_field.true) c.name.ensures (c.contains.ensures.value ∙ contained_is_among c.args.names.now c.name.result.now)
