use Rattle.std.proofs.Common.{◌∙◌, ◌++◌, [], ◌∷◌, ap, append-nil, sym}
use Rattle.std.proofs.lemmas.Bool.{cond-false, cond-true}
use Rattle.rec_text.specs.Places.{piece_of}
use Rattle.rec_text.specs.Records.{is_field_piece}
use Rattle.rec_diff.proofs.reverting.reading.add_field.Goals as goal

pub returns-in_ok-push : goal.returns-in_ok-push
returns-in_ok-push c =
    c.in_ok-push.ensures.items
    ∙ ap (λ l. c.args.fields.now.items ++ l) (sym (cond-true (is_field_piece (piece_of c.args.element.now)) (c.args.number ∷ []) [] (sym c.if-is_field.ensures)))

pub returns-else-is_field : goal.returns-else-is_field
returns-else-is_field c =
    sym (append-nil c.args.fields.now.items)
    ∙ ap (λ l. c.args.fields.now.items ++ l) (sym (cond-false (is_field_piece (piece_of c.args.element.now)) (c.args.number ∷ []) [] (sym c.if-is_field.ensures)))
