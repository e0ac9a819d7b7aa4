use Rattle.std.proofs.Common.{Some, None, sym}
use Rattle.std.proofs.lemmas.Bool.{cond-true}
use Rattle.rec_text.specs.Places.{piece_of}
use Rattle.rec_text.specs.Records.{is_field_piece}
use Rattle.rec_diff.proofs.reverting.reading.owner_in.Goals as goal

pub returns-then-is_field : goal.returns-then-is_field
returns-then-is_field c = sym (cond-true (is_field_piece (piece_of c.args.element.now)) (Some c.args.number) None (sym c.if-is_field.ensures))
