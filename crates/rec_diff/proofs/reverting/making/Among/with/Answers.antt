use Rattle.rec_text.specs.Places.{piece_of}
use Rattle.rec_text.specs.Records.{is_blank_piece}
use Rattle.std.proofs.Common.{◌∙◌, sym}
use Rattle.rec_diff.proofs.lemmas.reverting.AmongLemmas.{with_fields, with_same}
use Rattle.rec_diff.proofs.reverting.making.Among.with.Goals as goal

pub returns-in-Some : goal.returns-in-Some
returns-in-Some c =
    with_fields c.args.self (is_blank_piece (piece_of c.args.element.now)) c.args.owner c.in-Some.record (sym c.is_blank.ensures ∙ c.if-is_blank.false) c.in-Nothing.is c.in-Some.is

pub returns-in_default : goal.returns-in_default
returns-in_default c = with_same c.args.self (is_blank_piece (piece_of c.args.element.now)) c.args.owner (sym c.is_blank.ensures ∙ c.if-is_blank.false) c.in_default.not-Nothing
