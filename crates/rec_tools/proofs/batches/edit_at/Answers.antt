use Rattle.std.proofs.Common.{◌≡◌, ◌∙◌, ap, sym, subst, take, slice_get, Some}
use Rattle.std.proofs.lemmas.Option.{slice_get-get_or}
use Rattle.rec_text.specs.Elements.{text_of}
use Rattle.rec_text.specs.Reading.{line_after}
use Rattle.rec_text.specs.Records.{elements_in}
use Rattle.rec_text.proofs.lemmas.elements.ElementLemmas.{text_of-take}
use Rattle.rec_tools.specs.Batches.{AsksFor}
use Rattle.rec_tools.proofs.batches.edit_at.Goals as goal

pub returns : goal.returns
returns c =
    let pieces = c.args.database.now in
    let own = c.in_ok-record.record.now in
    let found = c.in_ok-record.ensures.lookup in record {
      pieces = pieces;
      records = c.records.result;
      own = own;
      elements = c.elements.ensures.whole;
      listed = c.records.ensures;
      there = subst (λ records. slice_get records c.args.index ≡ Some own) c.as_slice.ensures
          (slice_get-get_or c.as_slice.result.now c.args.index own found.3.0 ∙ ap Some (sym (found.3.1 own)));
      asked = subst (λ piece. AsksFor piece c.in-Ok.edit)
          (c.elements_in-own.ensures.pieces ∙ ap (λ pieces. elements_in pieces own) c.elements.ensures.pieces) c.in-Ok.ensures;
      number = c.line_of-line.ensures
          ∙ ap line_after (ap (λ place. take place (text_of pieces)) c.place_of.ensures ∙ text_of-take own.start pieces);
    }
