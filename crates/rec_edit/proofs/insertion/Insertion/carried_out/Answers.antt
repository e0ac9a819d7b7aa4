use Rattle.std.proofs.Common.{◌≡◌, ◌∙◌, ℕ, List, [], None, ap, ap₂, arith, length, sym}
use Rattle.std.proofs.lemmas.List.{length-map}
use Rattle.rec_text.specs.Elements.{Piece, text_of}
use Rattle.rec_text.specs.Places.{piece_of, pieces_of}
use Rattle.rec_text.specs.Records.{elements_in}
use Rattle.rec_text.specs.declared.element.Element.{Element}
use Rattle.rec_edit.specs.Script.{settled}
use Rattle.rec_edit.specs.Insertions.{inserted}
use Rattle.rec_edit.specs.declared.outcome.Patched.{Patched}
use Rattle.rec_journal.specs.declared.patch.Hunk.{Hunk}
use Rattle.rec_edit.proofs.lemmas.blocks.InsertionLemmas.{text_parts, inserted_laid}
use Rattle.rec_edit.proofs.insertion.Insertion.carried_out.Goals as goal

size_of : (elements : List Element) (pieces : List Piece) → pieces_of elements ≡ pieces → length elements ≡ length pieces
size_of elements pieces same = sym (length-map elements piece_of) ∙ ap length same

pub lay_closed-requires-clause-fits : goal.lay_closed-requires-clause-fits
lay_closed-requires-clause-fits c =
    let sizes = text_parts c.args.database.now c.args.self.now.place c.text.ensures.whole c.requires.within in
    omega (arith, (c.in_ok-draft.ensures []).at, sizes, ap length c.text.ensures.text)

pub put-requires : goal.put-requires
put-requires c =
    let sizes = text_parts c.args.database.now c.args.self.now.place c.text.ensures.whole c.requires.within in
    record { fits = omega (arith, (c.in_ok-draft.ensures []).at, c.in_ok-lay_closed.ensures.reached, sizes, ap length c.text.ensures.text) }

pub keep-requires : goal.keep-requires
keep-requires c =
    let sizes = text_parts c.args.database.now c.args.self.now.place c.text.ensures.whole c.requires.within in
    let size = ap length (c.text_in.ensures ∙ ap (λ n. text_of (elements_in c.args.database.now (record { start = c.args.self.now.place; end = n })))
    (size_of c.elements.result.now c.args.database.now c.elements.ensures.pieces)) in
    record { fits = omega (arith, (c.in_ok-draft.ensures []).at, c.in_ok-lay_closed.ensures.reached, c.in_ok-put.ensures.reached, sizes, size, ap length c.text.ensures.text) }

pub finish-requires : goal.finish-requires
finish-requires c =
    let pieces = c.args.database.now in
    let new = c.requires.some.0 in
    let are = c.requires.some.1 in
    let text = c.text_in.ensures ∙ ap (λ n. text_of (elements_in pieces (record { start = c.args.self.now.place; end = n }))) (size_of c.elements.result.now pieces c.elements.ensures.pieces) in
    record {
      done = (
        settled (inserted (record { place = c.args.self.now.place; new = new }) pieces),
        inserted_laid pieces c.args.self.now.place c.text.ensures.whole c.requires.within c.in_ok-draft.draft c.lay_closed.new.draft c.put.new.self c.keep.new.self new
            c.text_in.result.now are.some text
            (c.in_ok-draft.ensures (settled (inserted (record { place = c.args.self.now.place; new = new }) pieces))) c.in_ok-lay_closed.ensures.laid
            (c.in_ok-put.ensures.carried_out new are.lines (c.deref.ensures.value ∙ are.is)) (λ parts. c.in_ok-keep.ensures.carried_out parts),
      );
    }

pub returns : goal.returns
returns c = λ new are.
    let pieces = c.args.database.now in
    let text = c.text_in.ensures ∙ ap (λ n. text_of (elements_in pieces (record { start = c.args.self.now.place; end = n }))) (size_of c.elements.result.now pieces c.elements.ensures.pieces) in
    let done =
    inserted_laid pieces c.args.self.now.place c.text.ensures.whole c.requires.within c.in_ok-draft.draft c.lay_closed.new.draft c.put.new.self c.keep.new.self new c.text_in.result.now are.some text
    (c.in_ok-draft.ensures (settled (inserted (record { place = c.args.self.now.place; new = new }) pieces))) c.in_ok-lay_closed.ensures.laid
    (c.in_ok-put.ensures.carried_out new are.lines (c.deref.ensures.value ∙ are.is)) (λ parts. c.in_ok-keep.ensures.carried_out parts) in
    let is = c.in_ok-patch.ensures (settled (inserted (record { place = c.args.self.now.place; new = new }) pieces)) done in
    let made : List Hunk → List ℕ → Patched = λ patch text. record { patch = patch; text = text; changed = 1; chosen = None } in
    ap₂ made is.0 is.1
