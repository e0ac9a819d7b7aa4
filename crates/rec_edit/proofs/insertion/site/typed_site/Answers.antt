use Rattle.std.proofs.Common.{◌∙◌, ◌++◌, List, Option, Some, ap, sym}
use Rattle.std.specs.Prelude.{slice_get, option_and_then}
use Rattle.std.specs.Option.{option_map_or}
use Rattle.rec_text.specs.Places.{pieces_of}
use Rattle.rec_check.specs.declared.set.Set_.{Set_}
use Rattle.rec_edit.specs.Insertions.{Insertion, after_paragraph, last_of, range_of, at_end}
use Rattle.rec_edit.specs.proving.Sites.{heading}
use Rattle.rec_edit.proofs.lemmas.insertions.SiteLemmas.{find-place, find-none}
use Rattle.rec_edit.proofs.insertion.site.typed_site.Goals as goal

pub returns-in-Some : goal.returns-in-Some
returns-in-Some c = λ fields.
    let pieces = pieces_of c.args.elements.now in
    let end = at_end pieces (heading (Some c.args.record_type.now) ++ fields) in
    let put : Option Set_ → Insertion = λ found. option_map_or (after_paragraph pieces fields) (range_of c.args.records.now (option_and_then last_of found)) end in
    ap put (find-place c.args.record_type.now c.args.schema.now.sets.items c.in-Some.place c.in-Some.ensures)
    ∙ ap (λ (sets : List Set_). put (slice_get sets c.in-Some.place)) (sym c.sets.ensures) ∙ c.site_after_last.ensures fields end

pub returns-in-None : goal.returns-in-None
returns-in-None c = λ fields.
    let pieces = pieces_of c.args.elements.now in
    let end = at_end pieces (heading (Some c.args.record_type.now) ++ fields) in
    let put : Option Set_ → Insertion = λ found. option_map_or (after_paragraph pieces fields) (range_of c.args.records.now (option_and_then last_of found)) end in
    ap put (find-none c.args.record_type.now c.args.schema.now.sets.items c.in-None.ensures)
